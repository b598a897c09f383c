use mathlib.Core.Path.{◌≡◌, sym, ◌∙◌}
use native.Mathlib.Omega.{arith}
use borrow.Author.Rules.{rules}
use Rattle.choose_pieces.proofs.Reply.{counting_none, counting_next, counted_here, counted_all}
use Rattle.choose_pieces.proofs.count_pieces.Goals as goal

pub loop-count-init : goal.loop-count-init
loop-count-init c = (omega arith, counting_none c.args.pieces)

pub returns-then-n-eq0 : goal.returns-then-n-eq0
returns-then-n-eq0 c = counted_here c.loop-count.invariant.1 (search rules) c.loop-count-test.true _ c.from-n.ensures c.if-n-eq0.true

pub loop-count-preserved : goal.loop-count-preserved
loop-count-preserved c =
    (search rules, counting_next c.loop-count.invariant.1 (search rules) c.loop-count-test.true _ c.from-n.ensures c.if-n-eq0.false)

pub returns : goal.returns
returns c =
    let l = c.loop-count in
    let e : l.count ≡ 5 = omega arith in
    let a = counted_all l.invariant.1 (search rules) (omega arith) in
    (sym e ∙ a.0, a.1)
