use native.Mathlib.Omega.{arith}
use borrow.Author.Tests.{eqb-true, ltb-true}
use Rattle.choose_pieces.proofs.PassingOver.{together_all, together_next, together_none}
use Rattle.choose_pieces.proofs.all_shorter.Goals as goal

pub loop-j-init : goal.loop-j-init
loop-j-init c = together_none c.args.rec.now 0 0

pub loop-j-preserved : goal.loop-j-preserved
loop-j-preserved c =
    let l = c.loop-j in
    let p = c.entry_place-p in
    together_next _ l.cylinders l.odd l.j p.result c.max-odd.result p.ensures.0 (omega arith) (omega arith) l.invariant

pub returns-then-cylinders-eq0 : goal.returns-then-cylinders-eq0
returns-then-cylinders-eq0 c =
    let l = c.loop-j in
    let u = c.args.u in
    λ e. together_all _ l.cylinders l.odd l.j u c.loop-j-test.false c.if-cylinders-eq0.true (omega (arith, c.from.ensures, ltb-true c.from.result u e)) l.invariant

pub returns-else-cylinders-eq0 : goal.returns-else-cylinders-eq0
returns-else-cylinders-eq0 c = λ e. absurd (c.if-cylinders-eq0.false (eqb-true _ _ e))
