use Rattle.answers.proofs.Laws.{numbers_all, numbers_next, numbers_none}
use Rattle.model.proofs.Lists.{All_at}
use lib.ListN.{length}
use native.Mathlib.Omega.{arith}
use mathlib.Core.Path.{◌≡◌, ◌∙◌}
use Prim.Native.Nat.{◌<◌}
use borrow.Author.Rules.{rules}
use Rattle.answers.proofs.put_numbers.Goals as goal

pub loop-i-init : goal.loop-i-init
loop-i-init c = numbers_none c.args.six

pub overflow_cast-n : goal.overflow_cast-n
overflow_cast-n c =
    let n : length c.args.six ≡ 6 = search rules in
    omega (arith, All_at (λ x. x < 65536) 0 c.args.six c.requires.1 c.loop-i.i (omega arith))

pub loop-i-preserved : goal.loop-i-preserved
loop-i-preserved c =
    let n : length c.args.six ≡ 6 = search rules in
    c.put_two.ensures ∙ rw c.loop-i.invariant (numbers_next c.args.six c.loop-i.i (omega arith) n)

pub returns : goal.returns
returns c =
    let n : length c.args.six ≡ 6 = search rules in
    c.copy_from_slice.ensures.after ∙ c.loop-i.invariant ∙ numbers_all c.args.six c.loop-i.i n (omega arith)
