use mathlib.Core.List.{List}
use mathlib.Core.Path.{ap, ◌∙◌}
use Prim.Native.Nat.{ℕ}
use lib.ListN.{get_or, length}
use Rattle.dscb.proofs.Tens.{extent_length}
use native.Mathlib.Omega.{arith}
use Rattle.set_extents.proofs.type_if.Goals as goal

pub bounds-x-0 : goal.bounds-x-0
bounds-x-0 c =
    let l = ap length c.extent_part-x.ensures ∙ extent_length c.args.f1.now c.args.f3.now c.args.e c.requires.0 c.requires.1 c.requires.2 in
    omega arith

pub returns-then-stays : goal.returns-then-stays
returns-then-stays c = λ h. ap (λ (x : List ℕ). get_or x 0 0) c.extent_part-x.ensures ∙ rw c.if-stays.true

pub returns : goal.returns
returns c = λ h. rw c.if-stays.false
