use mathlib.Core.Path.{◌≡◌, refl, ◌∙◌}
use Prim.Native.Nat.{◌+◌, ◌/◌, ◌%◌}
use native.Mathlib.Omega.{arith}
use Rattle.model.specs.Basics.{be2}
use Rattle.dscb_write.proofs.Filling.{copied_over}
use Rattle.dscb_write.proofs.put_two.Goals as goal

pub returns : goal.returns
returns c =
    let a = c.args in
    let h : a.v / 256 % 256 ≡ a.v / 256 = omega arith in
    copied_over a.rec.now a.at (a.at + 2) _ (be2 a.v) (c.copy_from_slice.ensures.after ∙ c.to_be_bytes.ensures ∙ rw h) refl (omega arith)
