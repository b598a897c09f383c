use mathlib.Core.Path.{◌≡◌, refl, ◌∙◌}
use Prim.Native.Nat.{◌+◌, ◌/◌, ◌%◌}
use native.Mathlib.Omega.{arith}
use Rattle.model.specs.Basics.{be3}
use Rattle.dscb_write.proofs.Filling.{copied_over}
use Rattle.dscb_write.proofs.put_three.Goals as goal

pub returns : goal.returns
returns c =
    let a = c.args in
    let h : a.v / 65536 % 256 ≡ a.v / 65536 = omega arith in
    copied_over a.rec.now a.at (a.at + 3) _ (be3 a.v) (c.copy_from_slice.ensures.after ∙ rw (c.to_be_bytes.ensures, h)) refl (omega arith)
