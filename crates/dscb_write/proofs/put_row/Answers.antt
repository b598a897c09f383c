use mathlib.Core.Path.{refl}
use Prim.Native.Nat.{◌+◌}
use native.Mathlib.Omega.{arith}
use lib.ListN.{length}
use Rattle.dscb_write.proofs.Filling.{copied_over}
use Rattle.dscb_write.proofs.put_row.Goals as goal

pub returns : goal.returns
returns c = let a = c.args in copied_over a.rec.now a.at (a.at + length a.s.now) _ a.s.now c.copy_from_slice.ensures.after refl (omega arith)
