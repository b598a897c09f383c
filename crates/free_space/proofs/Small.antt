-- The parts of release: the test of the TTR, and the data set cut. Assumes nothing.
use mathlib.Core.Path.{refl, ◌∙◌}
use mathlib.Core.List.{List}
use Prim.Native.Nat.{ℕ}
use Rattle.model.specs.Model.{Geometry, Label}
use Rattle.dscb_write.specs.Labels.{Format1, with_ttr}
use Rattle.dscb_write.proofs.Following.{same_extents}
use Rattle.set_extents.specs.Change.{InRecords}

-- another last block changes the format 1 only
pub ended : {g : Geometry} {l : Label} {f1 f1' f3 : List ℕ} (ttr : ℕ) → InRecords g l f1 f3 → Format1 g (with_ttr ttr l) f1' → InRecords g (with_ttr ttr l) f1' f3
ended {g} {l} ttr x f = record { one = f; three = x.three ∙ same_extents g l (with_ttr ttr l) refl }
