-- The slot that a record is linked to lies in the VTOC.
use mathlib.Core.List.{List}
use Prim.Native.Nat.{ℕ, ◌<◌}
use native.Mathlib.Omega.{arith}
use Rattle.model.specs.Basics.{part}
use Rattle.model.specs.Model.{Geometry, slots}
use Rattle.rules.specs.Predicates.{Limits}
use Rattle.dscb.proofs.Links.{slot_below}
use Rattle.dscb.specs.Forms.{linked_slot}

pub linked_below : (g : Geometry) (r : List ℕ) → Limits g → linked_slot g r < slots g
linked_below g r l = slot_below g.heads g.records g.vtoc_start (slots g) (part 135 5 r) (omega (arith, l.least))
