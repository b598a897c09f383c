use Prim.Native.Nat.{ℕ, ◌≤◌, ◌<◌}
use mathlib.Core.Path.{◌≡◌}
use mathlib.Core.Bool.{Bool}
use mathlib.Core.List.{List}
use lib.ListN.{length}
use Rattle.model.specs.Model.{slots, tracks}
use Rattle.dscb.specs.Forms.{geometry_of}
use Rattle.bitmap.specs.Map.{free_from}
use Rattle.check_chain.specs.Chain.{ChainGone}
use Rattle.check_chain.proofs.take_chain.Given as goal

abbrev pub invariant-loop-slot : goal.invariant-loop-slot
invariant-loop-slot l =
    (l.k < slots (geometry_of l.g)) × (l.at ≤ tracks (geometry_of l.g)) × (length l.free_slots ≡ length l.initial.free_slots)
    × ((s : List ℕ) (r : Bool) → ChainGone (geometry_of l.g) l.table (free_from l.free_tracks (tracks (geometry_of l.g)) l.at) l.k l.free_slots s r → ChainGone (geometry_of l.g) l.table (free_from l.free_tracks (tracks (geometry_of l.g)) 0) 1 l.initial.free_slots s r)

abbrev pub decreases-loop-slot : goal.decreases-loop-slot
decreases-loop-slot l = length (free_from l.free_tracks (tracks (geometry_of l.g)) l.at)
