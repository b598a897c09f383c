use mathlib.Core.Path.{◌≡◌}
use mathlib.Core.List.{List}
use Prim.Native.Nat.{◌-◌, ◌<◌}
use lib.ListN.{length}
use Rattle.model.specs.Model.{Run, run, slots}
use Rattle.dscb.specs.Forms.{geometry_of}
use Rattle.free_extents.specs.FreeList.{Listed}
use Rattle.choose_pieces.specs.Pass.{to_runs}
use Rattle.free_extents.proofs.Walk.{Going}
use Rattle.choose_pieces.proofs.Passing.{Onwards}
use Rattle.choose_pieces.proofs.survey.Given as goal

abbrev pub invariant-loop : goal.invariant-loop
invariant-loop l =
    (length l.five ≡ 5) × (l.k < slots (geometry_of l.g))
    × ((f : List Run) → Listed (geometry_of l.g) l.table f → Going (geometry_of l.g) l.table (l.end - l.counter) l.k (Onwards l.u l.amount f (to_runs l.initial.five) (run l.best.start l.best.count) (to_runs l.five)))
