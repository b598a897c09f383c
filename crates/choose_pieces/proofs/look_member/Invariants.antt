use mathlib.Core.Path.{◌≡◌}
use mathlib.Core.List.{List}
use Prim.Native.Nat.{◌+◌, ◌*◌, ◌≤◌}
use lib.ListN.{drop, get_or, length}
use Rattle.model.specs.Model.{Run, run}
use Rattle.free_extents.specs.FreeList.{Entries}
use Rattle.choose_pieces.specs.Pass.{LookedOver, no_units, to_runs}
use Rattle.choose_pieces.proofs.look_member.Given as goal

abbrev pub invariant-loop-j : goal.invariant-loop-j
invariant-loop-j l =
    (length l.five ≡ 5)
    × ((f : List Run) (best : Run) (ds : List Run) → Entries l.h l.rec f → LookedOver l.u l.amount (drop l.j f) (run l.now.start l.now.count) best (to_runs l.five) ds → LookedOver l.u l.amount f (run l.initial.now.start l.initial.now.count) best (to_runs l.initial.five) ds)
    × (l.least ≤ l.amount * l.u) × (l.least ≤ ((get_or l.five 4 no_units).count + 1) * l.u)
