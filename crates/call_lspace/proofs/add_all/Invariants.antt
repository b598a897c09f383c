use mathlib.Core.List.{List}
use Prim.Native.Nat.{◌<◌, ◌+◌, ◌-◌, ◌*◌}
use Rattle.model.specs.Model.{Run, slots}
use Rattle.dscb.specs.Forms.{geometry_of}
use Rattle.free_extents.specs.FreeList.{Listed}
use Rattle.free_extents.proofs.Walk.{Going}
use Rattle.call_lspace.specs.Totals.{Below}
use Rattle.call_lspace.proofs.Laws.{SumsOnwards}
use Rattle.call_lspace.proofs.add_all.Given as goal

abbrev pub invariant-loop : goal.invariant-loop
invariant-loop l =
    (l.k < slots (geometry_of l.g)) × Below (l.counter * 434503680 + 16711680) l.s
    × ((f : List Run) → Listed (geometry_of l.g) l.table f → Going (geometry_of l.g) l.table (l.end - l.counter) l.k (SumsOnwards l.g.heads f l.s))
