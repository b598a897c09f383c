use mathlib.Core.Path.{◌≡◌}
use Prim.Native.Nat.{◌+◌, ◌-◌, ◌≤◌}
use Rattle.model.specs.Model.{total}
use Rattle.bitmap.specs.Map.{free_from}
use Rattle.settle_slots.proofs.count_free.Given as goal

abbrev pub invariant-loop-at : goal.invariant-loop-at
invariant-loop-at l = (l.at ≤ l.end) × (l.count ≤ l.at) × (l.count + total (free_from l.free_slots l.end l.at) ≡ total (free_from l.free_slots l.end 0))

abbrev pub decreases-loop-at : goal.decreases-loop-at
decreases-loop-at l = l.end - l.at
