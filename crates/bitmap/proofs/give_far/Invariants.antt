use Prim.Native.Nat.{◌≤◌, ◌-◌}
use Rattle.bitmap.specs.Map.{Made}
use Rattle.bitmap.proofs.give_far.Given as goal

abbrev pub invariant-loop-t : goal.invariant-loop-t
invariant-loop-t l = (l.s ≤ l.t) × (l.t ≤ l.e) × Made 1 l.initial.map l.map l.s l.t

abbrev pub decreases-loop-t : goal.decreases-loop-t
decreases-loop-t l = l.e - l.t
