use mathlib.Core.Path.{◌≡◌}
use Prim.Native.Nat.{◌+◌, ◌*◌, ◌≤◌}
use Rattle.bitmap.specs.Steps.{runs_below}
use Rattle.bitmap.proofs.starts_in_eight.Given as goal

abbrev pub invariant-loop-i : goal.invariant-loop-i
invariant-loop-i l = (l.count ≤ 64 * l.i) × (runs_below l.map (64 * l.w + 64 * l.i) ≡ runs_below l.map (64 * l.w) + l.count)
