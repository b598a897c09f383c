use Prim.Native.Nat.{◌*◌}
use Rattle.bitmap.specs.Steps.{Counts}
use Rattle.bitmap.proofs.count_eights.Given as goal

abbrev pub invariant-loop-k : goal.invariant-loop-k
invariant-loop-k l = Counts l.map (64 * (8 * l.k)) l.c.runs l.c.last
