use Prim.Native.Nat.{◌+◌, ◌*◌}
use Rattle.bitmap.specs.Steps.{Counts}
use Rattle.bitmap.proofs.count_rest.Given as goal

abbrev pub invariant-loop-word : goal.invariant-loop-word
invariant-loop-word l = Counts l.map (64 * (l.w + l.word-index)) l.runs l.last
