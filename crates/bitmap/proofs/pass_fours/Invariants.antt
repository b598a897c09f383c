use Prim.Native.Nat.{◌+◌, ◌*◌}
use Rattle.bitmap.specs.Steps.{WordsAlike}
use Rattle.bitmap.proofs.pass_fours.Given as goal

abbrev pub invariant-loop-k : goal.invariant-loop-k
invariant-loop-k l = WordsAlike l.map l.plain l.w (l.w + 4 * l.k)
