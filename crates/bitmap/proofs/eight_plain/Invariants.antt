use mathlib.Core.Path.{◌≡◌}
use Prim.Native.Nat.{◌+◌}
use Rattle.bitmap.specs.Steps.{WordsAlike}
use Rattle.bitmap.proofs.eight_plain.Given as goal

abbrev pub invariant-loop-word : goal.invariant-loop-word
invariant-loop-word l = l.unlike ≡ 0 → WordsAlike l.map l.plain l.w (l.w + l.word-index)
