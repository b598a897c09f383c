use mathlib.Core.Path.{◌≡◌}
use lib.ListN.{length}
use Rattle.choose_pieces.proofs.Entering.{Entering}
use Rattle.choose_pieces.proofs.enter.Given as goal

abbrev pub invariant-loop-place : goal.invariant-loop-place
invariant-loop-place l = (length l.five ≡ 5) × Entering l.c.count l.initial.held l.initial.five l.held l.five l.place-index
