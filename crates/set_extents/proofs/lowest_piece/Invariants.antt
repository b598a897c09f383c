use Prim.Native.Nat.{◌≤◌}
use Rattle.set_extents.proofs.Pieces.{LowestSoFar}
use Rattle.set_extents.proofs.lowest_piece.Given as goal

abbrev pub invariant-loop-start : goal.invariant-loop-start
invariant-loop-start l = (l.lo ≤ l.most) × LowestSoFar l.pieces l.start-index l.lo
