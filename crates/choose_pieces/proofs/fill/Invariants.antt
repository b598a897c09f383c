use Rattle.choose_pieces.proofs.Gathering.{PiecesFilling}
use Rattle.choose_pieces.proofs.fill.Given as goal

abbrev pub invariant-loop-k : goal.invariant-loop-k
invariant-loop-k l = PiecesFilling l.u l.amount l.next-items l.rest l.pieces l.k
