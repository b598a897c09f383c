use Rattle.choose_pieces.proofs.Options.{Taking}
use Rattle.choose_pieces.proofs.whole_pieces.Given as goal

abbrev pub invariant-loop-k : goal.invariant-loop-k
invariant-loop-k l = Taking l.u l.amount l.most l.fn.five l.pieces l.k
