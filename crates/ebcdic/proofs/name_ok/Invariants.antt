use Rattle.ebcdic.proofs.Pairs.{PairsUpto}
use Rattle.ebcdic.proofs.name_ok.Given as goal

abbrev pub invariant-loop-at : goal.invariant-loop-at
invariant-loop-at l = PairsUpto l.name l.at
