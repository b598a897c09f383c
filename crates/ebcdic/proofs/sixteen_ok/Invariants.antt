use Rattle.ebcdic.specs.Pairs.{Tells, sixteen_to}
use Rattle.ebcdic.proofs.sixteen_ok.Given as goal

abbrev pub invariant-loop-i : goal.invariant-loop-i
invariant-loop-i l = Tells l.bad (sixteen_to l.name l.pair l.row l.i)
