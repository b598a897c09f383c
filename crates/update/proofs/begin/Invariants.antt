use Rattle.update.specs.Writing.{Reached}
use Rattle.update.proofs.begin.Given as goal

abbrev pub invariant-loop-i : goal.invariant-loop-i
invariant-loop-i l = Reached l.table l.chain l.lo l.place.from l.place.at
