use Rattle.update.proofs.Slots.{Clearing}
use Rattle.update.proofs.clear.Given as goal

abbrev pub invariant-loop-k : goal.invariant-loop-k
invariant-loop-k l = Clearing l.initial.table l.slots l.table l.k-index
