use lib.ListN.{take}
use Rattle.settle_slots.specs.Settling.{Gave}
use Rattle.settle_slots.proofs.give_slots.Given as goal

abbrev pub invariant-loop-k : goal.invariant-loop-k
invariant-loop-k l = Gave l.initial.free_slots l.free_slots (take l.k-index l.slots)
