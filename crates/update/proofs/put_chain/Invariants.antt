use Rattle.dscb.specs.Forms.{geometry_of}
use Rattle.update.proofs.Slots.{Chaining}
use Rattle.update.proofs.put_chain.Given as goal

abbrev pub invariant-loop-i : goal.invariant-loop-i
invariant-loop-i l = Chaining (geometry_of l.g) l.free_tracks l.chain l.initial.table l.table l.start l.at l.i
