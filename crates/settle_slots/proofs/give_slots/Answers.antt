use Rattle.settle_slots.proofs.Slots.{gave_next}
use Rattle.settle_slots.proofs.give_slots.Goals as goal

pub loop-k-preserved : goal.loop-k-preserved
loop-k-preserved c = gave_next c.args.free_slots.now c.loop-k.free_slots _ c.args.slots.now c.loop-k.k-index c.loop-k-test.true c.loop-k.invariant c.give_range.ensures
