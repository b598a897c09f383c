use Rattle.settle_slots.proofs.Slots.{end_part}
use Rattle.update.proofs.freed.Goals as goal

pub returns : goal.returns
returns c = end_part c.args.chain.now c.args.plan.was c.args.plan.need c.min.result c.min.ensures
