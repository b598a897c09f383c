use Rattle.replay_step.proofs.Laws.{loads}
use Rattle.replay_step.proofs.do_put.Goals as goal

pub returns : goal.returns
returns c = loads c.args.asked.now c.args.table.now _ c.four-place.ensures c.bytes_of.ensures c.put_over.ensures
