use Rattle.update.proofs.Slots.{clear_end, clear_next}
use Rattle.update.proofs.clear.Goals as goal

pub loop-k-preserved : goal.loop-k-preserved
loop-k-preserved c =
    rw (c.put_record.ensures, c.from.ensures) (clear_next c.args.table.now c.args.slots.now c.loop-k.table c.loop-k.k-index c.loop-k.invariant c.loop-k-test.true)

pub returns : goal.returns
returns c = clear_end c.args.table.now c.args.slots.now c.loop-k.table c.loop-k.k-index c.loop-k.invariant c.loop-k-test.false
