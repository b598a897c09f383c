use Rattle.replay_record.proofs.Laws.{over_behind, over_copied}
use Rattle.replay_record.proofs.put_over.Goals as goal

pub returns-then-place-table : goal.returns-then-place-table
returns-then-place-table c =
    over_copied c.args.table.now c.args.s.now c.copy.new.to c.args.place _ c.if-place-table.true c.min-n.ensures c.copy.ensures.1

pub returns-else-place-table : goal.returns-else-place-table
returns-else-place-table c = over_behind c.args.table.now c.args.s.now c.args.place c.if-place-table.false
