use native.Mathlib.Omega.{arith}
use mathlib.Core.Path.{sym}
use Rattle.replay_step.proofs.Laws.{lent_long, reported}
use Rattle.replay_step.proofs.report.Goals as goal

pub slice_bounds-digest-end : goal.slice_bounds-digest-end
slice_bounds-digest-end c = lent_long _ 65536 c.args.table.now c.requires.1 (let h = c.table_lent-n.ensures.1 in omega arith)

pub slice_bounds-digest-end-2 : goal.slice_bounds-digest-end-2
slice_bounds-digest-end-2 c = lent_long _ 288 c.args.labels.now c.requires.3 c.labels_lent-m.ensures.1

pub slice_bounds-put_line-end : goal.slice_bounds-put_line-end
slice_bounds-put_line-end c = lent_long 24 32 c.args.answer.now c.requires.2 (omega arith)

pub put_line-requires : goal.put_line-requires
put_line-requires c = (c.requires.4, sym (lent_long 24 32 c.args.answer.now c.requires.2 (omega arith)))

pub returns : goal.returns
returns c =
    reported c.args.asked.now c.args.table.now c.args.answer.now c.args.labels.now c.args.r _ _ _ _ c.table_lent-n.ensures.0 c.labels_lent-m.ensures.0 c.digest-t.ensures c.digest-l.ensures c.put_line.ensures
