use native.Mathlib.Omega.{arith}
use Rattle.replay_step.proofs.Laws.{obtains, lent_long}
use Rattle.replay_step.proofs.do_obtain.Goals as goal

pub slice_bounds-vtoc_obtain-end : goal.slice_bounds-vtoc_obtain-end
slice_bounds-vtoc_obtain-end c = lent_long _ 65536 c.args.table.now c.requires.1 (let h = c.table_lent-n.ensures.1 in omega arith)

pub slice_bounds-vtoc_obtain-end-3 : goal.slice_bounds-vtoc_obtain-end-3
slice_bounds-vtoc_obtain-end-3 c = lent_long _ 288 c.args.labels.now c.requires.3 c.labels_lent-m.ensures.1

pub slice_bounds-vtoc_obtain-end-5 : goal.slice_bounds-vtoc_obtain-end-5
slice_bounds-vtoc_obtain-end-5 c = lent_long _ 32 c.args.answer.now c.requires.2 c.answer_lent-k.ensures.1

pub returns : goal.returns
returns c =
    obtains _ c.args.asked.now c.args.table.now c.args.answer.now c.args.labels.now _ _ _ c.table_lent-n.ensures.0 c.answer_lent-k.ensures.0 c.labels_lent-m.ensures.0 c.name_of.ensures c.vtoc_obtain.ensures
