use native.Mathlib.Omega.{arith}
use Rattle.replay_step.proofs.Laws.{initialises, lent_long}
use Rattle.replay_step.proofs.do_initialise.Goals as goal

pub slice_bounds-vtoc_initialise-end-2 : goal.slice_bounds-vtoc_initialise-end-2
slice_bounds-vtoc_initialise-end-2 c = lent_long _ 65536 c.args.table.now c.requires.1 (let h = c.table_lent-n.ensures.1 in omega arith)

pub slice_bounds-vtoc_initialise-end-4 : goal.slice_bounds-vtoc_initialise-end-4
slice_bounds-vtoc_initialise-end-4 c = lent_long _ 32 c.args.answer.now c.requires.2 c.answer_lent-k.ensures.1

pub returns : goal.returns
returns c =
    initialises c.args.asked.now c.args.table.now c.args.answer.now _ _ _ _ _ _ _ c.table_lent-n.ensures.0 c.answer_lent-k.ensures.0 c.four-c.ensures c.four-h.ensures c.four-d.ensures c.four-s.ensures c.four-v.ensures c.vtoc_initialise.ensures
