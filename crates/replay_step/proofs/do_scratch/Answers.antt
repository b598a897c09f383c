use Rattle.replay_step.proofs.Laws.{does_call, lent_long, same_scratch}
use native.Mathlib.Omega.{arith}
use Rattle.replay_step.specs.Play.{scratch_of}
use Rattle.replay_step.proofs.do_scratch.Goals as goal

pub slice_bounds-vtoc_scratch-end-2 : goal.slice_bounds-vtoc_scratch-end-2
slice_bounds-vtoc_scratch-end-2 c = lent_long _ 65536 c.args.table.now c.requires.1 (let h = c.table_lent-n.ensures.1 in omega arith)

pub slice_bounds-vtoc_scratch-end-4 : goal.slice_bounds-vtoc_scratch-end-4
slice_bounds-vtoc_scratch-end-4 c = lent_long _ 32 c.args.answer.now c.requires.2 c.answer_lent-k.ensures.1

pub returns : goal.returns
returns c =
    does_call (scratch_of c.args.asked.now) c.args.asked.now c.args.table.now c.args.answer.now _ _ (same_scratch c.name_of.ensures c.date_of.ensures c.four.ensures) c.table_lent-n.ensures.0 c.answer_lent-k.ensures.0 c.vtoc_scratch.ensures
