use Rattle.replay_step.proofs.Laws.{lent_long, reads_call, same_scratch}
use mathlib.Core.Path.{ap}
use Rattle.rules.specs.Calls.{preview}
use Rattle.replay_step.specs.Play.{scratch_of}
use native.Mathlib.Omega.{arith}
use Rattle.replay_step.proofs.do_preview_scratch.Goals as goal

pub slice_bounds-vtoc_preview_scratch-end : goal.slice_bounds-vtoc_preview_scratch-end
slice_bounds-vtoc_preview_scratch-end c = lent_long _ 65536 c.args.table.now c.requires.1 (let h = c.table_lent-n.ensures.1 in omega arith)

pub slice_bounds-vtoc_preview_scratch-end-3 : goal.slice_bounds-vtoc_preview_scratch-end-3
slice_bounds-vtoc_preview_scratch-end-3 c = lent_long _ 32 c.args.answer.now c.requires.2 c.answer_lent-k.ensures.1

pub returns : goal.returns
returns c =
    reads_call (preview (scratch_of c.args.asked.now)) c.args.asked.now c.args.table.now c.args.answer.now _ _ (ap preview (same_scratch c.name_of.ensures c.date_of.ensures c.four.ensures)) c.table_lent-n.ensures.0 c.answer_lent-k.ensures.0 c.vtoc_preview_scratch.ensures
