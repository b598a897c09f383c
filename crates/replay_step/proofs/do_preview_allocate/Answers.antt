use Rattle.replay_step.proofs.Laws.{lent_long, reads_call, same_request}
use mathlib.Core.Path.{ap}
use Rattle.rules.specs.Calls.{allocate, preview}
use Rattle.replay_step.specs.Play.{request_of}
use native.Mathlib.Omega.{arith}
use Rattle.replay_step.proofs.do_preview_allocate.Goals as goal

pub slice_bounds-vtoc_preview_allocate-end : goal.slice_bounds-vtoc_preview_allocate-end
slice_bounds-vtoc_preview_allocate-end c = lent_long _ 65536 c.args.table.now c.requires.1 (let h = c.table_lent-n.ensures.1 in omega arith)

pub slice_bounds-vtoc_preview_allocate-end-3 : goal.slice_bounds-vtoc_preview_allocate-end-3
slice_bounds-vtoc_preview_allocate-end-3 c = lent_long _ 32 c.args.answer.now c.requires.2 c.answer_lent-k.ensures.1

pub returns : goal.returns
returns c =
    reads_call (preview (allocate (request_of c.args.asked.now))) c.args.asked.now c.args.table.now c.args.answer.now _ _ (ap preview (same_request c.name_of.ensures c.other_of.ensures c.four.ensures c.four-2.ensures c.four-3.ensures c.four-4.ensures c.four-5.ensures c.date_of.ensures)) c.table_lent-n.ensures.0 c.answer_lent-k.ensures.0 c.vtoc_preview_allocate.ensures
