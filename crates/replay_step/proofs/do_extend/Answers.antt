use Rattle.replay_step.proofs.Laws.{does_call, lent_long}
use native.Mathlib.Omega.{arith}
use Rattle.rules.specs.Calls.{extend}
use Rattle.replay_record.specs.Asked.{name_asked}
use mathlib.Core.Path.{ap}
use Rattle.replay_step.proofs.do_extend.Goals as goal

pub slice_bounds-vtoc_extend-end-2 : goal.slice_bounds-vtoc_extend-end-2
slice_bounds-vtoc_extend-end-2 c = lent_long _ 65536 c.args.table.now c.requires.1 (let h = c.table_lent-n.ensures.1 in omega arith)

pub slice_bounds-vtoc_extend-end-4 : goal.slice_bounds-vtoc_extend-end-4
slice_bounds-vtoc_extend-end-4 c = lent_long _ 32 c.args.answer.now c.requires.2 c.answer_lent-k.ensures.1

pub returns : goal.returns
returns c =
    does_call (extend (name_asked c.args.asked.now)) c.args.asked.now c.args.table.now c.args.answer.now _ _ (ap extend c.name_of.ensures) c.table_lent-n.ensures.0 c.answer_lent-k.ensures.0 c.vtoc_extend.ensures
