use native.Mathlib.Omega.{arith}
use mathlib.Core.Path.{ap₂}
use Rattle.replay_record.specs.Asked.{name_asked, other_of}
use Rattle.rules.specs.Calls.{rename}
use Rattle.replay_step.proofs.Laws.{does_call, lent_long}
use Rattle.replay_step.proofs.do_rename.Goals as goal

pub slice_bounds-vtoc_rename-end-2 : goal.slice_bounds-vtoc_rename-end-2
slice_bounds-vtoc_rename-end-2 c = lent_long _ 65536 c.args.table.now c.requires.1 (let h = c.table_lent-n.ensures.1 in omega arith)

pub slice_bounds-vtoc_rename-end-4 : goal.slice_bounds-vtoc_rename-end-4
slice_bounds-vtoc_rename-end-4 c = lent_long _ 32 c.args.answer.now c.requires.2 c.answer_lent-k.ensures.1

pub returns : goal.returns
returns c =
    does_call (rename (name_asked c.args.asked.now) (other_of c.args.asked.now)) c.args.asked.now c.args.table.now c.args.answer.now _ _ (ap₂ rename c.name_of.ensures c.other_of.ensures) c.table_lent-n.ensures.0 c.answer_lent-k.ensures.0 c.vtoc_rename.ensures
