use native.Mathlib.Omega.{arith}
use mathlib.Core.Path.{refl}
use Rattle.rules.specs.Calls.{lspace}
use Rattle.replay_step.proofs.Laws.{reads_call, lent_long}
use Rattle.replay_step.proofs.do_lspace.Goals as goal

pub slice_bounds-vtoc_lspace-end : goal.slice_bounds-vtoc_lspace-end
slice_bounds-vtoc_lspace-end c = lent_long _ 65536 c.args.table.now c.requires.1 (let h = c.table_lent-n.ensures.1 in omega arith)

pub slice_bounds-vtoc_lspace-end-3 : goal.slice_bounds-vtoc_lspace-end-3
slice_bounds-vtoc_lspace-end-3 c = lent_long _ 32 c.args.answer.now c.requires.2 c.answer_lent-k.ensures.1

pub returns : goal.returns
returns c =
    reads_call lspace c.args.asked.now c.args.table.now c.args.answer.now _ _ refl c.table_lent-n.ensures.0 c.answer_lent-k.ensures.0 c.vtoc_lspace.ensures
