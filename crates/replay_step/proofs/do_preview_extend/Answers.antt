use Rattle.replay_step.proofs.Laws.{lent_long, reads_call}
use mathlib.Core.List.{List}
use mathlib.Core.Path.{ap}
use Prim.Native.Nat.{ℕ}
use Rattle.rules.specs.Calls.{extend, preview}
use Rattle.replay_record.specs.Asked.{name_asked}
use native.Mathlib.Omega.{arith}
use Rattle.replay_step.proofs.do_preview_extend.Goals as goal

pub slice_bounds-vtoc_preview_extend-end : goal.slice_bounds-vtoc_preview_extend-end
slice_bounds-vtoc_preview_extend-end c = lent_long _ 65536 c.args.table.now c.requires.1 (let h = c.table_lent-n.ensures.1 in omega arith)

pub slice_bounds-vtoc_preview_extend-end-3 : goal.slice_bounds-vtoc_preview_extend-end-3
slice_bounds-vtoc_preview_extend-end-3 c = lent_long _ 32 c.args.answer.now c.requires.2 c.answer_lent-k.ensures.1

pub returns : goal.returns
returns c =
    reads_call (preview (extend (name_asked c.args.asked.now))) c.args.asked.now c.args.table.now c.args.answer.now _ _ (ap (λ (n : List ℕ). preview (extend n)) c.name_of.ensures) c.table_lent-n.ensures.0 c.answer_lent-k.ensures.0 c.vtoc_preview_extend.ensures
