use Rattle.replay_step.proofs.Laws.{lent_long, reads_call}
use mathlib.Core.List.{List}
use mathlib.Core.Path.{ap₂}
use Prim.Native.Nat.{ℕ}
use Rattle.rules.specs.Calls.{preview, release}
use Rattle.replay_record.specs.Asked.{get4, name_asked}
use native.Mathlib.Omega.{arith}
use Rattle.replay_step.proofs.do_preview_release.Goals as goal

pub slice_bounds-vtoc_preview_release-end : goal.slice_bounds-vtoc_preview_release-end
slice_bounds-vtoc_preview_release-end c = lent_long _ 65536 c.args.table.now c.requires.1 (let h = c.table_lent-n.ensures.1 in omega arith)

pub slice_bounds-vtoc_preview_release-end-3 : goal.slice_bounds-vtoc_preview_release-end-3
slice_bounds-vtoc_preview_release-end-3 c = lent_long _ 32 c.args.answer.now c.requires.2 c.answer_lent-k.ensures.1

pub returns : goal.returns
returns c =
    reads_call (preview (release (name_asked c.args.asked.now) (get4 c.args.asked.now 8))) c.args.asked.now c.args.table.now c.args.answer.now _ _ (ap₂ (λ (n : List ℕ) (ttr : ℕ). preview (release n ttr)) c.name_of.ensures c.four.ensures) c.table_lent-n.ensures.0 c.answer_lent-k.ensures.0 c.vtoc_preview_release.ensures
