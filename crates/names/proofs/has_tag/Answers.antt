use Rattle.names.proofs.Laws.{tag_hit, tag_miss, tag_end}
use mathlib.Core.Path.{sym, ◌∙◌}
use Rattle.names.proofs.has_tag.Goals as goal
use Rattle.names.proofs.has_tag.Goals.{then-x-t, else-x-t}

pub loop-x-preserved : goal.loop-x-preserved
loop-x-preserved c =
    let l = c.loop-x in
    let s = c.args in
    elim c.if-x-t.branch [
      | then-x-t w ↦ l.invariant ∙ tag_hit s.tags.now s.t l.x-index c.loop-x-test.true l.hit w.if-x-t.true ∙ rw w.hit-is
      | else-x-t w ↦ l.invariant ∙ tag_miss s.tags.now s.t l.x-index c.loop-x-test.true l.hit w.if-x-t.false ∙ rw w.hit-is
    ]

pub returns : goal.returns
returns c = sym (c.loop-x.invariant ∙ tag_end c.args.tags.now c.args.t c.loop-x.x-index c.loop-x.hit c.loop-x-test.false)
