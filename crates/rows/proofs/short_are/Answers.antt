use Rattle.rows.proofs.Rows.{are_next, are_end}
use mathlib.Core.Path.{sym, ◌∙◌}
use Rattle.rows.proofs.short_are.Goals as goal

pub loop-x-preserved : goal.loop-x-preserved
loop-x-preserved c = c.loop-x.invariant ∙ are_next c.loop-x.unlike c.args.v c.args.s.now c.loop-x.x-index c.loop-x-test.true

pub returns : goal.returns
returns c = sym (c.loop-x.invariant ∙ are_end c.loop-x.unlike c.args.v c.args.s.now c.loop-x.x-index c.loop-x-test.false)
