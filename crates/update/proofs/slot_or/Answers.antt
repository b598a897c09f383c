use mathlib.Core.Path.{◌∙◌}
use Rattle.update.proofs.Small.{or_given, or_own}
use Rattle.update.proofs.slot_or.Goals as goal

pub returns-then-k-eq0 : goal.returns-then-k-eq0
returns-then-k-eq0 c = c.from.ensures ∙ or_given c.args.k c.args.given c.if-k-eq0.true

pub returns-else-k-eq0 : goal.returns-else-k-eq0
returns-else-k-eq0 c = or_own c.args.k c.args.given c.if-k-eq0.false
