use mathlib.Core.Path.{◌∙◌}
use Rattle.update.proofs.Slots.{clear_none, clear_one}
use Rattle.update.proofs.clear_slot.Goals as goal

pub returns-then-k-eq0 : goal.returns-then-k-eq0
returns-then-k-eq0 c = clear_none c.args.table.now c.args.k c.if-k-eq0.true

pub returns : goal.returns
returns c = c.put_record.ensures ∙ clear_one c.args.table.now c.args.k c.if-k-eq0.false
