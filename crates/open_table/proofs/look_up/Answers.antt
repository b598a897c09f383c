use Rattle.names.specs.Find.{find_slot}
use mathlib.Core.Path.{ap, ◌∙◌}
use Rattle.open_table.proofs.look_up.Goals as goal

pub returns : goal.returns
returns c = c.find.ensures ∙ ap (find_slot c.args.table.now c.args.name.now) c.slots.ensures.0
