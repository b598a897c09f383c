use mathlib.Core.Path.{◌∙◌}
use Rattle.dscb_write.proofs.Format3.{three_none}
use Rattle.dscb_write.proofs.empty_three.Goals as goal

pub returns : goal.returns
returns c = λ g l h. c.blank.ensures ∙ three_none g l h
