use Rattle.answers.proofs.Laws.{back_is}
use mathlib.Core.Path.{◌∙◌}
use Rattle.answers.proofs.put_back.Goals as goal

pub returns : goal.returns
returns c = c.copy_from_slice.ensures.after ∙ c.put_two.ensures ∙ back_is c.args.n
