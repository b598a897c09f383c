use mathlib.Core.Path.{◌∙◌}
use Rattle.ebcdic.proofs.Pairs.{four_is}
use Rattle.ebcdic.proofs.least_of_four.Goals as goal

pub returns : goal.returns
returns c = c.min.ensures ∙ four_is c.args.name.now c.args.i _ _ c.min-a.ensures c.min-b.ensures
