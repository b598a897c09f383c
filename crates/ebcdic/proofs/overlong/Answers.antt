use Rattle.ebcdic.proofs.Pairs.{row_is}
use Rattle.ebcdic.proofs.overlong.Goals as goal

pub returns : goal.returns
returns c =
    row_is c.args.name.now c.args.i _ _ _ _ c.ones_if.result c.least_of_four.ensures c.least_of_four-2.ensures c.min-eight.ensures c.min.ensures c.ones_if.ensures
