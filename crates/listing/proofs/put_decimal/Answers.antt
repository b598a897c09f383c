use Rattle.listing.proofs.Decimals.{all_digits}
use Rattle.listing.proofs.put_decimal.Goals as goal

pub returns : goal.returns
returns c =
    let l = c.loop-unit.invariant in
    all_digits c.args.v _ c.loop-unit.unit-index c.requires.1 l.0 c.loop-unit.auto.unit-index-end c.loop-unit-test.false l.2 c.put_byte.ensures
