use Rattle.rows.proofs.Text.{write_none}
use Rattle.listing.proofs.Decimals.{digit_none, digit_one}
use Rattle.listing.proofs.put_digit.Goals as goal

pub returns-then-v-unit : goal.returns-then-v-unit
returns-then-v-unit c = rw (digit_none _ _ c.if-v-unit.true) (write_none c.args.out.now c.args.at 1)

pub returns : goal.returns
returns c = rw (digit_one _ _ c.if-v-unit.false) c.put_byte.ensures
