use Rattle.listing.proofs.Fields.{name_blank, name_one}
use Rattle.rows.proofs.Text.{write_none}
use Rattle.listing.proofs.put_printed.Goals as goal

pub returns-then-b-eq64 : goal.returns-then-b-eq64
returns-then-b-eq64 c = rw (name_blank _ c.if-b-eq64.true) (write_none c.args.out.now c.args.at 1)

pub returns : goal.returns
returns c = rw (name_one _ c.if-b-eq64.false, ← c.printable-c.ensures.rule) c.put_byte.ensures
