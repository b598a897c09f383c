use Rattle.rows.proofs.Text.{write_byte}
use Rattle.rows.proofs.put_byte.Goals as goal

pub returns : goal.returns
returns c = write_byte c.args.out.now c.args.at c.args.b c.requires
