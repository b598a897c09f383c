use native.Mathlib.Omega.{arith}
use Rattle.rules.specs.Listing.{printable}
use Rattle.ebcdic.proofs.Entries.{entry_printed, table, table_right}
use Rattle.ebcdic.proofs.listing.printable.Goals as goal

pub returns : goal.returns
unfolding table printable
returns c = rw c.from.ensures (entry_printed table table_right c.args.b (omega arith))
