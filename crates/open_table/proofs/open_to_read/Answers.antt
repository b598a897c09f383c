use Rattle.check_table.proofs.Room.{roomy_large, roomy_small}
use mathlib.Core.Path.{refl}
use Rattle.open_table.proofs.open_to_read.Goals as goal

pub open-requires : goal.open-requires
open-requires c = (roomy_small c.args.table.now _ (c.is_small.ensures c.if-is_small.true) refl, refl)

pub open-requires-2 : goal.open-requires-2
open-requires-2 c = (roomy_large c.args.table.now _ refl, refl)
