use Rattle.check_table.proofs.Room.{roomy_large, roomy_small}
use mathlib.Core.Path.{refl}
use Rattle.call_allocate.proofs.allocate.Goals as goal

pub allocate_in-requires : goal.allocate_in-requires
allocate_in-requires c = roomy_small c.args.table.now _ (c.is_small.ensures c.if-is_small.true) refl

pub allocate_in-requires-2 : goal.allocate_in-requires-2
allocate_in-requires-2 c = roomy_large c.args.table.now _ refl
