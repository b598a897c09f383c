use Rattle.check_table.proofs.Room.{roomy_large, roomy_small}
use mathlib.Core.Path.{refl}
use Rattle.call_extend.proofs.extend.Goals as goal

pub extend_in-requires : goal.extend_in-requires
extend_in-requires c = roomy_small c.args.table.now _ (c.is_small.ensures c.if-is_small.true) refl

pub extend_in-requires-2 : goal.extend_in-requires-2
extend_in-requires-2 c = roomy_large c.args.table.now _ refl
