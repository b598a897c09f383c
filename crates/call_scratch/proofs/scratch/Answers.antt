use Rattle.check_table.proofs.Room.{roomy_large, roomy_small}
use mathlib.Core.Path.{refl}
use Rattle.call_scratch.proofs.scratch.Goals as goal

pub scratch_in-requires : goal.scratch_in-requires
scratch_in-requires c = roomy_small c.args.table.now _ (c.is_small.ensures c.if-is_small.true) refl

pub scratch_in-requires-2 : goal.scratch_in-requires-2
scratch_in-requires-2 c = roomy_large c.args.table.now _ refl
