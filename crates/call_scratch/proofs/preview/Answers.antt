use Rattle.check_table.proofs.Room.{roomy_large, roomy_small}
use mathlib.Core.Path.{refl}
use Rattle.call_scratch.proofs.preview.Goals as goal

pub preview_in-requires : goal.preview_in-requires
preview_in-requires c = roomy_small c.args.table.now _ (c.is_small.ensures c.if-is_small.true) refl

pub preview_in-requires-2 : goal.preview_in-requires-2
preview_in-requires-2 c = roomy_large c.args.table.now _ refl
