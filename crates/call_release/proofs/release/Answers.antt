use Rattle.check_table.proofs.Room.{roomy_large, roomy_small}
use mathlib.Core.Path.{refl}
use Rattle.call_release.proofs.release.Goals as goal

pub release_in-requires : goal.release_in-requires
release_in-requires c = roomy_small c.args.table.now _ (c.is_small.ensures c.if-is_small.true) refl

pub release_in-requires-2 : goal.release_in-requires-2
release_in-requires-2 c = roomy_large c.args.table.now _ refl
