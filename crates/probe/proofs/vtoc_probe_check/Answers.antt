use Rattle.check_table.proofs.Room.{roomy_large}
use mathlib.Core.Path.{refl}
use Rattle.probe.proofs.vtoc_probe_check.Goals as goal

pub check-requires : goal.check-requires
check-requires c = (roomy_large c.args.table.now _ refl, refl)
