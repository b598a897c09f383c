use mathlib.Core.Path.{sym, ◌∙◌}
use Rattle.model.proofs.Lists.{true_is}
use Rattle.rules.proofs.Valid.{limits→}
use Rattle.rules.specs.Promises.{geometry}
use Rattle.dscb.proofs.device.Geometry.within_limits.Goals as goal

pub invariant_of-result : goal.invariant_of-result
invariant_of-result c =
    record { in_limits = limits→ (geometry c.args.cylinders c.args.heads c.args.records c.args.vtoc_start c.args.vtoc_tracks) (true_is (sym c.limits.ensures ∙ c.if-not-limits.false)) }
