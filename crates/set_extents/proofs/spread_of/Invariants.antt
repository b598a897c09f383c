use Prim.Native.Nat.{◌*◌, ◌≤◌}
use lib.ListN.{take}
use Rattle.model.specs.Model.{tracks}
use Rattle.rules.specs.Reading.{read_extents}
use Rattle.dscb.specs.Forms.{geometry_of}
use Rattle.set_extents.specs.Change.{Spreads}
use Rattle.set_extents.proofs.spread_of.Given as goal

abbrev pub invariant-loop-e : goal.invariant-loop-e
invariant-loop-e l = Spreads (tracks (geometry_of l.g)) (take l.e (read_extents l.g.heads l.f1 l.f3 l.n)) l.all l.lowest × (l.all ≤ 65535 * l.e)
