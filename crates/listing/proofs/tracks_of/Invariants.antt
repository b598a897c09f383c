use Prim.Native.Nat.{◌*◌, ◌≤◌}
use mathlib.Core.Path.{◌≡◌}
use Rattle.model.specs.Model.{overs, total}
use Rattle.rules.specs.Reading.{read_extents}
use Rattle.listing.proofs.tracks_of.Given as goal

abbrev pub invariant-loop-e : goal.invariant-loop-e
invariant-loop-e l = (l.sum ≡ total (overs (read_extents l.heads l.f1 l.f3 l.e))) × (l.sum ≤ 65535 * l.e)
