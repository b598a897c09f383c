use mathlib.Core.Path.{◌≡◌}
use Prim.Native.Nat.{◌-◌}
use lib.ListN.{length, take}
use Rattle.model.specs.Model.{overs, total}
use Rattle.rules.specs.Reading.{read_extents}
use Rattle.set_extents.proofs.Cutting.{Giving}
use Rattle.set_extents.proofs.give_behind.Given as goal

abbrev pub invariant-loop-e : goal.invariant-loop-e
invariant-loop-e l = (length l.free_tracks ≡ length l.initial.free_tracks) × (l.left ≡ l.keep - total (overs (take l.e (read_extents l.g.heads l.f1 l.f3 l.n)))) × Giving l.keep (read_extents l.g.heads l.f1 l.f3 l.n) l.e l.initial.free_tracks l.free_tracks
