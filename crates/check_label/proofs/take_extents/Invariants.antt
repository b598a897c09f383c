use mathlib.Core.Path.{◌≡◌}
use Prim.Native.Nat.{◌-◌}
use lib.ListN.{length}
use Rattle.model.specs.Model.{tracks}
use Rattle.dscb.specs.Forms.{geometry_of}
use Rattle.check_label.specs.Label.{extents_ok, used_ok}
use Rattle.check_label.proofs.Taking.{LeftFree}
use Rattle.check_label.proofs.take_extents.Given as goal

abbrev pub invariant-loop-e : goal.invariant-loop-e
invariant-loop-e l = (length l.free_tracks ≡ length l.initial.free_tracks) × LeftFree l.g.heads l.f1 l.f3 l.e l.initial.free_tracks l.free_tracks × (used_ok (geometry_of l.g) l.f1 l.f3 l.n ≡ extents_ok l.g.heads (tracks (geometry_of l.g)) l.f1 l.f3 l.n l.e (l.n - l.e))
