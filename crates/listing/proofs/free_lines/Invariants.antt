use Rattle.listing.proofs.Passes.{FreeSoFar}
use lib.ListN.{length}
use Prim.Native.Nat.{◌-◌, ◌≤◌}
use mathlib.Core.Path.{◌≡◌}
use Rattle.listing.proofs.free_lines.Given as goal

abbrev pub invariant-loop-t : goal.invariant-loop-t
invariant-loop-t l = (l.t ≤ l.n) × (length l.out ≡ length l.initial.out) × FreeSoFar l.free_tracks l.n l.at l.initial.out l.out l.p l.t

abbrev pub decreases-loop-t : goal.decreases-loop-t
decreases-loop-t l = l.n - l.t
