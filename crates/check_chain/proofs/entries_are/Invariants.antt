use mathlib.Core.Path.{◌≡◌}
use lib.ListN.{length}
use Prim.Native.Nat.{ℕ, ◌-◌, ◌*◌, ◌/◌, ◌≤◌}
use Rattle.dscb.specs.Forms.{geometry_of}
use Rattle.check_chain.proofs.Entries.{EntriesGoing}
use Rattle.bitmap.specs.Steps.{RestOfWord}
use Rattle.check_chain.proofs.entries_are.Given as goal

abbrev pub invariant-loop-p : goal.invariant-loop-p
invariant-loop-p l = (j : ℕ) × (l.p ≡ 5 * j) × (j ≤ length l.x / 5) × EntriesGoing (geometry_of l.g) l.free_tracks l.n l.at (length l.x / 5) l.x j l.t × RestOfWord l.free_tracks l.n l.t l.seen

abbrev pub decreases-loop-p : goal.decreases-loop-p
decreases-loop-p l = length l.x - l.p
