use mathlib.Core.Path.{◌≡◌}
use lib.ListN.{length}
use Rattle.set_extents.proofs.Pieces.{Taking}
use Rattle.set_extents.proofs.take_pieces.Given as goal

abbrev pub invariant-loop-start : goal.invariant-loop-start
invariant-loop-start l = (length l.free_tracks ≡ length l.initial.free_tracks) × Taking l.pieces l.start-index l.initial.free_tracks l.free_tracks
