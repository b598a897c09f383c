use Prim.Native.Nat.{◌*◌, ◌≤◌}
use Rattle.choose_pieces.proofs.Reply.{Counting}
use Rattle.choose_pieces.proofs.count_pieces.Given as goal

abbrev pub invariant-loop-count : goal.invariant-loop-count
invariant-loop-count l = (l.tracks ≤ 65535 * l.count) × Counting l.piece-items l.count l.tracks
