-- From turn to turn the table keeps its length, and what is lent stays below it. Assumes nothing.
use Rattle.std.proofs.Common.{◌≡◌, ◌<◌, length}
use Rattle.replay.proofs.play_all.Given as goal

abbrev pub invariant-loop : goal.invariant-loop
invariant-loop g l = (length l.table ≡ 65536) × (l.lent < 65536)
