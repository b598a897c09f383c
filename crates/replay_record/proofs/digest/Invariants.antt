use Prim.Native.Nat.{◌<◌}
use mathlib.Core.Path.{◌≡◌}
use lib.ListN.{drop}
use Rattle.replay_record.specs.Line.{digest, digest_from}
use Rattle.replay_record.proofs.digest.Given as goal

abbrev pub invariant-loop-x : goal.invariant-loop-x
invariant-loop-x l = (l.a < 65521) × (l.b < 65521) × (digest l.s ≡ digest_from l.a l.b (drop l.x-index l.s))
