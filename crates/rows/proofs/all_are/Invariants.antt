use Prim.Native.Nat.{◌-◌}
use lib.ListN.{length, replicate}
use Rattle.rows.proofs.Eights.{Compared}
use Rattle.rows.proofs.all_are.Given as goal

abbrev pub invariant-loop-i : goal.invariant-loop-i
invariant-loop-i l = Compared (length l.s - 8) l.s (replicate (length l.s) l.v) l.unlike l.i
