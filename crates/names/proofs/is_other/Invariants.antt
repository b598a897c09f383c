use mathlib.Core.Path.{◌≡◌}
use Prim.Native.Nat.{◌-◌}
use lib.ListN.{length}
use Rattle.names.specs.Find.{find_slot, first_named}
use Rattle.names.proofs.is_other.Given as goal

abbrev pub invariant-loop-j : goal.invariant-loop-j
invariant-loop-j l = find_slot l.table l.name (length l.tags) ≡ first_named l.table l.name l.j (length l.tags - l.j)
