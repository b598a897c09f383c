use Rattle.names.specs.Find.{find_slot, first_named}
use Prim.Native.Nat.{◌-◌}
use mathlib.Core.Path.{◌≡◌}
use Rattle.names.proofs.find.Given as goal

abbrev pub invariant-loop-k : goal.invariant-loop-k
invariant-loop-k l = find_slot l.table l.name l.n ≡ first_named l.table l.name l.k (l.n - l.k)
