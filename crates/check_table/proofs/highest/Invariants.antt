use mathlib.Core.Path.{◌≡◌}
use Rattle.check_table.specs.Spare.{highest_slot}
use Rattle.check_table.proofs.highest.Given as goal

abbrev pub invariant-loop-k : goal.invariant-loop-k
invariant-loop-k l = highest_slot l.table l.n ≡ highest_slot l.table l.k
