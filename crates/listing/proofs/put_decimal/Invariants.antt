use lib.ListN.{length, take}
use mathlib.Core.Path.{◌≡◌}
use Rattle.rows.specs.Text.{Written}
use Rattle.listing.proofs.Decimals.{digits_of, units}
use Rattle.listing.proofs.put_decimal.Given as goal

abbrev pub invariant-loop-unit : goal.invariant-loop-unit
invariant-loop-unit l =
    (l.unit-items ≡ units) × (length l.out ≡ length l.initial.out) × Written l.at (digits_of l.v (take l.unit-index l.unit-items)) l.unit-index l.initial.out l.out l.p
