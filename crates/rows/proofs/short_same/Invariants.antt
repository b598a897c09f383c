use mathlib.Core.Path.{◌≡◌}
use mathlib.Core.Bool.{◌&&◌}
use lib.Dec.{eqb}
use lib.ListN.{length}
use Rattle.model.specs.Basics.{same}
use Rattle.rows.proofs.short_same.Given as goal

abbrev pub invariant-loop-x : goal.invariant-loop-x
invariant-loop-x l =
    (length l.x-iterator.a.rest.now ≡ length l.x-iterator.b.rest.now) × (same l.a l.b ≡ eqb l.unlike 0 && same l.x-iterator.a.rest.now l.x-iterator.b.rest.now)
