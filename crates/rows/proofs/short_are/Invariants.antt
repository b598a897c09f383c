use Rattle.rows.specs.Words.{all_are}
use lib.ListN.{drop}
use lib.Dec.{eqb}
use mathlib.Core.Bool.{◌&&◌}
use mathlib.Core.Path.{◌≡◌}
use Rattle.rows.proofs.short_are.Given as goal

abbrev pub invariant-loop-x : goal.invariant-loop-x
invariant-loop-x l = all_are l.v l.s ≡ eqb l.unlike 0 && all_are l.v (drop l.x-index l.s)
