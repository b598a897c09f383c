use Rattle.names.specs.Find.{has_tag}
use lib.ListN.{drop}
use mathlib.Core.Bool.{◌||◌}
use mathlib.Core.Path.{◌≡◌}
use Rattle.names.proofs.has_tag.Given as goal

abbrev pub invariant-loop-x : goal.invariant-loop-x
invariant-loop-x l = has_tag l.tags l.t ≡ (l.hit || has_tag (drop l.x-index l.tags) l.t)
