-- A data set that is found in a volume: its label is good, and a sum over all labels is its own and the others'. Assumes nothing.
use mathlib.Core.Path.{◌≡◌}
use mathlib.Core.Option.{some}
use mathlib.Core.List.{List}
use Prim.Native.Nat.{ℕ, ◌+◌}
use Rattle.model.specs.Basics.{sum_of}
use Rattle.model.specs.Model.{Label, Volume}
use Rattle.model.proofs.Lists.{find_All}
use Rattle.rules.specs.Predicates.{GoodLabel, Valid}
use Rattle.rules.specs.Slots.{found, without}
use Rattle.rules.specs.Table.{named}
use Rattle.rules.proofs.Labels.{without_sum}

module _ (v : Volume) (h : Valid v) (n : List ℕ) (l : Label) (f : found v n ≡ some l) where
  pub found_good : GoodLabel v.geometry l
  found_good = find_All (GoodLabel v.geometry) (named n) v.labels l h.good f

  pub found_sum : (F : Label → ℕ) → sum_of F v.labels ≡ F l + sum_of F (without n v.labels)
  found_sum F = without_sum F n v.labels l h.differ f
