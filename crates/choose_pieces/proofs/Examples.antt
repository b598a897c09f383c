-- Cases of the paper, computed on the definition that `choose` is proved against. Assumes nothing.
use mathlib.Core.Path.{◌≡◌, refl}
use mathlib.Core.Option.{none, some}
use mathlib.Core.List.{[], ◌∷◌}
use Rattle.model.specs.Model.{run}
use Rattle.model.specs.Choice.{choose, no_option}
use Rattle.choose_pieces.specs.Grant.{granted_runs}

-- Volume A, step 2: the whole cylinder 10–14 out of 7–19
cylinder : granted_runs no_option 5 1 (run 7 13 ∷ []) ≡ some (run 10 5 ∷ [])
unfolding granted_runs choose
cylinder = refl

-- step 3: 3 tracks would be 7–9
fitting : granted_runs no_option 1 3 (run 7 3 ∷ run 15 5 ∷ []) ≡ some (run 7 3 ∷ [])
unfolding granted_runs choose
fitting = refl

-- step 3: 7 tracks are 15–19, then 7–8
longest_first_lem : granted_runs no_option 1 7 (run 7 3 ∷ run 15 5 ∷ []) ≡ some (run 15 5 ∷ run 7 2 ∷ [])
unfolding granted_runs choose
longest_first_lem = refl

-- six free tracks in six holes are not six tracks
six_holes : granted_runs no_option 1 6 (run 1 1 ∷ run 3 1 ∷ run 5 1 ∷ run 7 1 ∷ run 9 1 ∷ run 11 1 ∷ []) ≡ none
unfolding granted_runs choose
six_holes = refl

-- ten tracks that cut two cylinders of five have one whole one
cut_cylinders : granted_runs no_option 5 2 (run 7 10 ∷ []) ≡ none
unfolding granted_runs choose
cut_cylinders = refl

-- of two that fit alike, the lower; its head
lowest_on_ties : granted_runs no_option 1 2 (run 3 4 ∷ run 10 3 ∷ run 20 3 ∷ []) ≡ some (run 10 2 ∷ [])
unfolding granted_runs choose
lowest_on_ties = refl
