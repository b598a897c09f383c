-- What is granted out of the free extents: the pieces in tracks, and how the code holds them. Assumes nothing.
use Rattle.std.specs.Prelude.{ℕ, cond, List, [], ◌∷◌, ◌++◌, map, eqb, length, drop, get_or, replicate}
use Rattle.std.proofs.Math.Option.{Option, none, some}
use Rattle.model.specs.Basics.{map_option}
use Rattle.model.specs.Model.{Run, run}
use Rattle.model.specs.Choice.{SpaceOption, candidates, choose_by, scale}

-- the pieces, in tracks, for n units of u tracks out of the free extents f, by an option; none: there is no space
unfoldable pub granted_runs : SpaceOption → ℕ → ℕ → List Run → Option (List Run)
granted_runs o u n f = map_option (map (scale u)) (choose_by o n (candidates u f))

-- a piece as the code holds it: start and count
abbrev pub row : Run → List ℕ
row r = r.start ∷ r.count ∷ []

-- five places without a piece
abbrev pub no_pieces : List (List ℕ)
no_pieces = replicate 5 (0 ∷ 0 ∷ [])

-- "the pieces, at most five, each a start and a count": they stand in the first of five places, and zeros in the others; where
-- there is no space, zeros in all
unfoldable pub grant_of : Option (List Run) → List (List ℕ)
grant_of none = no_pieces
grant_of (some ps) = map row ps ++ drop (length ps) no_pieces

-- the pieces that stand there: those up to the first place without tracks
unfoldable pub rows_in : List (List ℕ) → List Run
rows_in [] = []
rows_in (r ∷ rs) = cond (eqb (get_or r 1 0) 0) [] (run (get_or r 0 0) (get_or r 1 0) ∷ rows_in rs)
