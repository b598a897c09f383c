-- One pass over the free extents: the best fit so far and the five longest so far, in units. Assumes nothing.
use Rattle.std.specs.Prelude.{ℕ, zero, suc, ◌+◌, ◌*◌, ◌≤◌, ◌<◌, ◌≡◌, Bool, cond, ◌&&◌, ◌||◌, List, [], ◌∷◌, map, get_or, leb, ltb, eqb}
use Rattle.std.proofs.Math.Option.{Option, none}
use Rattle.model.specs.Basics.{or_else}
use Rattle.model.specs.Model.{Run, run}
use Rattle.model.specs.Choice.{candidates, serving, shortest, longest_first, whole_in}
use Rattle.rules.specs.Reading.{entry_place, read_entry}
use Rattle.choose_pieces.specs.declared.Units.{Units}

-- candidates as the code holds them, first unit and count, and none where the count is 0
abbrev pub to_run : Units → Run
to_run c = run c.start c.count

abbrev pub to_runs : List Units → List Run
to_runs cs = map to_run cs

abbrev pub no_units : Units
no_units = record { start = 0; count = 0 }

abbrev pub no_run : Run
no_run = run 0 0

unfoldable pub run_or_none : Run → Option Run
run_or_none c = or_else (leb 1 c.count) c none

-- the first k of ds, filled up where ds has fewer
unfoldable pub padded : ℕ → List Run → List Run
padded zero ds = []
padded (suc k) [] = no_run ∷ padded k []
padded (suc k) (d ∷ ds) = d ∷ padded k ds

-- k units serve n units, and better than m units do, 0 for none: as well is not better, so that the earlier one stays
unfoldable pub fits_better : ℕ → ℕ → ℕ → Bool
fits_better n m k = leb n k && (eqb m 0 || ltb k m)

-- c goes in front of the first that is shorter than n, and each from there on one place down
unfoldable pub inserted_at : ℕ → Run → List Run → List Run
inserted_at n c [] = []
inserted_at n c (d ∷ ds) = cond (ltb d.count n) (c ∷ inserted_at n d ds) (d ∷ inserted_at n c ds)

-- c among the five longest, behind those that are as long: nothing is to do where the fifth is as long as c
unfoldable pub entered : Run → List Run → List Run
entered c ds = cond (ltb (get_or ds 4 no_run).count c.count) (inserted_at c.count c ds) ds

-- the better of the best so far and of one more
abbrev pub better : ℕ → Run → Run → Run
better n b c = cond (fits_better n b.count c.count) c b

-- the best fit, and the five longest, once the free extents have been looked at one by one
abbrev pub best_after : ℕ → ℕ → Run → List Run → Run
best_after u n b [] = b
best_after u n b (r ∷ rs) = best_after u n (better n b (whole_in u r)) rs

abbrev pub five_after : ℕ → List Run → List Run → List Run
five_after u five [] = five
five_after u five (r ∷ rs) = five_after u (entered (whole_in u r) five) rs

-- the free extents f take the best fit and the five longest from one state to another; the five longest are not looked at to
-- the end where the best fit has exactly n units
pub record LookedOver (u n : ℕ) (f : List Run) (best best' : Run) (five five' : List Run) : Type 0 where
  pub best_is : best_after u n best f ≡ best'
  pub five_is : (best'.count ≡ n → ⊥) → five_after u five f ≡ five'

-- each entry of the format 5 r is shorter than a unit of u tracks, however many tracks a cylinder has
abbrev pub Shorter : ℕ → List ℕ → Type 0
Shorter u r = (h j : ℕ) → j < 26 → (read_entry h r (entry_place j)).count < u

-- what the pass has found: the best fit for n units, and where there is none the five longest candidates
pub record Surveyed (u n : ℕ) (f : List Run) (best : Run) (five : List Run) : Type 0 where
  pub fit : run_or_none best ≡ shortest (serving n (candidates u f))
  pub longest : best.count ≡ 0 → five ≡ padded 5 (longest_first (candidates u f))

-- each candidate ends at a track of 16 bits; each has a count of 16 bits
abbrev pub Within : ℕ → List Run → Type 0
Within u ds = (k : ℕ) → ((get_or ds k no_run).start + (get_or ds k no_run).count) * u ≤ 65535

abbrev pub Small : List Run → Type 0
Small ds = (k : ℕ) → (get_or ds k no_run).count ≤ 65535
