-- The free extents in a table, along the chain of format 5s. Assumes nothing.
use Rattle.std.specs.Prelude.{◌≡◌, ℕ, ◌*◌, ◌≤◌, ◌<◌, List, get_or, length}
use Rattle.model.specs.Model.{Geometry, Run, Separate, run, slots, tracks}
use Rattle.model.specs.Predicates.{All}
use Rattle.rules.specs.Layout.{fives, head_or0}
use Rattle.rules.specs.Reading.{chop, entry_place, read_entry}
use Rattle.rules.specs.Sound.{FiveOk}

-- the entries of the format 5 r are those of the free extents f; the others have no track
pub record Entries (h : ℕ) (r : List ℕ) (f : List Run) : Type 0 where
  pub few : length f ≤ 26
  pub full : All (λ e. 1 ≤ e.count) f
  pub at : (j : ℕ) → j < 26 → read_entry h r (entry_place j) ≡ get_or f j (run 0 0)

-- n members of the chain are left, from slot k on, 0 for none; they hold the free extents f
pub record Lists (g : Geometry) (t : List ℕ) (n k : ℕ) (f : List Run) : Type 0 where
  pub members : List ℕ
  pub many : length members ≡ n
  pub head : head_or0 members ≡ k
  pub enough : length f ≤ 26 * n
  pub full : All (λ e. 1 ≤ e.count) f
  pub inside : All (λ j. (1 ≤ j) × (j < slots g)) members
  pub hold : All (FiveOk g (chop (slots g) t)) (fives members f)

-- the table lists the free extents f, from slot 1 on
pub record Listed (g : Geometry) (t : List ℕ) (f : List Run) : Type 0 where
  pub members : ℕ
  pub few : members ≤ slots g
  pub lists : Lists g t members 1 f
  pub apart : Separate 0 (tracks g) f
