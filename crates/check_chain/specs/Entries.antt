-- The entries of a format 5, held against the runs of the map. Assumes nothing.
use Rattle.std.specs.Prelude.{◌≡◌, ℕ, ◌+◌, ◌*◌, ◌≤◌, Bool, true, cond, ◌&&◌, List, eqb, ltb, drop, get_or, take, Option, MatchOption}
use Rattle.model.specs.Basics.{fill, flat, get2, part}
use Rattle.model.specs.Model.{Geometry, Run}
use Rattle.rules.specs.Layout.{entry, format5, link}
use Rattle.bitmap.specs.Map.{free_from}
use Rattle.rows.specs.Words.{all_are}

-- five bytes that are the entry of the free extent of c tracks from track s on, h tracks to a cylinder
abbrev pub entry_ok : ℕ → ℕ → ℕ → List ℕ → Bool
entry_ok h s c x = eqb (get2 x 0) s && (ltb (get_or x 4 0) h && eqb (get2 x 2 * h + get_or x 4 0) c)

-- the bytes of w entries: the first free extents, then zeros
abbrev pub entries_of : Geometry → ℕ → List Run → List ℕ
entries_of g w f = fill (5 * w) (flat (entry g) (take w f))

-- the bytes x are the w entries of the runs from track `at` on; from track `next` on go the others
pub record RowsOf (g : Geometry) (m : List ℕ) (n at w : ℕ) (x : List ℕ) (next : ℕ) : Type 0 where
  pub up_to : next ≤ n
  pub rest : free_from m n next ≡ drop w (free_from m n at)
  pub bytes : entries_of g w (free_from m n at) ≡ x

-- whether they are
abbrev pub Rows : Geometry → List ℕ → ℕ → ℕ → ℕ → List ℕ → Option ℕ → Type 0
Rows g m n at w x r = MatchOption r (entries_of g w (free_from m n at) ≡ x → ⊥) (λ next. RowsOf g m n at w x next)

-- the record r is, but for its link, the format 5 of the first 26 runs from track `at` on; from track `next` on go the others
pub record RunsOf (g : Geometry) (m : List ℕ) (n at : ℕ) (r : List ℕ) (next : ℕ) : Type 0 where
  pub up_to : next ≤ n
  pub rest : free_from m n next ≡ drop 26 (free_from m n at)
  pub bytes : (k : ℕ) → link g k ≡ part 135 5 r → format5 g (take 26 (free_from m n at)) k ≡ r

-- whether it is
abbrev pub HoldsRuns : Geometry → List ℕ → ℕ → ℕ → List ℕ → Option ℕ → Type 0
HoldsRuns g m n at r o = MatchOption o ((k : ℕ) → format5 g (take 26 (free_from m n at)) k ≡ r → ⊥) (λ next. RunsOf g m n at r next)

-- the link x names a slot, or has only zeros
abbrev pub link_ok : ℕ → List ℕ → Bool
link_ok slot x = cond (eqb slot 0) (all_are 0 x) true
