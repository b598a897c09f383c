-- The slots that a change of data sets needs, in the map of free slots: taken, given back, and settled. The lists of slots in
-- use and of labels are the caller's: they are quantified. Assumes nothing.
use Rattle.std.specs.Prelude.{◌≡◌, ℕ, ◌+◌, ◌≤◌, ◌<◌, List, ◌++◌, length, take, Option, MatchOption}
use Rattle.std.proofs.Math.Option.{some, none}
use Rattle.model.specs.Model.{Geometry, Label, Volume, fives_for, free, slots, tally, total, unused, used}
use Rattle.model.specs.Predicates.{All}
use Rattle.rules.specs.Reading.{chop}
use Rattle.rules.specs.Slots.{settle}
use Rattle.rules.specs.Sound.{Sound}
use Rattle.bitmap.specs.Map.{Shows, free_bit, free_from}
use Rattle.check_label.specs.Marks.{units}

-- ---- the map of free slots

-- where n slots have as many free ones: ks are the lowest of them, in their order, and have left the map
pub record Lowest (n : ℕ) (s s' ks : List ℕ) : Type 0 where
  pub long : length s' ≡ length s
  pub lowest : (us : List ℕ) → Shows s n (units us) → length ks ≤ length (unused n us) → unused n us ≡ ks ++ unused n (ks ++ us)
  pub shown : (us : List ℕ) → Shows s n (units us) → length ks ≤ length (unused n us) → Shows s' n (units (ks ++ us))

-- the slots ks, in use, are free again
pub record Gave (s s' ks : List ℕ) : Type 0 where
  pub long : length s' ≡ length s
  pub shown : (n : ℕ) (us : List ℕ) → Shows s n (units (ks ++ us)) → Shows s' n (units us)

-- ---- the chain of a table

-- the first `count` of c' are slots of the table; they are the volume's chain where the table is sound
pub record Chained (g : Geometry) (t c c' : List ℕ) (count : ℕ) : Type 0 where
  pub long : length c' ≡ length c
  pub few : count ≤ slots g
  pub inside : All (λ k. k < slots g) (take count c')
  pub chain : (v : Volume) → v.geometry ≡ g → Sound (chop (slots g) t) v → take count c' ≡ v.chain
  pub many : (v : Volume) → v.geometry ≡ g → Sound (chop (slots g) t) v → count ≡ length v.chain

-- ---- settled

-- The map s shows what `draft` and the chain, the first `was` of c, use. The slots asked for are ks and the chain is the first `need`
-- of c', and `left` slots are free.
pub record Settles (g : Geometry) (s s' c c' ks : List ℕ) (was need asked left : ℕ) : Type 0 where
  pub long_map : length s' ≡ length s
  pub long_chain : length c' ≡ length c
  pub long_given : length ks ≡ asked
  pub tail : need ≤ was → c' ≡ c
  pub first : take was c' ≡ take was c
  pub most : need ≤ slots g
  pub done : (draft : List Label) → need ≡ fives_for (length (free g draft)) → Shows s (slots g) (units (used draft (take was c)))
      → (finish : List ℕ → List Label) → settle g (take was c) draft asked finish ≡ some (record { geometry = g; labels = finish ks; chain = take need c' })
  pub shown : (draft : List Label) → Shows s (slots g) (units (used draft (take was c)))
      → (k : ℕ) → k < slots g → free_bit s' k + (tally k (used draft (take need c')) + tally k ks) ≡ 1
  pub inside : (draft : List Label) → Shows s (slots g) (units (used draft (take was c))) → All (λ k. k < slots g) (take need c')
  pub inside_given : (draft : List Label) → Shows s (slots g) (units (used draft (take was c))) → All (λ k. k < slots g) ks
  pub left_most : left ≤ slots g
  pub left_is : (draft : List Label) → Shows s (slots g) (units (used draft (take was c))) → left ≡ total (free_from s' (slots g) 0)

-- where there are too few slots, the chain stays as it was
pub record Lacks (g : Geometry) (s s' c c' : List ℕ) (was need asked : ℕ) : Type 0 where
  pub long_map : length s' ≡ length s
  pub same_chain : c' ≡ c
  pub done : (draft : List Label) → need ≡ fives_for (length (free g draft)) → Shows s (slots g) (units (used draft (take was c)))
      → (finish : List ℕ → List Label) → settle g (take was c) draft asked finish ≡ none

-- for any geometry of n slots: settled with so many slots left, or not at all; then as many places are lent as before
abbrev pub SettlesIn : ℕ → (s s' c c' ks : List ℕ) → (was need asked : ℕ) → Option ℕ → Type 0
SettlesIn n s s' c c' ks was need asked r =
    (g : Geometry) → slots g ≡ n → MatchOption r (Lacks g s s' c c' was need asked × (length ks ≡ asked)) (λ left. Settles g s s' c c' ks was need asked left)
