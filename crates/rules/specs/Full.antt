-- Refusal 11, "free slots and freed ones fewer than needed", counted on the volume as it stands before the change, record by
-- record. `Slots.settle` gives slots out; proofs/Full shows that it finds too few exactly where this says so. Assumes nothing.
use Rattle.std.specs.Prelude.{ℕ, ◌+◌, ◌-◌, Bool, true, List, [], ◌∷◌, ◌++◌, ◌≡◌, length, ltb}
use Rattle.std.proofs.Math.Option.{Option, none, some}
use Rattle.model.specs.Basics.{bit}
use Rattle.model.specs.Model.{Label, Volume, fives_for, format0s, free}
use Rattle.rules.specs.Calls.{Outcome, refuse}

-- ---- the data set that a call changes, before and after it: none before an allocate, none after a scratch

abbrev pub members : Option Label → List Label
members none = []
members (some l) = l ∷ []

abbrev pub format1s : Option Label → ℕ
format1s none = 0
format1s (some l) = 1

-- "it has a format 3 exactly when more than 3"
abbrev pub format3s : Option Label → ℕ
format3s none = 0
format3s (some l) = bit (ltb 3 (length l.extents))

-- ---- the count

module _ (v : Volume) (others : List Label) (before after : Option Label) where
  -- the format 5s for the free extents that the change leaves
  abbrev pub fives_needed : ℕ
  fives_needed = fives_for (length (free v.geometry (members after ++ others)))

  -- "Scratch frees the set and its slots"; "Three extents or fewer: the format 3 is freed"; "format 5s no longer needed are
  -- freed"
  abbrev pub freed : ℕ
  freed = (format1s before - format1s after) + (format3s before - format3s after) + (length v.chain - fives_needed)

  -- "format 1, format 3 and new format 5s"
  abbrev pub needed : ℕ
  needed = (format1s after - format1s before) + (format3s after - format3s before) + (fives_needed - length v.chain)

  abbrev pub full : Bool
  full = ltb (length (format0s v) + freed) needed

-- nothing was settled exactly when the test passes
abbrev pub NoneExactly : Option Volume → Bool → Type 0
NoneExactly o b = (o ≡ none → b ≡ true) × (b ≡ true → o ≡ none)

-- refused with this number exactly when the test passes
abbrev pub RefusedExactly : Outcome → ℕ → Bool → Type 0
RefusedExactly o n b = (o ≡ refuse n → b ≡ true) × (b ≡ true → o ≡ refuse n)
