-- The slots that the map of slots shows free, and the highest slot of a label. Assumes nothing.
use Rattle.std.specs.Prelude.{ℕ, zero, suc, ◌≤◌, ◌<◌, cond, List, Option, MatchOption, ◌≡◌}
use Rattle.model.specs.Basics.{zeros}
use Rattle.model.specs.Model.{total}
use Rattle.bitmap.specs.Map.{free_bit, free_from}
use Rattle.dscb.specs.Records.{slot_bytes}
use Rattle.names.specs.Find.{is_label}

-- each free slot below n is zero in the table t; s is the map of free slots
abbrev pub ZeroBelow : List ℕ → ℕ → List ℕ → Type 0
ZeroBelow t n s = (k : ℕ) → k < n → free_bit s k ≡ 1 → slot_bytes t k ≡ zeros 140

-- the free slots among the n of the table t are zero, and so many
pub record AllZero (t : List ℕ) (n : ℕ) (s : List ℕ) (count : ℕ) : Type 0 where
  pub zero : ZeroBelow t n s
  pub many : count ≡ total (free_from s n 0)
  pub most : count ≤ n

-- how many they are; or one of them is not zero
abbrev pub Spared : (t : List ℕ) (n : ℕ) (s : List ℕ) → Option ℕ → Type 0
Spared t n s r = MatchOption r (ZeroBelow t n s → ⊥) (λ count. AllZero t n s count)

-- the highest of the n slots that has a format 1, 0 for none
unfoldable pub highest_slot : List ℕ → ℕ → ℕ
highest_slot t zero = 0
highest_slot t (suc k) = cond (is_label (slot_bytes t k)) k (highest_slot t k)
