-- The characters of names as sets of bits, and where a part of a name ends. Assumes nothing.
use Rattle.std.specs.Prelude.{ℕ, ◌/◌, ◌%◌, ◌^◌, ◌≤◌, ◌<◌, ◌≡◌, Bool, true, false, cond, List, leb, ltb, eqb, get_or, length}
use Rattle.rules.specs.Table.{in_part}

-- the bit of the character c in a set of 64
abbrev pub in_set : ℕ → ℕ → Bool
in_set w c = eqb (w / 2 ^ (c % 64) % 2) 1

-- the same for the characters X'40' to X'7F'; no other is in the set
abbrev pub in_low : ℕ → ℕ → Bool
in_low w c = cond (ltb c 0x40) false (cond (leb 0x80 c) false (in_set w c))

-- from place `from` up to r the characters may stand in a part of a name; the one at r may not, or is not there
pub record PartEnd (s : List ℕ) (from r : ℕ) : Type 0 where
  pub low : from ≤ r
  pub high : r ≤ length s
  pub inside : (i : ℕ) → from ≤ i → i < r → in_part (get_or s i 0) ≡ true
  pub stop : r < length s → in_part (get_or s r 0) ≡ false
