-- Packed bytes as the code reads them: whether they are digits, and the year and the day that they tell. Assumes nothing.
use Rattle.std.specs.Prelude.{ℕ, ◌+◌, ◌*◌, ◌/◌, ◌%◌, Bool, ◌&&◌, List, eqb, leb, get_or}

abbrev pub two_digits : ℕ → Bool
two_digits b = leb b 0x99 && leb (b % 16) 9

unfoldable pub digits_in : List ℕ → Bool
digits_in p =
    leb (get_or p 0 0) 1
    && (two_digits (get_or p 1 0) && (two_digits (get_or p 2 0) && (leb (get_or p 3 0) 0x9F && eqb (get_or p 3 0 % 16) 15)))

-- years from 1900 on
unfoldable pub year_in : List ℕ → ℕ
year_in p = 100 * (get_or p 0 0 % 16) + 10 * (get_or p 1 0 / 16) + get_or p 1 0 % 16

unfoldable pub day_in : List ℕ → ℕ
day_in p = 100 * (get_or p 2 0 / 16) + 10 * (get_or p 2 0 % 16) + get_or p 3 0 / 16
