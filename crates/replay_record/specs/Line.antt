-- The line that is printed for a record (docs/REPLAY.md). Assumes nothing.
use Rattle.std.specs.Prelude.{ℕ, ◌+◌, ◌*◌, ◌/◌, ◌%◌, cond, List, [], ◌∷◌, ◌++◌, ltb}
use Rattle.model.specs.Basics.{flat}

-- ---- digits

abbrev pub hex_digit : ℕ → ℕ
hex_digit v = cond (ltb v 10) (0x30 + v) (0x37 + v)

abbrev pub hex_byte : ℕ → List ℕ
hex_byte b = hex_digit (b / 16) ∷ hex_digit (b % 16) ∷ []

-- two digits for each byte
unfoldable pub hex : List ℕ → List ℕ
hex s = flat hex_byte s

-- the last two decimal digits
abbrev pub two_digits : ℕ → List ℕ
two_digits n = (0x30 + n / 10 % 10) ∷ (0x30 + n % 10) ∷ []

-- a big-endian number of four bytes
abbrev pub be4 : ℕ → List ℕ
be4 n = n / 16777216 ∷ n / 65536 % 256 ∷ n / 256 % 256 ∷ n % 256 ∷ []

-- ---- the digest: Adler-32

unfoldable pub digest_from : ℕ → ℕ → List ℕ → ℕ
digest_from a b [] = b * 65536 + a
digest_from a b (x ∷ xs) = digest_from ((a + x) % 65521) ((b + (a + x) % 65521) % 65521) xs

unfoldable pub digest : List ℕ → ℕ
digest s = digest_from 1 0 s

-- ---- the line: operation, result, answer, and the digests of table and labels

unfoldable pub line_of : (op result : ℕ) (answer : List ℕ) (table labels : ℕ) → List ℕ
line_of op result answer table labels =
    hex_byte op
    ++ ((0x20 ∷ two_digits result)
    ++ ((0x20 ∷ hex answer) ++ ((0x20 ∷ hex (be4 table)) ++ ((0x20 ∷ hex (be4 labels)) ++ (0x0A ∷ [])))))
