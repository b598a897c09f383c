-- Rows of bytes: all alike, and eight of them as one number. Assumes nothing.
use Rattle.std.specs.Prelude.{ℕ, ◌+◌, ◌*◌, ◌<◌, Bool, List, eqb, get_or}
use Rattle.model.specs.Basics.{all}

-- every byte is v
unfoldable pub all_are : ℕ → List ℕ → Bool
all_are v xs = all (λ b. eqb b v) xs

-- four bytes from place i on as a number, the low one first
abbrev pub word4 : List ℕ → ℕ → ℕ
word4 s i = get_or s i 0 + get_or s (i + 1) 0 * 256 + get_or s (i + 2) 0 * 65536 + get_or s (i + 3) 0 * 16777216

-- eight of them
unfoldable pub word8 : List ℕ → ℕ → ℕ
word8 s i = word4 s i + word4 s (i + 4) * 4294967296

-- every one is a byte
abbrev pub Bytes : List ℕ → Type 0
Bytes xs = (j : ℕ) → get_or xs j 0 < 256
