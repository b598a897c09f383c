-- The fields of a record of 136 bytes (docs/REPLAY.md). Assumes nothing.
use Rattle.std.specs.Prelude.{ℕ, ◌+◌, ◌*◌, min, List, [], ◌∷◌, ◌++◌, get_or, take, drop}
use Rattle.model.specs.Basics.{get2, part}

-- the big-endian number of four bytes at place i
abbrev pub get4 : List ℕ → ℕ → ℕ
get4 r i = get2 r i * 65536 + get2 r (i + 2)

-- ---- how many bytes are lent

unfoldable pub answer_lent : List ℕ → ℕ
answer_lent r = min (get_or r 3 0) 32

unfoldable pub labels_lent : List ℕ → ℕ
labels_lent r = min (get2 r 4) 288

unfoldable pub table_lent : List ℕ → ℕ
table_lent r = get2 r 6

-- ---- the lent name, the second name or attributes, the date, and the bytes that are put

unfoldable pub name_asked : List ℕ → List ℕ
name_asked r = part 28 (min (get_or r 1 0) 46) r

unfoldable pub other_of : List ℕ → List ℕ
other_of r = part 74 (min (get_or r 2 0) 54) r

unfoldable pub date_asked : List ℕ → List ℕ
date_asked r = part 129 (min (get_or r 128 0) 7) r

unfoldable pub bytes_of : List ℕ → List ℕ
bytes_of r = part 28 (min (get_or r 1 0) 100) r

-- ---- put

-- the bytes of xs in the place of the first bytes of t, as far as t has bytes
unfoldable pub over : List ℕ → List ℕ → List ℕ
over [] t = t
over (x ∷ xs) [] = []
over (x ∷ xs) (y ∷ t) = x ∷ over xs t

-- from a place on
unfoldable pub over_at : ℕ → List ℕ → List ℕ → List ℕ
over_at place xs t = take place t ++ over xs (drop place t)
