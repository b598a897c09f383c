-- Bytes put into a record, one after the other. Assumes nothing.
use Rattle.std.specs.Prelude.{ℕ, ◌+◌, List, [], ◌∷◌, set}

-- the record r with the bytes bs from place i on
unfoldable pub put_at : List ℕ → ℕ → List ℕ → List ℕ
put_at r i [] = r
put_at r i (b ∷ bs) = put_at (set r i b) (i + 1) bs
