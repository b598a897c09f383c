-- Records of 140 bytes in a table, by slot. Assumes nothing.
use Rattle.std.specs.Prelude.{ℕ, ◌+◌, ◌*◌, List, ◌++◌, take, drop}
use Rattle.model.specs.Basics.{part}

-- the record in slot k
abbrev pub slot_bytes : List ℕ → ℕ → List ℕ
slot_bytes t k = part (140 * k) 140 t

-- the table with the record r in slot k
unfoldable pub put_record : List ℕ → ℕ → List ℕ → List ℕ
put_record t k r = take (140 * k) t ++ (r ++ drop (140 * k + 140) t)
