-- What the check of a table, the name rule and an extent's ten bytes answer by number. Assumes nothing.
use Rattle.std.specs.Prelude.{ℕ, cond, List, get_or}
use Rattle.rules.specs.Layout.{extent_part}
use Rattle.rules.specs.Table.{good_length, good_name, table_refusal}

-- refusal 2 is for a table's length, then what refuses the table; 0 is none
unfoldable pub check_number : List ℕ → ℕ
check_number t = cond (good_length t) (table_refusal t) 2

-- the name rule as a number: 1 where it is obeyed
unfoldable pub name_number : List ℕ → ℕ
name_number name = cond (good_name name) 1 0

-- byte i of an extent's ten bytes; 256, which is no byte, where the part ends before it
unfoldable pub extent_byte : List ℕ → List ℕ → ℕ → ℕ → ℕ
extent_byte f1 f3 e i = get_or (extent_part f1 f3 e) i 256
