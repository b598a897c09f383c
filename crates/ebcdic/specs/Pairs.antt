-- The name rule by pairs of neighbours and rows of nine, as the code goes. Assumes nothing.
use Rattle.std.specs.Prelude.{ℕ, zero, suc, ◌+◌, min, ◌≡◌, Bool, true, false, cond, ◌&&◌, ◌||◌, List, eqb, ltb, get_or}
use Rattle.rules.specs.Table.{in_part, starts_part}

-- a number that is 0 where the test holds
abbrev pub Tells : ℕ → Bool → Type 0
Tells r b = eqb r 0 ≡ b

-- what a character is: 4 one of names, 1 the start of a part, 8 a blank
unfoldable pub class_of : ℕ → ℕ
class_of c = cond (starts_part c) 5 (cond (in_part c || eqb c 0x4B) 4 (cond (eqb c 0x40) 12 0))

-- what the character behind c must be: behind a period a start, behind a blank a blank
unfoldable pub wanted_after : ℕ → ℕ
wanted_after c = cond (eqb c 0x4B) 1 (cond (eqb c 0x40) 8 4)

-- the characters at places i and i + 1 may be neighbours
unfoldable pub fit : List ℕ → ℕ → Bool
fit s i =
    cond (eqb (get_or s i 0) 0x4B) (starts_part (get_or s (i + 1) 0))
    (cond (eqb (get_or s i 0) 0x40) (eqb (get_or s (i + 1) 0) 0x40)
    (in_part (get_or s (i + 1) 0) || (eqb (get_or s (i + 1) 0) 0x4B || eqb (get_or s (i + 1) 0) 0x40)))

-- the least of the four from place i on, and of the nine
unfoldable pub least_of_four : List ℕ → ℕ → ℕ
least_of_four s i = min (min (get_or s i 0) (get_or s (i + 1) 0)) (min (get_or s (i + 2) 0) (get_or s (i + 3) 0))

unfoldable pub least_of_nine : List ℕ → ℕ → ℕ
least_of_nine s i = min (min (least_of_four s i) (least_of_four s (i + 4))) (get_or s (i + 8) 0)

-- a period or a blank is among the nine
unfoldable pub brief : List ℕ → ℕ → Bool
brief s i = cond (ltb 0x4B (least_of_nine s i)) false true

-- n turns of a loop, with two tests each
unfoldable pub turns_to : (ℕ → Bool) → (ℕ → Bool) → ℕ → Bool
turns_to f g zero = true
turns_to f g (suc n) = (turns_to f g n && f n) && g n

-- n pairs from place p on fit, and n rows of nine from place q on are brief
abbrev pub sixteen_to : List ℕ → ℕ → ℕ → ℕ → Bool
sixteen_to s p q = turns_to (λ i. fit s (p + i)) (λ i. brief s (q + i))
