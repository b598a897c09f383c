-- The lookup of a name in a table's slots, and that names differ, as the code goes. Assumes nothing.
use Rattle.std.specs.Prelude.{ℕ, zero, suc, ◌+◌, ◌*◌, ◌/◌, ◌%◌, ◌<◌, Bool, true, cond, ◌&&◌, List, Option, Some, None, ◌≡◌, get_or, length, eqb}
use Rattle.std.specs.Int.Bits.{bit_xor}
use Rattle.model.specs.Basics.{any, part, same}
use Rattle.bitmap.specs.Map.{free_bit}
use Rattle.dscb.specs.Records.{slot_bytes}
use Rattle.rows.specs.Words.{word8}

-- the record is a format 1
abbrev pub is_label : List ℕ → Bool
is_label r = eqb (get_or r 44 0) 0xF1

-- DS1DSNAM
abbrev pub name_of : List ℕ → List ℕ
name_of r = part 0 44 r

-- a format 1 under this name
unfoldable pub is_named : List ℕ → List ℕ → Bool
is_named r name = is_label r && same (name_of r) name

-- a lookup's answer in document 01: its number, and where that is 0 the slot
pub record Answer : Type 0 where
  pub number : ℕ
  pub slot : ℕ

abbrev pub in_slot : ℕ → Answer
in_slot k = record { number = 0; slot = k }

-- "5 | not found | name not on the volume"
abbrev pub not_found : Answer
not_found = record { number = 5; slot = 0 }

-- "A lookup answers with a slot or with nothing"
abbrev pub answer_of : Option ℕ → Answer
answer_of (Some k) = in_slot k
answer_of None = not_found

-- the first of the n slots from k on that has the name
unfoldable pub first_named : List ℕ → List ℕ → ℕ → ℕ → Answer
first_named t name k zero = not_found
first_named t name k (suc n) = cond (is_named (slot_bytes t k) name) (in_slot k) (first_named t name (suc k) n)

unfoldable pub find_slot : List ℕ → List ℕ → ℕ → Answer
find_slot t name n = first_named t name 0 n

abbrev pub is_nothing : Answer → Bool
is_nothing a = eqb a.number 5

-- slot k holds no label, or one whose name no slot before it has
unfoldable pub new_at : List ℕ → ℕ → Bool
new_at t k = cond (is_label (slot_bytes t k)) (is_nothing (find_slot t (name_of (slot_bytes t k)) k)) true

unfoldable pub distinct_from : List ℕ → ℕ → ℕ → Bool
distinct_from t k zero = true
distinct_from t k (suc n) = new_at t k && distinct_from t (suc k) n

-- the names of the format 1s among the n slots differ
unfoldable pub distinct : List ℕ → ℕ → Bool
distinct t n = distinct_from t 0 n

-- ---- a number made of a name: any function of it would do, it tells most names apart that differ

-- the halves of the eight characters from place i on, changed by a key, times each other,
unfoldable pub keyed : List ℕ → ℕ → ℕ → ℕ
keyed s i key = (bit_xor (word8 s i) key % 4294967296) * (bit_xor (word8 s i) key / 4294967296)

-- all such products one upon the other,
unfoldable pub mixed : List ℕ → ℕ
mixed s =
    bit_xor
    (bit_xor (bit_xor (keyed s 0 0x243F6A8885A308D3) (keyed s 8 0x13198A2E03707344)) (bit_xor (keyed s 16 0xA4093822299F31D0) (keyed s 24 0x082EFA98EC4E6C89)))
    (bit_xor (keyed s 32 0x452821E638D01377) (keyed s 36 0xBE5466CF34E90C6C))

-- and 16 bits out of the middle of a product
unfoldable pub tag_of : List ℕ → ℕ
tag_of name = bit_xor (mixed name) (mixed name / 4294967296) % 4294967296 * 2654435769 / 65536 % 65536

unfoldable pub has_tag : List ℕ → ℕ → Bool
has_tag tags t = any (λ x. eqb x t) tags

-- each label among the first k slots has its tag at its slot
abbrev pub Tagged : List ℕ → ℕ → List ℕ → Type 0
Tagged t k tags = (j : ℕ) → j < k → is_label (slot_bytes t j) ≡ true → get_or tags j 0 ≡ tag_of (name_of (slot_bytes t j))

-- each label among the first k slots has its mark, at its tag's remainder by 4,096; a mark is a free track of the map `seen`
abbrev pub Seen : List ℕ → ℕ → List ℕ → Type 0
Seen t k seen = (j : ℕ) → j < k → is_label (slot_bytes t j) ≡ true → free_bit seen (tag_of (name_of (slot_bytes t j)) % 4096) ≡ 1

-- slot k was looked at: whether its name is new, and the tags and marks then
pub record Entered (t : List ℕ) (k : ℕ) (tags tags' seen seen' : List ℕ) (r : Bool) : Type 0 where
  pub new : r ≡ new_at t k
  pub long : length tags' ≡ length tags
  pub wide : length seen' ≡ length seen
  pub tagged : r ≡ true → Tagged t (k + 1) tags'
  pub marked : r ≡ true → Seen t (k + 1) seen'
