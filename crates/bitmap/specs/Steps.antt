-- What the functions inside the map's loops promise: masks, words and single tracks. Assumes nothing.
use Rattle.std.specs.Prelude.{ℕ, zero, suc, ◌+◌, ◌-◌, ◌*◌, ◌/◌, ◌%◌, ◌^◌, ◌≤◌, ◌<◌, min, ◌≡◌, Bool, true, false, List, get_or, length, ltb}
use Rattle.std.specs.Int.Bits.{bit_xor}
use Rattle.model.specs.Basics.{bit}
use Rattle.model.specs.Model.{runs}
use Rattle.bitmap.specs.Map.{bit_at, free_bit, is_free}

-- n ones from bit lo on
unfoldable pub block : ℕ → ℕ → ℕ
block lo n = (2 ^ n - 1) * 2 ^ lo

-- the word whose first track is a, where the tracks below n are free and no others
abbrev pub WordAt : ℕ → ℕ → ℕ → Type 0
WordAt a n r = (j : ℕ) → j < 64 → bit_at r j ≡ bit (ltb (a + j) n)

-- the word, or its complement
unfoldable pub flipped : Bool → ℕ → ℕ
flipped true x = x
flipped false x = bit_xor x 0xffff_ffff_ffff_ffff

-- r is the first track from s on and below n that is free (b true) or is not (b false); n where there is none
pub record First (m : List ℕ) (b : Bool) (s n r : ℕ) : Type 0 where
  pub from : s ≤ r
  pub to : r ≤ n
  pub before : (t : ℕ) → s ≤ t → t < r → free_bit m t ≡ 1 - bit b
  pub here : r < n → free_bit m r ≡ bit b

-- x shows the tracks from t on and below n that lie in t's word, at their places in it; the bits before t are clear
pub record RestOfWord (m : List ℕ) (n t x : ℕ) : Type 0 where
  pub clear : (j : ℕ) → j < t % 64 → bit_at x j ≡ 0
  pub shown : (i : ℕ) → t ≤ i → i < n → i / 64 ≡ t / 64 → bit_at x (i % 64) ≡ free_bit m i

-- the words from w up to r are p
abbrev pub WordsAlike : List ℕ → ℕ → ℕ → ℕ → Type 0
WordsAlike m p w r = (i : ℕ) → w ≤ i → i < r → get_or m i 0 ≡ p

-- of the words from w on and below e the one at r is the first that is not p
pub record FirstUnlike (m : List ℕ) (p w e r : ℕ) : Type 0 where
  pub from : w ≤ r
  pub to : r < e
  pub before : WordsAlike m p w r
  pub unlike : get_or m r 0 ≡ p → ⊥

-- y shows the tracks from t on and below n that lie in word w, at their places in it; no bits before t
pub record Part (m : List ℕ) (n t w y : ℕ) : Type 0 where
  pub clear : (j : ℕ) → 64 * w + j < t → bit_at y j ≡ 0
  pub shown : (i : ℕ) → t ≤ i → i < n → i / 64 ≡ w → bit_at y (i % 64) ≡ free_bit m i

-- no track from t on and below n is free
abbrev pub NoneFree : List ℕ → ℕ → ℕ → Type 0
NoneFree m t n = (i : ℕ) → t ≤ i → i < n → free_bit m i ≡ 0

-- word w, below word e, is the first that may have a free track from t on and below n, and y, which is not 0, shows those of it
pub record Word (m : List ℕ) (n t e w y : ℕ) : Type 0 where
  pub part : Part m n t w y
  pub before : (i : ℕ) → t ≤ i → i < n → i < 64 * w → free_bit m i ≡ 0
  pub to : w < e
  pub some : y ≡ 0 → ⊥

-- the tracks from a on are free up to word w, whose tracks y shows; `low` is y from track a on, and all ones before
pub record Ending (m : List ℕ) (n a w y low : ℕ) : Type 0 where
  pub before : (i : ℕ) → a ≤ i → i < n → i < 64 * w → free_bit m i ≡ 1
  pub shown : (i : ℕ) → a ≤ i → i < n → i / 64 ≡ w → bit_at y (i % 64) ≡ free_bit m i
  pub same : (j : ℕ) → a ≤ 64 * w + j → bit_at low j ≡ bit_at y j
  pub filled : (j : ℕ) → 64 * w + j < a → bit_at low j ≡ 1

-- the bits of the word x with a clear bit before them, where y is the word before x
pub record Starts (y x r : ℕ) : Type 0 where
  pub small : r < 2 ^ 64
  pub first : bit_at r 0 ≡ min (bit_at x 0) (1 - bit_at y 63)
  pub rest : (j : ℕ) → j < 63 → bit_at r (suc j) ≡ min (bit_at x (suc j)) (1 - bit_at x j)

-- the bit of the track before t; none is before track 0
abbrev pub bit_before : List ℕ → ℕ → ℕ
bit_before m zero = 0
bit_before m (suc t) = free_bit m t

-- how many runs of free tracks there are below t
unfoldable pub runs_below : List ℕ → ℕ → ℕ
runs_below m t = length (runs (is_free m) 0 t)

-- so many runs are below track t, the first of a word, and y is the word before, or ends as it does
pub record Counts (m : List ℕ) (t c y : ℕ) : Type 0 where
  pub runs : c ≡ runs_below m t
  pub last : bit_at y 63 ≡ bit_before m t
