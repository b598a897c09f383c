-- The map of free tracks: words of 64 bits, a bit a track. Assumes nothing.
use Rattle.std.specs.Prelude.{ℕ, ◌+◌, ◌-◌, ◌/◌, ◌%◌, ◌^◌, ◌≤◌, ◌<◌, ◌≡◌, Bool, true, false, List, [], ◌∷◌, length, get_or, eqb}
use Rattle.model.specs.Model.{Run, run, runs, times}

-- bit j of the number x
abbrev pub bit_at : ℕ → ℕ → ℕ
bit_at x j = x / 2 ^ j % 2

-- Track t is bit t mod 64 of word t / 64, the lowest bit first: trailing zeros are counted by one fast instruction.
-- 1 where the track is free; 0 where it is not, and behind the map's end.
unfoldable pub free_bit : List ℕ → ℕ → ℕ
free_bit m t = bit_at (get_or m (t / 64) 0) (t % 64)

-- the same as a test, of which `runs` makes the free extents
unfoldable pub is_free : List ℕ → ℕ → Bool
is_free m t = eqb (free_bit m t) 1

-- the maximal runs of free tracks among those from track a on and below n; all the free extents where a is 0
unfoldable pub free_from : List ℕ → ℕ → ℕ → List Run
free_from m n a = runs (is_free m) a (n - a)

-- THE LINK between the map and what is held: each track below n is either free or held, and held once
abbrev pub Shows : List ℕ → ℕ → List Run → Type 0
Shows m n hs = (t : ℕ) → t < n → free_bit m t + times t hs ≡ 1

-- ---- what the functions promise

-- m' is a map of the tracks of m in which those below n are free
pub record FreedBelow (m m' : List ℕ) (n : ℕ) : Type 0 where
  pub long : length m' ≡ length m
  pub below : (t : ℕ) → t < n → free_bit m' t ≡ 1

-- m' is m but for the tracks from s up to e, whose bits are b
pub record Made (b : ℕ) (m m' : List ℕ) (s e : ℕ) : Type 0 where
  pub long : length m' ≡ length m
  pub before : (t : ℕ) → t < s → free_bit m' t ≡ free_bit m t
  pub inside : (t : ℕ) → s ≤ t → t < e → free_bit m' t ≡ b
  pub after : (t : ℕ) → e ≤ t → free_bit m' t ≡ free_bit m t

abbrev pub AllFree : List ℕ → ℕ → ℕ → Type 0
AllFree m s e = (t : ℕ) → s ≤ t → t < e → free_bit m t ≡ 1

-- a track from s up to e is not free
pub record Hit (m : List ℕ) (s e : ℕ) : Type 0 where
  pub at : ℕ
  pub from : s ≤ at
  pub below : at < e
  pub off : free_bit m at ≡ 0

-- Taking the tracks from s up to e. Where one of them is not free only the length of the map is promised: the
-- volume, or the request, is refused then, and the map is not looked at again.
pub record Taken (m m' : List ℕ) (s e : ℕ) (r : Bool) : Type 0 where
  pub long : length m' ≡ length m
  pub were : r ≡ true → AllFree m s e
  pub made : r ≡ true → Made 0 m m' s e
  pub hit : r ≡ false → Hit m s e

-- Giving them back asks nothing of their bits: that they were held is the caller's to know (`shows_give`).
abbrev pub Given : List ℕ → List ℕ → ℕ → ℕ → Type 0
Given m m' s e = Made 1 m m' s e

-- the first run of free tracks from track s on and below n is from a up to b; where there is none, a and b are n
pub record NextRun (m : List ℕ) (n s a b : ℕ) : Type 0 where
  pub from : s ≤ a
  pub low : a ≤ b
  pub high : b ≤ n
  pub more : a < n → (a < b) × (free_from m n s ≡ run a (b - a) ∷ free_from m n b)
  pub done : n ≤ a → free_from m n s ≡ []

-- the runs lie in free tracks, none of them twice
abbrev pub Room : List ℕ → ℕ → List Run → Type 0
Room m n ps = (t : ℕ) → t < n → times t ps ≤ free_bit m t
