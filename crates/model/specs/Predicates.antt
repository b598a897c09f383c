-- Propositions that contracts cite: what holds of every element, which tracks are held at most once, and how many tracks of an
-- extent stay. Assumes nothing.
use Rattle.std.specs.Prelude.{◌≡◌, List, [], ◌∷◌, ◌++◌, ℕ, zero, suc, ◌+◌, ◌-◌, ◌%◌, ◌≤◌, ◌<◌}
use Rattle.model.specs.Basics.{up_from}
use Rattle.model.specs.Model.{Run, times}
use Rattle.model.specs.Tracks.{goes_on}

abbrev pub All : {A : Type 0} → (A → Type 0) → List A → Type 0
All P [] = Unit {0}
All P (x ∷ xs) = P x × All P xs

-- no track below n is held twice
abbrev pub Once : ℕ → List Run → Type 0
Once n hs = (t : ℕ) → t < n → times t hs ≤ 1

-- ---- the tracks that a cylinder file keeps, extent by extent: laws of model/proofs/Cylinders lead to `tracks_kept`

-- how many tracks from track s on are in the cylinder of the track before s
abbrev room_past : (h : ℕ) → ℕ → ℕ
room_past h zero = 0
room_past h (suc o) = h - suc o

unfoldable pub room : (h s : ℕ) → ℕ
room h s = room_past h (s % h)

-- how many tracks of a list stay: its first k, and those that go on from the last of these, or from track t where k is 0
abbrev pub kept_from : (h k t : ℕ) → List ℕ → ℕ
kept_from h k t [] = 0
kept_from h zero t (s ∷ ts) = goes_on h t (s ∷ ts)
kept_from h (suc k) t (s ∷ ts) = suc (kept_from h k s ts)

-- r tracks stay of an extent of c tracks from track s on, whatever follows in the list, which is gone over further where all c
-- stay. Cut inside, the extent ends with its cylinder
pub record StaysOf (h k t s c r : ℕ) : Type 0 where
  pub most : r ≤ c
  pub part : r < c → (rest : List ℕ) → kept_from h k t (up_from s c ++ rest) ≡ r
  pub whole : r ≡ c → (rest : List ℕ) → kept_from h k t (up_from s c ++ rest) ≡ c + kept_from h (k - c) (s + c - 1) rest
  pub ends : 1 ≤ r → r < c → (s + r) % h ≡ 0
