-- What the functions write into a buffer. Assumes nothing.
use Rattle.std.specs.Prelude.{◌≡◌, ℕ, ◌+◌, ◌*◌, ◌/◌, ◌%◌, ◌≤◌, not, cond, List, [], ◌∷◌, map, length, take, ltb, eqb}
use Rattle.model.specs.Basics.{filter}
use Rattle.model.specs.Model.{Extent}
use Rattle.rules.specs.Listing.{decimal, line, printable}

-- the line stands at the buffer's start and has r bytes; every line has room in 64
pub record Line (s out out' : List ℕ) (r : ℕ) : Type 0 where
  pub long : length out' ≡ length out
  pub end : r ≤ 64
  pub text : take r out' ≡ s

-- the decimal digit that counts this unit, none where v is below it
unfoldable pub digit : ℕ → ℕ → List ℕ
digit unit v = cond (ltb v unit) [] ((0x30 + v / unit % 10) ∷ [])

-- "name less its blanks"
unfoldable pub name_text : List ℕ → List ℕ
name_text name = map printable (filter (λ b. not (eqb b 0x40)) name)

-- the line of a volume, by its cylinders and the tracks in each
unfoldable pub volume_text : ℕ → ℕ → List ℕ
volume_text cylinders heads = line 0x56 (decimal cylinders ∷ decimal heads ∷ decimal (cylinders * heads) ∷ [])

-- the line of a data set, by its name, its tracks and its number of extents
unfoldable pub data_text : List ℕ → ℕ → ℕ → List ℕ
data_text name tracks extents = line 0x44 (name_text name ∷ decimal tracks ∷ decimal extents ∷ [])

-- an extent that is good on some volume: it has a track, and ends below 65,536
pub record Proper (e : Extent) : Type 0 where
  pub full : 1 ≤ e.over.count
  pub ends : e.over.start + e.over.count ≤ 65535
