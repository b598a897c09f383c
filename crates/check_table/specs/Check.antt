-- What the check of a table answers, piece by piece, and of the maps of free tracks and slots that it makes. Assumes nothing.
use Rattle.std.specs.Prelude.{◌≡◌, ℕ, ◌*◌, ◌≤◌, ◌<◌, List, [], ◌∷◌, Option, IfSome, IsNone, IsSome, is_some, length, replicate}
use Rattle.model.specs.Basics.{zeros}
use Rattle.model.specs.Model.{Geometry, Volume, format0s, free, held, slots, tally, tracks, unused, used}
use Rattle.rules.specs.Layout.{format4, highest}
use Rattle.rules.specs.Reading.{chop, read, read_geometry}
use Rattle.rules.specs.Table.{taken}
use Rattle.rules.specs.Predicates.{Limits}
use Rattle.rules.specs.Sound.{Sound}
use Rattle.bitmap.specs.Map.{AllFree, Shows}
use Rattle.dscb.specs.Records.{slot_bytes}
use Rattle.dscb.specs.Forms.{geometry_of}
use Rattle.check_label.specs.Marks.{units}
use Rattle.check_table.specs.Labels.{labels_below}
use Rattle.check_chain.specs.Chain.{chain_from}
use Rattle.check_table.specs.Spare.{highest_slot}
use Rattle.check_table.specs.declared.Verdict.{Verdict}

-- the volume that a table of this geometry is read as
abbrev pub volume_at : Geometry → List ℕ → Volume
volume_at g t =
    record { geometry = g; labels = labels_below g t (slots g); chain = chain_from g t (free g (labels_below g t (slots g))) 1 }

-- n words of ones: a map in which every track is free, as a call makes it
abbrev pub ones : ℕ → List ℕ
ones n = replicate n 0xffff_ffff_ffff_ffff

-- A map of free tracks has room for the volume that the format 4 of the table tells of, where that is a volume at all: a
-- call on a small volume fills a small map. Every track is free in it: the check only takes tracks out.
pub record Roomy (t m : List ℕ) : Type 0 where
  pub enough : Limits (read_geometry (slot_bytes t 0)) → tracks (read_geometry (slot_bytes t 0)) ≤ 64 * length m
  pub fresh : AllFree m 0 (64 * length m)

-- all tracks are free but the label track and the VTOC, all slots but slot 0
pub record MapsBegun (g : Geometry) (m m' s s' : List ℕ) : Type 0 where
  pub long_map : length m' ≡ length m
  pub long_slots : length s' ≡ length s
  pub free_tracks : Shows m' (tracks g) (held g [])
  pub free_slots : Shows s' (slots g) (units (0 ∷ []))

-- where the slots us have a use: the others are zero, and the format 4 tells how many they are and which label is the highest
pub record Rest (g : Geometry) (t us : List ℕ) : Type 0 where
  pub zero : (k : ℕ) → k < slots g → tally k us ≡ 0 → slot_bytes t k ≡ zeros 140
  pub four : format4 g (highest_slot t (slots g)) (length (unused (slots g) us)) ≡ slot_bytes t 0

-- the numbers that are told then
pub record TellsRest (g : Geometry) (t s : List ℕ) (v : Verdict) : Type 0 where
  pub geometry_is : geometry_of v.geometry ≡ g
  pub count_is : (us : List ℕ) → Shows s (slots g) (units us) → v.format0s ≡ length (unused (slots g) us)
  pub count_most : v.format0s ≤ slots g
  pub highest_is : v.highest ≡ highest_slot t (slots g)

pub record RestTold (g : Geometry) (t s : List ℕ) (r : Option Verdict) : Type 0 where
  pub yes : IsSome r → (us : List ℕ) → Shows s (slots g) (units us) → Rest g t us
  pub no : IsNone r → (us : List ℕ) → Shows s (slots g) (units us) → Rest g t us → ⊥
  pub tells : IfSome r (λ v. TellsRest g t s v)

-- the maps show what the volume holds
pub record Shown (v : Volume) (m s : List ℕ) : Type 0 where
  pub free_tracks : Shows m (tracks v.geometry) (held v.geometry v.labels)
  pub free_slots : Shows s (slots v.geometry) (units (used v.labels v.chain))

-- the numbers are the volume's: its geometry, how many format 0s it has, and the highest slot of a format 1, 0 for none
pub record TellsVolume (v : Volume) (g : Geometry) (count top : ℕ) : Type 0 where
  pub geometry_is : g ≡ v.geometry
  pub count_is : count ≡ length (format0s v)
  pub count_most : count ≤ slots v.geometry
  pub highest_is : top ≡ highest v.labels

-- a table of this geometry is sound, and the maps show what it holds; or it is not
pub record Contents (g : Geometry) (t m m' s s' : List ℕ) (r : Option Verdict) : Type 0 where
  pub long_map : length m' ≡ length m
  pub long_slots : length s' ≡ length s
  pub yes : IsSome r → Sound (chop (slots g) t) (volume_at g t)
  pub shown : IsSome r → Shown (volume_at g t) m' s'
  pub tells : IfSome r (λ v. TellsVolume (volume_at g t) (geometry_of v.geometry) v.format0s v.highest)
  pub no : IsNone r → Sound (chop (slots g) t) (volume_at g t) → ⊥

-- THE CHECK: whether the table is taken, and then what is free and what its numbers are
pub record Checked (t m m' s s' : List ℕ) (r : Option Verdict) : Type 0 where
  pub long_map : length m' ≡ length m
  pub long_slots : length s' ≡ length s
  pub told : is_some r ≡ taken t
  pub shown : IsSome r → Shown (read t) m' s'
  pub tells : IfSome r (λ v. TellsVolume (read t) (geometry_of v.geometry) v.format0s v.highest)
