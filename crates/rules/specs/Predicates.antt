-- Propositions that contracts cite: what is always true of a geometry, a label and a volume that the calls work on. Assumes nothing.
use Rattle.std.specs.Prelude.{◌≡◌, false, List, [], ◌∷◌, ℕ, ◌<◌, ◌+◌, ◌≤◌, zero, suc, length, T}
use Rattle.model.specs.Model.{Label, Extent, Geometry, Volume, fives_for, free, held, slots, tally, tracks, used, Run, run}
use Rattle.model.specs.Predicates.{All, Once}
use Rattle.rules.specs.Table.{named, good_name, good_type, good_unit, limits}
use Rattle.rules.specs.Layout.{head_or0}
use Rattle.rules.specs.Calls.{Amount, absolute, in_cylinders, in_tracks}

-- nobody in the list has this name
abbrev pub Unlike : List ℕ → List Label → Type 0
Unlike n ls = All (λ m. named n m ≡ false) ls

abbrev pub Differ : List Label → Type 0
Differ [] = Unit {0}
Differ (l ∷ ls) = Unlike l.name ls × Differ ls

abbrev pub Ascending : List Label → Type 0
Ascending [] = Unit {0}
Ascending (l ∷ ls) = All (λ m. l.slot < m.slot) ls × Ascending ls

-- the limits of a geometry, as propositions
pub record Limits (g : Geometry) : Type 0 where
  pub cylinders : 1 ≤ g.cylinders
  pub heads : 1 ≤ g.heads
  pub heads_most : g.heads ≤ 255
  pub records : 1 ≤ g.records
  pub records_most : g.records ≤ 255
  pub start : 1 ≤ g.vtoc_start
  pub vtoc : 1 ≤ g.vtoc_tracks
  pub tracks_most : tracks g ≤ 65535
  pub ends : g.vtoc_start + g.vtoc_tracks ≤ tracks g
  pub least : 3 ≤ slots g
  pub most : slots g ≤ 468

pub record GoodExtent (g : Geometry) (e : Extent) : Type 0 where
  pub typed : T (good_type g.heads e.type_byte e.over)
  pub full : 1 ≤ e.over.count
  pub ends : e.over.start + e.over.count ≤ tracks g

pub record GoodLabel (g : Geometry) (l : Label) : Type 0 where
  pub slot : 1 ≤ l.slot
  pub name_length : length l.name ≡ 44
  pub name : T (good_name l.name)
  pub attributes_length : length l.attributes ≡ 52
  pub unit : T (good_unit l.unit l.secondary)
  pub least : 1 ≤ length l.extents
  pub most : length l.extents ≤ 16
  pub extents : All (GoodExtent g) l.extents
  pub few : length l.extents ≤ 3 → l.slot3 ≡ 0
  pub many : 3 < length l.extents → 1 ≤ l.slot3

pub record Valid (v : Volume) : Type 0 where
  pub limit : T (limits v.geometry)
  pub head : head_or0 v.chain ≡ 1
  pub long : length v.chain ≡ fives_for (length (free v.geometry v.labels))
  pub slot_once : (k : ℕ) → tally k (used v.labels v.chain) ≤ 1
  pub slot_in : (k : ℕ) → slots v.geometry ≤ k → tally k (used v.labels v.chain) ≡ 0
  pub ascending : Ascending v.labels
  pub good : All (GoodLabel v.geometry) v.labels
  pub differ : Differ v.labels
  pub once : Once (tracks v.geometry) (held v.geometry v.labels)

-- what every request has checked
abbrev pub Asks : Geometry → Amount → Type 0
Asks g (in_tracks n) = 1 ≤ n
Asks g (in_cylinders n) = 1 ≤ n
Asks g (absolute s n) = (1 ≤ n) × (s + n ≤ tracks g)

-- n tracks from s on: no run where n is 0
unfoldable pub some_run : ℕ → ℕ → List Run
some_run s zero = []
some_run s (suc n) = run s (suc n) ∷ []
