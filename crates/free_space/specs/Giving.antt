-- A data set that is to give tracks back: where it was found, and what is known of it. Assumes nothing.
use Rattle.std.specs.Prelude.{◌≡◌, ℕ, List, ◌++◌, length}
use Rattle.free_space.specs.declared.Measured.{Measured}
use Rattle.model.specs.Model.{Extent, Geometry, Label, Volume, one_slot, tracks}
use Rattle.rules.specs.Table.{unit_in}
use Rattle.bitmap.specs.Map.{Shows}
use Rattle.dscb.specs.Records.{slot_bytes}
use Rattle.check_label.specs.Marks.{units}
use Rattle.check_table.specs.Check.{Shown}
use Rattle.set_extents.specs.Change.{Spreads, extents_in}
use Rattle.open_table.specs.Opening.{FoundAt, Ready}
use Rattle.data_set.proofs.Stored.{Stored}

-- slot k of the table t has the data set of this name; the maps m and s show what the volume holds
pub record At (g : Geometry) (t m s : List ℕ) (k : ℕ) : Type 0 where
  pub volume : Volume
  pub name : List ℕ
  pub ready : Ready t volume
  pub geometry_is : g ≡ volume.geometry
  pub shown : Shown volume m s
  pub it : FoundAt t volume name k

-- x tells of that data set, whose label is l, in the records of the table t: its unit, its tracks and the lowest of them
pub record Measures (g : Geometry) (t : List ℕ) (k : ℕ) (l : Label) (x : Measured) : Type 0 where
  pub slot : x.slot ≡ k
  pub unit : x.unit ≡ unit_in l.unit
  pub stored : Stored g l t x.slot x.count x.slot3
  pub spread : Spreads (tracks g) l.extents x.tracks x.lowest

-- its extents, as the records have them
abbrev pub measured_extents : Geometry → List ℕ → Measured → List Extent
measured_extents g t x = extents_in g (slot_bytes t x.slot) (slot_bytes t x.slot3) x.count

-- slot k, 0 for none, has become free, however many slots the map is taken to show
pub record FreedSlot (k : ℕ) (s s' : List ℕ) : Type 0 where
  pub long : length s' ≡ length s
  pub freed : (n : ℕ) (us : List ℕ) → Shows s n (units (one_slot k ++ us)) → Shows s' n (units us)
