-- What a call knows when it has opened a table. Assumes nothing.
use Rattle.std.specs.Prelude.{◌≡◌, ℕ, zero, suc, ◌*◌, ◌≤◌, ◌<◌, Bool, true, cond, ◌&&◌, List, T, length, Result, Ok, Err}
use Rattle.std.proofs.Math.Option.{Option, none, some}
use Rattle.check_table.specs.declared.Verdict.{Verdict}
use Rattle.open_table.specs.declared.SetOpening.{SetOpening}
use Rattle.refusals.specs.Numbers.{number, number_of}
use Rattle.refusals.specs.declared.Refusal.{Refusal}
use Rattle.model.specs.Model.{Geometry, Label, Volume, format0s, slots, tracks}
use Rattle.rules.specs.Layout.{encode, format1, format3}
use Rattle.rules.specs.Reading.{chop, read, read_geometry}
use Rattle.rules.specs.Slots.{found}
use Rattle.rules.specs.Table.{good_length, table_refusal, taken}
use Rattle.rules.specs.Predicates.{GoodLabel, Limits, Valid}
use Rattle.rules.specs.Sound.{Sound}
use Rattle.dscb.specs.Records.{slot_bytes}
use Rattle.names.specs.Find.{Answer, find_slot, in_slot, not_found}
use Rattle.dscb.specs.Forms.{geometry_of}
use Rattle.check_table.specs.Check.{Shown, TellsVolume}

-- ---- what refuses a call before its own rules do

-- the first of two refusals, where 0 is none
abbrev pub first_refusal : ℕ → ℕ → ℕ
first_refusal zero n = n
first_refusal (suc k) n = suc k

-- of names, which obey the rule or not
abbrev pub name_refusal : Bool → ℕ
name_refusal good = cond good 0 4

-- lengths, the table, names; `ok`: the other lent lengths are right, `good`: the names obey the rule, true for a call without names
abbrev pub open_number : List ℕ → Bool → Bool → ℕ
open_number t ok good = first_refusal (cond (good_length t && ok) (table_refusal t) 2) (name_refusal good)

-- ---- what the functions tell

-- nothing refuses it so far, and o tells of the volume
pub record OpenedAs (t : List ℕ) (ok good : Bool) (o : Verdict) : Type 0 where
  pub none : open_number t ok good ≡ 0
  pub tells : TellsVolume (read t) (geometry_of o.geometry) o.format0s o.highest

pub record Opened (t : List ℕ) (ok good : Bool) (r : Result Verdict Refusal) : Type 0 where
  pub refused : (e : Refusal) → r ≡ Err e → number e ≡ open_number t ok good
  pub opened : (o : Verdict) → r ≡ Ok o → OpenedAs t ok good o

-- the maps m of free tracks and s of free slots show what the volume holds, where nothing refuses the call
pub record Mapped (t m m' s s' : List ℕ) (refusal : ℕ) : Type 0 where
  pub long_map : length m' ≡ length m
  pub long_slots : length s' ≡ length s
  pub shown : refusal ≡ 0 → Shown (read t) m' s'

-- ---- what a call knows then

-- the table t is taken, as the volume v
pub record Ready (t : List ℕ) (v : Volume) : Type 0 where
  pub valid : Valid v
  pub bytes : t ≡ encode v
  pub sound : Sound (chop (slots v.geometry) t) v
  pub limits : Limits v.geometry
  pub long : length t ≡ 140 * slots v.geometry
  pub slot0 : read_geometry (slot_bytes t 0) ≡ v.geometry

-- NOTHING HAS REFUSED the call: table t is taken, the opening's numbers are those of the volume, lengths and names are right
pub record Known (t : List ℕ) (ok good : Bool) (o : Verdict) : Type 0 where
  pub is_taken : T (taken t)
  pub ready : Ready t (read t)
  pub geometry_is : geometry_of o.geometry ≡ (read t).geometry
  pub limits : Limits (geometry_of o.geometry)
  pub long : length t ≡ 140 * slots (geometry_of o.geometry)
  pub count_is : o.format0s ≡ length (format0s (read t))
  pub count_most : o.format0s ≤ slots (geometry_of o.geometry)
  pub lengths_good : ok ≡ true
  pub names_good : good ≡ true

-- and the maps of a call that writes show what the volume of geometry g holds
pub record KnownMaps (t m s : List ℕ) (g : Geometry) : Type 0 where
  pub shown : Shown (read t) m s
  pub map_fits : tracks g ≤ 64 * length m
  pub long_slots : length s ≡ 8

-- ---- a data set that is found

-- its label l, in the table t of geometry g
pub record LabelIn (t : List ℕ) (g : Geometry) (n : List ℕ) (l : Label) : Type 0 where
  pub good : GoodLabel g l
  pub name : l.name ≡ n
  pub inside : l.slot < slots g
  pub inside3 : l.slot3 < slots g
  pub one : slot_bytes t l.slot ≡ format1 g l
  pub three : 1 ≤ l.slot3 → slot_bytes t l.slot3 ≡ format3 g l

-- the data set found in slot k, with its records in the table t of the volume v
pub record FoundAt (t : List ℕ) (v : Volume) (name : List ℕ) (k : ℕ) : Type 0 where
  pub label : Label
  pub same : found v name ≡ some label
  pub slot : label.slot ≡ k
  pub records : LabelIn t v.geometry name label

-- "A lookup answers with a slot or with nothing": the slot of the data set that the rules find
abbrev pub found_slot : Option Label → Answer
found_slot none = not_found
found_slot (some l) = in_slot l.slot

-- ---- a call on one data set

-- The table was opened and the name looked up: refused where it could not be opened, or with 5 where no data set has the name; or the
-- data set is in the slot that is told.
pub record OpenedSet (t : List ℕ) (ok good : Bool) (name m m' s s' : List ℕ) (r : Result SetOpening Refusal) : Type 0 where
  pub opening : Result Verdict Refusal
  pub opened : Opened t ok good opening
  pub mapped : Mapped t m m' s s' (number_of opening)
  pub early : (e : Refusal) → opening ≡ Err e → r ≡ Err e
  pub absent : (o : Verdict) → opening ≡ Ok o → (e : Refusal) → r ≡ Err e → (number e ≡ 5) × (not_found ≡ find_slot t name (slots (geometry_of o.geometry)))
  pub there : (x : SetOpening) → r ≡ Ok x → (o : Verdict) × (opening ≡ Ok o) × (x.geometry ≡ o.geometry) × (in_slot x.slot ≡ find_slot t name (slots (geometry_of o.geometry)))

-- NOTHING HAS REFUSED the call: the data set of this name is in the slot that is told, in a table of the geometry that is told
pub record KnownAt (t name m s : List ℕ) (r : SetOpening) : Type 0 where
  pub is_taken : T (taken t)
  pub ready : Ready t (read t)
  pub geometry_is : geometry_of r.geometry ≡ (read t).geometry
  pub limits : Limits (geometry_of r.geometry)
  pub long : length t ≡ 140 * slots (geometry_of r.geometry)
  pub maps : KnownMaps t m s (geometry_of r.geometry)
  pub it : FoundAt t (read t) name r.slot
  pub inside : r.slot < slots (geometry_of r.geometry)
