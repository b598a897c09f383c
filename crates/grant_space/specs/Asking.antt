-- A request that is not refused so far: the table is opened, the name is new, the numbers lie in their ranges. Assumes nothing.
use Rattle.std.specs.Prelude.{◌≡◌, ℕ, ◌*◌, ◌≤◌, false, List, [], T, length}
use Rattle.model.specs.Basics.{any}
use Rattle.model.specs.Choice.{SpaceOption}
use Rattle.model.specs.Model.{Geometry, tracks}
use Rattle.rules.specs.Calls.{Amount, Outcome, Request, allocate_pieces, given, grant, in_range, on_copy, request}
use Rattle.rules.specs.Entries.{lent, result_of, written}
use Rattle.rules.specs.Reading.{read}
use Rattle.rules.specs.Table.{good_name, named, taken}
use Rattle.check_table.specs.Check.{Shown}

-- m and s are the maps of free tracks and of free slots, a is the answer before the call; of the option nothing is asked
pub record Asking (t m s name at a : List ℕ) (g : Geometry) (option : SpaceOption) (amount : Amount) (secondary : ℕ) : Type 0 where
  pub is_taken : T (taken t)
  pub geometry_is : g ≡ (read t).geometry
  pub shown : Shown (read t) m s
  pub map_fits : tracks g ≤ 64 * length m
  pub long_slots : length s ≡ 8
  pub long_answer : length a ≡ 24
  pub long_name : length name ≡ 44
  pub long_attributes : length at ≡ 52
  pub name_good : T (good_name name)
  pub name_new : any (named name) (read t).labels ≡ false
  pub ranges : T (in_range g secondary amount)

-- what is left of a request once its amount is read: the numbers that told it matter no more
abbrev pub asking : (name at : List ℕ) (secondary : ℕ) → Request
asking name at secondary = request name at 0 0 0 secondary 0 []

-- what the rule says of it: the choice of pieces, and the data set with them
abbrev pub choice : (t name at : List ℕ) (option : SpaceOption) (amount : Amount) (secondary : ℕ) → Outcome
choice t name at option amount secondary =
    given (grant (read t).geometry (read t).labels option amount) 9 (allocate_pieces (read t) (asking name at secondary) amount)

-- the result, the table and the answer are those of the rule
abbrev pub Chooses : (t name at a : List ℕ) (option : SpaceOption) (amount : Amount) (secondary r : ℕ) (t' a' : List ℕ) → Type 0
Chooses t name at a option amount secondary r t' a' =
    result_of r (lent t' a' []) ≡ written (lent t a []) (choice t name at option amount secondary)

-- the same on a copy
abbrev pub Foresees : (t name at a : List ℕ) (option : SpaceOption) (amount : Amount) (secondary r : ℕ) (a' : List ℕ) → Type 0
Foresees t name at a option amount secondary r a' =
    result_of r (lent t a' []) ≡ written (lent t a []) (on_copy (read t) (choice t name at option amount secondary))
