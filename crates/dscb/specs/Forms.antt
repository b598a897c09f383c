-- What the tests of whole records answer, as the code goes. Assumes nothing.
use Rattle.std.specs.Prelude.{ℕ, ◌≡◌, Bool, false, cond, ◌&&◌, List, ltb, eqb, get_or, Option, MatchOption}
use Rattle.dscb.specs.declared.device.Geometry.{Geometry as Numbers}
use Rattle.model.specs.Basics.{get3, part, within}
use Rattle.model.specs.Model.{Geometry, slots}
use Rattle.rules.specs.Table.{good_name, good_unit, limits}
use Rattle.dscb.specs.Tests.{good_ten, slot_named}
use Rattle.rows.specs.Words.{all_are}

-- the numbers as the model's geometry
abbrev pub geometry_of : Numbers → Geometry
geometry_of n =
    record { cylinders = n.cylinders; heads = n.heads; records = n.records; vtoc_start = n.vtoc_start; vtoc_tracks = n.vtoc_tracks }

-- The numbers of the geometry x, where it meets the limits; none where it does not. So numbers that 16 bits do not hold need no place
-- of their own.
abbrev pub Gives : Geometry → Option Numbers → Type 0
Gives x r = MatchOption r (limits x ≡ false) (λ n. geometry_of n ≡ x)

-- the slot whose address stands at the end of a format 1 or 5, 0 for none
abbrev pub linked_slot : Geometry → List ℕ → ℕ
linked_slot g r = slot_named g.heads g.records g.vtoc_start (slots g) (part 135 5 r)

-- format 1 but for its id, its extents and its link
unfoldable pub one_ok : List ℕ → Bool
one_ok r = within 1 16 (get_or r 59 0) && (good_unit (get_or r 94 0) (get3 r 95) && good_name (part 0 44 r))

-- format 3 but for its extents
unfoldable pub three_ok : List ℕ → Bool
three_ok r = eqb (get_or r 44 0) 0xF3 && (all_are 0x03 (part 0 4 r) && all_are 0 (part 135 5 r))

-- the ten bytes of extent number e, where n are in use
unfoldable pub extent_ok : ℕ → ℕ → ℕ → ℕ → List ℕ → Bool
extent_ok h t n e x = cond (ltb e n) (good_ten h t e x) (all_are 0 x)
