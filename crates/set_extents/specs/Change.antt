-- The extents of one data set, granted more or cut: what the functions promise. The label and what else is held are the
-- caller's: they are quantified. Assumes nothing.
use Rattle.std.specs.Prelude.{◌≡◌, ℕ, zero, suc, ◌+◌, ◌≤◌, ◌<◌, List, [], ◌∷◌, ◌++◌, map, length, take, get_or}
use Rattle.model.specs.Model.{Extent, Geometry, Label, Run, extent, overs, run, times, total}
use Rattle.model.specs.Predicates.{All}
use Rattle.rules.specs.Calls.{keep}
use Rattle.rules.specs.Reading.{read_extents}
use Rattle.rules.specs.Slots.{with_extents}
use Rattle.rules.specs.Predicates.{GoodExtent, Limits}
use Rattle.bitmap.specs.Map.{Shows, Room}
use Rattle.choose_pieces.specs.Grant.{row}
use Rattle.dscb_write.specs.Labels.{Format1, Format3}

-- no track below lo is of these runs
abbrev pub NoneBelow : ℕ → List Run → Type 0
NoneBelow lo rs = (t : ℕ) → t < lo → times t rs ≡ 0

-- ---- pieces

-- a piece as the code holds it, start and count, has a track and ends below n
abbrev pub PieceIn : ℕ → List ℕ → Type 0
PieceIn n p = (1 ≤ get_or p 1 0) × (get_or p 0 0 + get_or p 1 0 ≤ n)

-- the pieces have left the map, however many tracks it is taken to show
pub record TookPieces (rows : List (List ℕ)) (m m' : List ℕ) : Type 0 where
  pub long : length m' ≡ length m
  pub held : (n : ℕ) (ps : List Run) → rows ≡ map row ps → All (λ p. p.start + p.count ≤ n) ps → Room m n ps
      → (hs : List Run) → Shows m n hs → Shows m' n (ps ++ hs)

-- ---- records

-- the records of the label l; a format 3 that no extent stands in is written too
pub record InRecords (g : Geometry) (l : Label) (r1 r3 : List ℕ) : Type 0 where
  pub one : Format1 g l r1
  pub three : Format3 g l r3

-- a label with more extents of this type
abbrev pub granted : ℕ → List Run → Label → Label
granted kind ps l = with_extents (l.extents ++ map (extent kind) ps) l.ttr l

-- ---- a data set that is cut

-- a format 1 and a record of as many bytes, its format 3 where it has one, with n good extents in them
pub record SetIn (g : Geometry) (f1 f3 : List ℕ) (n : ℕ) : Type 0 where
  pub limits : Limits g
  pub long1 : length f1 ≡ 140
  pub long3 : length f3 ≡ 140
  pub most : n ≤ 16
  pub good : All (GoodExtent g) (read_extents g.heads f1 f3 n)

abbrev pub extents_in : Geometry → List ℕ → List ℕ → ℕ → List Extent
extents_in g f1 f3 n = read_extents g.heads f1 f3 n

-- the extents es have `all` tracks, none of them below track low; n is the volume's number of tracks
pub record Spreads (n : ℕ) (es : List Extent) (all low : ℕ) : Type 0 where
  pub sum : all ≡ total (overs es)
  pub low_in : low ≤ n
  pub lowest : NoneBelow low (overs es)

-- the first tracks of an extent, with their type; 0 of them are none
abbrev pub part_of : (type_byte start count : ℕ) → List Extent
part_of b start zero = []
part_of b start (suc n) = extent b (run start (suc n)) ∷ []

-- the first k tracks of the extents es of a set with this unit are `whole` of them, and `count` tracks from `start` of the next,
-- with type b; all below n
pub record Stays (unit k : ℕ) (es : List Extent) (n whole b start count : ℕ) : Type 0 where
  pub kept : keep unit k es ≡ take whole es ++ part_of b start count
  pub most : whole ≤ length es
  pub next : 1 ≤ count → whole < length es
  pub ends : start + count ≤ n

-- the tracks behind the first k of the extents es are free, whatever the unit, and however many tracks the map is taken to show
pub record GaveTail (k : ℕ) (es : List Extent) (m m' : List ℕ) : Type 0 where
  pub long : length m' ≡ length m
  pub held : (unit n : ℕ) (hs : List Run) → Shows m n (overs es ++ hs) → Shows m' n (overs (keep unit k es) ++ hs)

-- a label with its first extents, and a part of the next
abbrev pub shortened : (whole type_byte start count : ℕ) → Label → Label
shortened whole b start count l = with_extents (take whole l.extents ++ part_of b start count) l.ttr l
