-- A request as the code holds it, and document 01's numbers and values for each kind of amount. Assumes nothing.
use Rattle.std.specs.Prelude.{ℕ, ◌+◌, ◌≤◌, Bool, cond, ◌&&◌, List, [], ◌∷◌, ◌++◌, eqb, leb, length}
use Rattle.std.proofs.Math.Option.{Option, none, some}
use Rattle.model.specs.Basics.{all, map_option, up_from}
use Rattle.model.specs.Choice.{SpaceOption}
use Rattle.model.specs.Model.{Geometry, Label, Run, overs, run, Volume, held, total, tracks}
use Rattle.rules.specs.Calls.{Amount, absolute, grant, in_cylinders, in_tracks}
use Rattle.bitmap.specs.Map.{is_free}
use Rattle.request.specs.declared.Amount.{Amount as Asked}
use Rattle.request.specs.declared.Amount.TheVariants.{Tracks, Cylinders, Absolute}
use Rattle.model.specs.Predicates.{All, Once}

-- "A request holds its amount in one of three kinds": the rules' amount. Its number, "0 tracks, 1 cylinders, 2 absolute", is the
-- rules' too (`amount_of`), and so is its unit byte (`unit_of`)
abbrev pub to_amount : Asked → Amount
to_amount (Tracks n) = in_tracks n
to_amount (Cylinders n) = in_cylinders n
to_amount (Absolute s n) = absolute s n

-- the numbers of a kind and of an option for it: neither is unknown, and an absolute request has no option
abbrev pub is_known : (kind option : ℕ) → Bool
is_known kind option = leb kind 2 && leb option (cond (eqb kind 2) 0 3)

-- "Cylinder pieces have type X'81', others X'01'"
abbrev pub type_of : Amount → ℕ
type_of (in_tracks n) = 0x01
type_of (in_cylinders n) = 0x81
type_of (absolute s n) = 0x01

-- the pieces that an amount is granted by an option, or 9
unfoldable pub pieces_of : Geometry → List Label → SpaceOption → Amount → Option (List Run)
pieces_of g ls o a = map_option overs (grant g ls o a)

-- "Absolute: exactly those tracks", off the map: one piece, or none where one of the tracks is not free
unfoldable pub exact_runs : List ℕ → ℕ → ℕ → Option (List Run)
exact_runs m s n = cond (all (is_free m) (up_from s n)) (some (run s n ∷ [])) none

-- pieces that the volume has room for: what is needed to take them out of the map, and to give them to a data set
pub record Good (v : Volume) (ps : List Run) : Type 0 where
  pub full : All (λ p. 1 ≤ p.count) ps
  pub below : All (λ p. p.start + p.count ≤ tracks v.geometry) ps
  pub least : 1 ≤ length ps
  pub most : length ps ≤ 5
  pub sum : total ps ≤ tracks v.geometry
  pub once : Once (tracks v.geometry) (ps ++ held v.geometry v.labels)
