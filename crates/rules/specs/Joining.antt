-- Document 02, [6]: what is promised of an extend, joined or not. The statements; proofs/Joined, Joining and JoinFits have their
-- proofs. Assumes nothing.
use Rattle.std.specs.Prelude.{◌≡◌, ℕ, suc, ◌+◌, ◌≤◌, Bool, true, false, List, [], ◌∷◌, ◌++◌, eqb, ltb, length}
use Rattle.std.proofs.Math.Option.{some}
use Rattle.model.specs.Basics.{bit, sum_of}
use Rattle.model.specs.Choice.{no_option}
use Rattle.model.specs.Model.{Extent, Label, Run, Volume, overs, run, runs_of}
use Rattle.model.specs.Predicates.{All}
use Rattle.model.specs.Tracks.{tracks_of}
use Rattle.rules.specs.Calls.{Reply, accept, extend, grant, granted, joined, lengthened, rule, secondary_of, track_after}
use Rattle.rules.specs.Full.{RefusedExactly}
use Rattle.rules.specs.Predicates.{Valid}
use Rattle.rules.specs.Slots.{found}

-- ---- the extents es of a set, and pieces

-- whether track s is the one after the set's last one
abbrev pub touches : (es : List Extent) (s : ℕ) → Bool
touches [] s = false
touches (e ∷ []) s = eqb s (track_after e)
touches (e ∷ f ∷ es) s = touches (f ∷ es) s

-- that is the last of its list
abbrev pub LastOfList : Type 0
LastOfList = (es : List Extent) → All (λ e. 1 ≤ e.over.count) es → (ts : List ℕ) (t : ℕ) → tracks_of (overs es) ≡ ts ++ t ∷ []
    → (s : ℕ) → touches es s ≡ eqb s (suc t)

-- where the first piece does not touch, the pieces follow the extents
abbrev pub AsBefore : Type 0
AsBefore = (es : List Extent) (p : Extent) (ps : List Extent) → touches es p.over.start ≡ false → joined es (p ∷ ps) ≡ es ++ p ∷ ps

-- where it does, the last extent e is lengthened, and all others are as they were
abbrev pub LastLengthened : Type 0
LastLengthened = (es : List Extent) (e p : Extent) (ps : List Extent) → p.over.start ≡ track_after e
    → joined (es ++ e ∷ []) (p ∷ ps) ≡ es ++ lengthened e p ∷ ps

-- to type X'81' exactly where both have it
abbrev pub TypeOfBoth : Type 0
TypeOfBoth = (e p : Extent)
    → ((lengthened e p).type_byte ≡ 0x81 → (e.type_byte ≡ 0x81) × (p.type_byte ≡ 0x81))
    × (e.type_byte ≡ 0x81 → p.type_byte ≡ 0x81 → (lengthened e p).type_byte ≡ 0x81)

-- the set's list is as without joining, so that "The ledger appends the pieces as before"
abbrev pub SameTracks : Type 0
SameTracks = (es ps : List Extent) → tracks_of (overs (joined es ps)) ≡ tracks_of (overs es) ++ tracks_of (overs ps)

-- one extent fewer than without joining where the first piece touches, else as many: never more
abbrev pub CountAfterJoining : Type 0
CountAfterJoining = (es : List Extent) (p : Extent) (ps : List Extent)
    → length (joined es (p ∷ ps)) + bit (touches es p.over.start) ≡ length es + length (p ∷ ps)

-- ---- calls

-- what an accepted extend leaves of the set n, which was l: it has the pieces of its secondary amount too, and the reply names them
pub record Extended (v : Volume) (n : List ℕ) (l : Label) (r : Reply) (w : Volume) : Type 0 where
  pub pieces : List Extent
  pub chosen : grant v.geometry v.labels no_option (secondary_of l) ≡ some pieces
  pub reply : r ≡ granted (overs pieces)
  pub label : Label
  pub there : found w n ≡ some label
  pub extents : label.extents ≡ joined l.extents pieces
  pub same_attributes : label.attributes ≡ l.attributes
  pub same_unit : label.unit ≡ l.unit
  pub same_secondary : label.secondary ≡ l.secondary
  pub same_ttr : label.ttr ≡ l.ttr

abbrev pub EachExtends : Type 0
EachExtends = (v : Volume) (n : List ℕ) (l : Label) (r : Reply) (w : Volume)
    → Valid v → found v n ≡ some l → rule v (extend n) ≡ accept r w → Extended v n l r w

-- where the pieces are p and ps, it is refused 10 exactly when the extents would be more than 16 without joining, or than 17 where p
-- touches
abbrev pub TenExactly : Type 0
TenExactly = (v : Volume) (n : List ℕ) (l : Label) (p : Extent) (ps : List Extent)
    → Valid v → found v n ≡ some l → 1 ≤ l.secondary → grant v.geometry v.labels no_option (secondary_of l) ≡ some (p ∷ ps)
    → RefusedExactly (rule v (extend n)) 10 (ltb (16 + bit (touches l.extents p.over.start)) (length l.extents + length (p ∷ ps)))

-- what the request is for: where one piece is granted and touches, the extend is accepted, however many extents the set has and however
-- full the VTOC is
abbrev pub OnlyPieceJoins : Type 0
OnlyPieceJoins = (v : Volume) (n : List ℕ) (l : Label) (p : Extent)
    → Valid v → found v n ≡ some l → 1 ≤ l.secondary → grant v.geometry v.labels no_option (secondary_of l) ≡ some (p ∷ [])
    → touches l.extents p.over.start ≡ true → (w : Volume) × (rule v (extend n) ≡ accept (granted (p.over ∷ [])) w)

-- the set n has one extent, of these tracks
pub record OneExtent (v : Volume) (n : List ℕ) (r : Run) : Type 0 where
  pub label : Label
  pub there : found v n ≡ some label
  pub tracks : runs_of label ≡ r ∷ []

-- extends of the set n, one after the other, lead from v to w; each is granted one piece, the first of them from track t on, the next
-- from the track after that piece on; the list has the numbers of their tracks
abbrev pub ExtendedAfter : (v : Volume) (n : List ℕ) (t : ℕ) → List ℕ → (w : Volume) → Type 0
ExtendedAfter v n t [] w = v ≡ w
ExtendedAfter v n t (c ∷ cs) w =
    (u : Volume) × (rule v (extend n) ≡ accept (granted (run t c ∷ [])) u) × ExtendedAfter u n (t + c) cs w

-- it has one extent still
abbrev pub KeepsOneExtent : Type 0
KeepsOneExtent = (v : Volume) (n : List ℕ) (s c : ℕ) (cs : List ℕ) (w : Volume)
    → Valid v → OneExtent v n (run s c) → ExtendedAfter v n (s + c) cs w → OneExtent w n (run s (c + sum_of (λ k. k) cs))
