-- A data set that is granted pieces: planned, and ready to be written. Assumes nothing.
use Rattle.std.specs.Prelude.{◌≡◌, ℕ, ◌+◌, ◌-◌, ◌≤◌, cond, List, [], ◌∷◌, ◌++◌, map, leb, get_or, length, Option, Some}
use Rattle.std.proofs.Math.Option as maybe
use Rattle.std.proofs.Math.Option.{some}
use Rattle.grant_space.specs.declared.Holder.{Holder}
use Rattle.model.specs.Basics.{bit}
use Rattle.model.specs.Model.{Geometry, Label, Run, Volume, extent, held, runs_of, slots_of, tally, times, tracks, used}
use Rattle.rules.specs.Calls.{longer}
use Rattle.rules.specs.Joining.{touches}
use Rattle.rules.specs.Slots.{asks, settle_with}
use Rattle.rules.specs.Predicates.{Valid}
use Rattle.choose_pieces.specs.Grant.{row}
use Rattle.request.specs.Request.{Good}
use Rattle.set_extents.specs.Change.{InRecords, NoneBelow, SetIn, TookPieces, extents_in}
use Rattle.check_table.specs.Check.{Shown}
use Rattle.open_table.specs.Opening.{Ready}
use Rattle.update.specs.Pending.{Alike}
use Rattle.update.specs.declared.Plan.{Plan}
use Rattle.update.specs.Commit.{Planning}

-- a label with pieces of this type
abbrev pub more : (kind : ℕ) → List Run → Label → Label
more kind ps l = longer (map (extent kind) ps) l

-- how many extents the data set has with its pieces
abbrev pub extents_then : Holder → ℕ
extents_then h = h.extents + h.count - bit h.joins

-- where the first of the pieces begins, as the code holds them
abbrev pub first_start : List (List ℕ) → ℕ
first_start rows = get_or (get_or rows 0 []) 0 0

-- Beside the labels `others` of the volume that table t holds stands `label`, new or found, in the slots of h, with as many
-- extents. It is to have the pieces too, which stand in `rows`; h tells whether the first joins. The maps m and s show what the volume
-- holds without them.
pub record Grants (g : Geometry) (t m s : List ℕ) (h : Holder) (rows : List (List ℕ)) : Type 0 where
  pub volume : Volume
  pub others : List Label
  pub label : Label
  pub pieces : List Run
  pub ready : Ready t volume
  pub geometry_is : volume.geometry ≡ g
  pub shown : Shown volume m s
  pub slot_is : h.slot ≡ label.slot
  pub slot3_is : h.slot3 ≡ label.slot3
  pub extents_are : length label.extents ≡ h.extents
  pub few : length label.extents ≤ 3 → label.slot3 ≡ 0
  pub joins_is : h.joins ≡ touches label.extents (first_start rows)
  pub good : Good volume pieces
  pub rows_are : rows ≡ map row pieces
  pub count_is : length pieces ≡ h.count
  pub held_apart : (k : ℕ) → times k (held g volume.labels) ≡ times k (runs_of label ++ held g others)
  pub used_same : (k : ℕ) → tally k (used (label ∷ others) volume.chain) ≡ tally k (used volume.labels volume.chain)
  pub stays : (k : ℕ) → 1 ≤ k → tally k (slots_of label) ≡ 0 → Alike k volume.labels others
  pub valid : (w : Volume) → settle_with volume others (more h.type_byte pieces label) ≡ some w → Valid w

-- what the volume becomes
abbrev pub grown : {g : Geometry} {t m s : List ℕ} {h : Holder} {rows : List (List ℕ)} → Grants g t m s h rows → maybe.Option Volume
grown {h = h} d = settle_with d.volume d.others (more h.type_byte d.pieces d.label)

-- the pieces have left the map m, which is m' then, and the slots are planned, or too few are free
pub record GrantPlans (g : Geometry) (t m m' s s' c : List ℕ) (h : Holder) (rows : List (List ℕ)) (r : Option Plan) : Type 0 where
  pub lo : ℕ
  pub asked : ℕ
  pub low_in : lo ≤ tracks g
  pub lowest : (ps : List Run) → rows ≡ map row ps → NoneBelow lo ps
  pub took : TookPieces rows m m'
  pub asked_is : asked ≡ asks h.slot + cond (leb (extents_then h) 3) 0 (asks h.slot3)
  pub plan : Planning g t m' s s' c lo asked r

-- a grant that is planned, and f1 and f3 are the records of the label without the pieces
pub record GrantWrites (g : Geometry) (t m' c : List ℕ) (p : Plan) (h : Holder) (rows : List (List ℕ)) (f1 f3 : List ℕ) : Type 0 where
  pub map_before : List ℕ
  pub empty_before : List ℕ
  pub empty_after : List ℕ
  pub grants : Grants g t map_before empty_before h rows
  pub plans : GrantPlans g t map_before m' empty_before empty_after c h rows (Some p)
  pub records : InRecords g grants.label f1 f3
  pub set : SetIn g f1 f3 h.extents
  pub extents : extents_in g f1 f3 h.extents ≡ grants.label.extents
