-- A change of one data set: its slots planned, and what is written. Assumes nothing.
use Rattle.std.specs.Prelude.{◌≡◌, ℕ, ◌+◌, ◌≤◌, min, Bool, false, cond, List, ◌∷◌, length, take, Option, MatchOption}
use Rattle.std.proofs.Math.Option as maybe
use Rattle.std.proofs.Math.Option.{some}
use Rattle.update.specs.declared.Plan.{Plan}
use Rattle.update.specs.declared.Home.{Home}
use Rattle.model.specs.Model.{Geometry, Label, Volume, fives_for, held, slots, slots_of, tally, tracks, used}
use Rattle.rules.specs.Layout.{encode}
use Rattle.rules.specs.Slots.{asks, kept3, settle, settle_with}
use Rattle.rules.specs.Table.{few_extents}
use Rattle.rules.specs.Predicates.{Valid}
use Rattle.bitmap.specs.Map.{Shows, free_from}
use Rattle.check_label.specs.Marks.{units}
use Rattle.dscb_write.specs.Labels.{Format1, Format3}
use Rattle.settle_slots.specs.Settling.{Chained, Lacks, Settles}
use Rattle.open_table.specs.Opening.{Ready}
use Rattle.update.specs.Pending.{Alike}
use Rattle.update.specs.Writing.{Reached}

-- The plan p for a change of the volume that table t holds. The map m shows the tracks that are free then, those below lo as
-- before, and s the slots that are free while the chain is as it was; the label asks for `asked` of them. c begins with the chain
-- that is to be, and s' shows the slots that are free then. `blank` is what stood in the buffer before, `read` has the chain of
-- the table.
pub record Plans (g : Geometry) (t m s s' c : List ℕ) (lo asked : ℕ) (p : Plan) : Type 0 where
  pub blank : List ℕ
  pub read : List ℕ
  pub chained : Chained g t blank read p.was
  pub room : slots g ≤ length c
  pub need_is : p.need ≡ fives_for (length (free_from m (tracks g) 0))
  pub reached : Reached t (take (min p.was p.need) c) lo p.from p.at
  pub two : length p.given ≡ 2
  pub settles : Settles g s s' read c (take asked p.given) p.was p.need asked p.left

-- the same where too few slots are free: there is no plan
pub record NoPlan (g : Geometry) (t m s s' c : List ℕ) (asked : ℕ) : Type 0 where
  pub was : ℕ
  pub need : ℕ
  pub blank : List ℕ
  pub read : List ℕ
  pub chained : Chained g t blank read was
  pub room : slots g ≤ length c
  pub need_is : need ≡ fives_for (length (free_from m (tracks g) 0))
  pub lacks : Lacks g s s' read c was need asked

-- a plan, or none
abbrev pub Planning : (g : Geometry) (t m s s' c : List ℕ) (lo asked : ℕ) → Option Plan → Type 0
Planning g t m s s' c lo asked r = MatchOption r (NoPlan g t m s s' c asked) (λ p. Plans g t m s s' c lo asked p)

-- the table t is that of the volume that a change leaves
abbrev pub Leaves : maybe.Option Volume → List ℕ → Type 0
Leaves o t = (w : Volume) × (o ≡ some w) × (t ≡ encode w)

-- ---- put or changed

-- Beside the labels `others` of the volume that table t holds stands `label`, new or changed. It has the slots `slot` and
-- `slot3`, 0 for none; the maps m and s show what the volume holds with it, and m below track lo what it held before.
pub record Draft (g : Geometry) (t m s : List ℕ) (lo slot slot3 : ℕ) (few : Bool) : Type 0 where
  pub volume : Volume
  pub others : List Label
  pub label : Label
  pub ready : Ready t volume
  pub geometry_is : volume.geometry ≡ g
  pub slot_is : slot ≡ label.slot
  pub slot3_is : slot3 ≡ label.slot3
  pub few_is : few ≡ few_extents label
  pub shown_tracks : Shows m (tracks g) (held g (kept3 label ∷ others))
  pub low_in : lo ≤ tracks g
  pub below : Shows m lo (held g volume.labels)
  pub shown_slots : Shows s (slots g) (units (used (kept3 label ∷ others) volume.chain))
  pub stays : (k : ℕ) → 1 ≤ k → tally k (slots_of label) ≡ 0 → Alike k volume.labels others
  pub slot_once : (k : ℕ) → tally k (used (label ∷ others) volume.chain) ≤ 1
  pub slot_in : (k : ℕ) → slots g ≤ k → tally k (used (label ∷ others) volume.chain) ≡ 0
  pub valid : (w : Volume) → settle_with volume others label ≡ some w → Valid w

-- the volume with it
abbrev pub drafted : {g : Geometry} {t m s : List ℕ} {lo slot slot3 : ℕ} {few : Bool} → Draft g t m s lo slot slot3 few → maybe.Option Volume
drafted d = settle_with d.volume d.others d.label

-- a data set at home in h that is ready to be written: it is planned, and f1 and f3 are the records of the label
pub record Puts (g : Geometry) (t m c : List ℕ) (p : Plan) (h : Home) (f1 f3 : List ℕ) : Type 0 where
  pub empty_before : List ℕ
  pub empty_after : List ℕ
  pub lo : ℕ
  pub asked : ℕ
  pub draft : Draft g t m empty_before lo h.slot h.slot3 h.few
  pub asked_is : asked ≡ asks h.slot + cond h.few 0 (asks h.slot3)
  pub plan : Plans g t m empty_before empty_after c lo asked p
  pub first : Format1 g draft.label f1
  pub third : h.few ≡ false → Format3 g draft.label f3

-- ---- taken out

-- The label in the slots `slot` and `slot3`, 0 for none, goes from the volume that table t holds; `others` stay. The maps show
-- what these hold, and m below track lo what the volume held before.
pub record Left (g : Geometry) (t m s : List ℕ) (lo slot slot3 : ℕ) : Type 0 where
  pub volume : Volume
  pub others : List Label
  pub label : Label
  pub ready : Ready t volume
  pub geometry_is : volume.geometry ≡ g
  pub slot_is : slot ≡ label.slot
  pub slot3_is : slot3 ≡ label.slot3
  pub shown_tracks : Shows m (tracks g) (held g others)
  pub low_in : lo ≤ tracks g
  pub below : Shows m lo (held g volume.labels)
  pub shown_slots : Shows s (slots g) (units (used others volume.chain))
  pub stays : (k : ℕ) → 1 ≤ k → tally k (slots_of label) ≡ 0 → Alike k volume.labels others
  pub slot_once : (k : ℕ) → tally k (used (label ∷ others) volume.chain) ≤ 1
  pub slot_in : (k : ℕ) → slots g ≤ k → tally k (used (label ∷ others) volume.chain) ≡ 0
  pub valid : (w : Volume) → settle g volume.chain others 0 (λ ks. others) ≡ some w → Valid w

-- the volume without it
abbrev pub remains : {g : Geometry} {t m s : List ℕ} {lo slot slot3 : ℕ} → Left g t m s lo slot slot3 → maybe.Option Volume
remains {g = g} d = settle g d.volume.chain d.others 0 (λ ks. d.others)

-- a data set that is ready to go: it is planned
pub record Drops (g : Geometry) (t m c : List ℕ) (p : Plan) (slot slot3 : ℕ) : Type 0 where
  pub empty_before : List ℕ
  pub empty_after : List ℕ
  pub lo : ℕ
  pub left : Left g t m empty_before lo slot slot3
  pub plan : Plans g t m empty_before empty_after c lo 0 p
