-- A data set that seeks space, new or found: what is known of it when its pieces are chosen, and what is then decided. Nothing is
-- written so far but the answer. Assumes nothing.
use Rattle.std.specs.Prelude.{◌≡◌, ℕ, ◌≤◌, List, [], ◌∷◌, ◌++◌, leb, length, take}
use Rattle.std.proofs.Math.Option.{some}
use Rattle.std.specs.Prelude.{Result, Ok, Some}
use Rattle.refusals.specs.Numbers.{number_of}
use Rattle.refusals.specs.declared.Refusal.{Refusal}
use Rattle.grant_space.specs.declared.Decision.{Decision}
use Rattle.grant_space.specs.declared.Holder.{Holder}
use Rattle.model.specs.Choice.{SpaceOption}
use Rattle.model.specs.Model.{Extent, Geometry, Label, Volume, held, overs, runs_of, slots_of, tally, times, used}
use Rattle.rules.specs.Calls.{Amount, Outcome, answer, given, grant, granted, joined, longer, on_copy, settled, unless}
use Rattle.rules.specs.Entries.{lent, result_of, written}
use Rattle.rules.specs.Joining.{touches}
use Rattle.rules.specs.Predicates.{Asks, Valid}
use Rattle.rules.specs.Slots.{settle_with}
use Rattle.choose_pieces.specs.Grant.{grant_of}
use Rattle.request.specs.Request.{pieces_of, type_of}
use Rattle.check_table.specs.Check.{Shown}
use Rattle.open_table.specs.Opening.{Ready}
use Rattle.update.specs.Pending.{Alike}
use Rattle.grant_space.specs.Granting.{GrantPlans, Grants, extents_then, first_start, grown}

-- Beside the labels `others` of the volume that table t holds stands `label`, new or found, in the slots of h, with as many
-- extents. The maps m and s show what the volume holds; p are the pieces for the amount by the option, none where there is no space;
-- h tells whether the first joins.
pub record Seeks (g : Geometry) (t m s : List ℕ) (h : Holder) (p : List (List ℕ)) : Type 0 where
  pub volume : Volume
  pub others : List Label
  pub label : Label
  pub option : SpaceOption
  pub amount : Amount
  pub ready : Ready t volume
  pub geometry_is : volume.geometry ≡ g
  pub shown : Shown volume m s
  pub slot_is : h.slot ≡ label.slot
  pub slot3_is : h.slot3 ≡ label.slot3
  pub extents_are : length label.extents ≡ h.extents
  pub few : length label.extents ≤ 3 → label.slot3 ≡ 0
  pub joins_is : h.joins ≡ touches label.extents (first_start p)
  pub asks : Asks volume.geometry amount
  pub type_is : h.type_byte ≡ type_of amount
  pub chosen : p ≡ grant_of (pieces_of volume.geometry volume.labels option amount)
  pub held_apart : (k : ℕ) → times k (held g volume.labels) ≡ times k (runs_of label ++ held g others)
  pub used_same : (k : ℕ) → tally k (used (label ∷ others) volume.chain) ≡ tally k (used volume.labels volume.chain)
  pub stays : (k : ℕ) → 1 ≤ k → tally k (slots_of label) ≡ 0 → Alike k volume.labels others
  pub valid : (es : List Extent) → grant volume.geometry volume.labels option amount ≡ some es → length (joined label.extents es) ≤ 16
      → (w : Volume) → settle_with volume others (longer es label) ≡ some w → Valid w

-- once the pieces are chosen
abbrev pub with_pieces : Volume → List Label → Label → List Extent → Outcome
with_pieces v others l es =
    unless (leb (length (joined l.extents es)) 16) 10 (settled (granted (overs es)) (settle_with v others (longer es l)))

-- what the rules say of it: 9, 10, 11 or a grant
abbrev pub sought : {g : Geometry} {t m s : List ℕ} {h : Holder} {p : List (List ℕ)} → Seeks g t m s h p → Outcome
sought d =
    given (grant d.volume.geometry d.volume.labels d.option d.amount) 9 (with_pieces d.volume d.others d.label)

-- it is granted, and can be written: the pieces have left the map, which is m' then, and the plan has room for them; c and s' are the
-- chain and the map of slots then, a' is the answer
pub record Planned {g : Geometry} {t m s : List ℕ} {h : Holder} {p : List (List ℕ)} (d : Seeks g t m s h p) (m' c a' : List ℕ) (r : Decision) : Type 0 where
  pub s' : List ℕ
  pub slot_same : r.set.slot ≡ h.slot
  pub slot3_same : r.set.slot3 ≡ h.slot3
  pub joins_same : r.set.joins ≡ h.joins
  pub extents_same : r.set.extents ≡ h.extents
  pub least : 1 ≤ r.set.count
  pub few : r.set.count ≤ 5
  pub most : extents_then r.set ≤ 16
  pub grants : Grants g t m s r.set (take r.set.count p)
  pub plans : GrantPlans g t m m' s s' c r.set (take r.set.count p) (Some r.plan)
  pub label_is : grants.label ≡ d.label
  pub outcome : settled (granted grants.pieces) (grown grants) ≡ sought d
  pub answered : a' ≡ answer (granted grants.pieces)

-- a is the answer before: result and answer are those of the rule, on a copy; and where nothing refuses it the change is planned
pub record Decides {g : Geometry} {t m s : List ℕ} {h : Holder} {p : List (List ℕ)} (d : Seeks g t m s h p) (a m' c a' : List ℕ) (r : Result Decision Refusal) : Type 0 where
  pub replied : result_of (number_of r) (lent t a' []) ≡ written (lent t a []) (on_copy d.volume (sought d))
  pub planned : (x : Decision) → r ≡ Ok x → Planned d m' c a' x
