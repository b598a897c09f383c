-- A data set that is to give tracks back, in the words of the rules. Assumes nothing.
use mathlib.Core.Path.{◌≡◌, refl, sym, ap, ap₂, ◌∙◌, subst}
use mathlib.Core.List.{List}
use Prim.Native.Nat.{ℕ, ◌+◌, ◌/◌, ◌≤◌, ◌<◌}
use native.Mathlib.Omega.{arith}
use lib.ListN.{get_or, length}
use Rattle.model.specs.Model.{Extent, Geometry, Label, Volume, overs, runs_of, slots, total, tracks}
use Rattle.model.specs.Tracks.{tracks_kept, tracks_of}
use Rattle.rules.specs.Calls.{tracks_kept_of}
use Rattle.rules.specs.Table.{unit_in}
use Rattle.model.proofs.Cylinders.{kept_within, tracks_length}
use Rattle.rules.proofs.Labels.{without_sum}
use Rattle.rules.proofs.Valid.{free_balance, held_total}
use Rattle.dscb.specs.Records.{slot_bytes}
use Rattle.check_label.specs.Label.{named_third}
use Rattle.set_extents.specs.Change.{GaveTail, SetIn, Spreads, Stays, extents_in}
use Rattle.data_set.proofs.Stored.{Stored, stored}
use Rattle.free_space.specs.declared.Measured.{Measured}
use Rattle.free_space.specs.Giving.{At, Measures, measured_extents}

-- ---- records of a table, looked at

module _ (g : Geometry) (t : List ℕ) (k q count : ℕ) (f1 f3 : List ℕ) (e1 : f1 ≡ slot_bytes t k) (e3 : f3 ≡ slot_bytes t q) where
  pub set_looked : SetIn g (slot_bytes t k) (slot_bytes t q) count → SetIn g f1 f3 count
  set_looked x = subst (λ (r : List ℕ). SetIn g r f3 count) (sym e1) (subst (λ (r : List ℕ). SetIn g (slot_bytes t k) r count) (sym e3) x)

-- ---- the data set

module _ (g : Geometry) (t m s : List ℕ) (k : ℕ) (d : At g t m s k) where
  abbrev v : Volume
  v = d.volume

  abbrev l : Label
  l = d.it.label

  -- the records that the code looks at
  module _ (f1 f3 : List ℕ) (count third : ℕ) (e1 : f1 ≡ slot_bytes t k) (e3 : f3 ≡ slot_bytes t third) (long : length f3 ≡ 140) (many : count ≡ get_or f1 59 0) (link : third ≡ named_third g f1) where
    stored_at : Stored g l t k count third
    stored_at =
        stored t v d.ready d.name k d.it g d.geometry_is count third (many ∙ ap (λ (r : List ℕ). get_or r 59 0) e1) (link ∙ ap (λ (r : List ℕ). named_third g r) e1)
        (sym (ap length e3) ∙ long)

    pub set_of : SetIn g f1 f3 count
    set_of = set_looked g t k third count f1 f3 e1 e3 stored_at.set

    pub measured : (all low : ℕ) → Spreads (tracks g) (extents_in g f1 f3 count) all low
        → Measures g t k l (record { slot = k; slot3 = third; unit = get_or f1 94 0; count = count; tracks = all; lowest = low })
    measured all low x = record {
      slot = refl;
      unit = ap (λ (r : List ℕ). get_or r 94 0) e1 ∙ stored_at.unit;
      stored = stored_at;
      spread = subst (λ (es : List Extent). Spreads (tracks g) es all low) (ap₂ (λ (a b : List ℕ). extents_in g a b count) e1 e3 ∙ stored_at.extents) x;
    }

  -- ---- bounds

  pub set_small : total (runs_of l) ≤ 65535
  set_small =
      let a = free_balance v d.ready.valid in
      let b = held_total v.geometry v.labels in
      let c = without_sum (λ x. total (runs_of x)) d.name v.labels l d.ready.valid.differ d.it.same in
      let e = d.ready.limits.tracks_most in
      omega arith

  third_small : l.slot3 < slots g
  third_small = let a = ap slots d.geometry_is in let b = d.it.records.inside3 in omega arith

  pub slot3_inside : (x : Measured) → Measures g t k l x → x.slot3 < slots g
  slot3_inside x y = let a = third_small in let b = y.stored.slot3 in omega arith

-- ---- what is known of it, by its label

module _ {g : Geometry} {t : List ℕ} {k : ℕ} {l : Label} {x : Measured} (y : Measures g t k l x) where
  pub slot_inside : k < slots g → x.slot < slots g
  slot_inside u = let e = y.slot in omega arith

  pub tail_is : (keep : ℕ) {m m' : List ℕ} → GaveTail keep (measured_extents g t x) m m' → GaveTail keep l.extents m m'
  tail_is keep {m} {m'} h = subst (λ (es : List Extent). GaveTail keep es m m') y.stored.extents h

  pub stays_is : (keep n whole b start count : ℕ) → Stays x.unit keep (measured_extents g t x) n whole b start count
      → Stays (unit_in l.unit) keep l.extents n whole b start count
  stays_is keep n whole b start count h =
      subst (λ (u : ℕ). Stays u keep l.extents n whole b start count) y.unit (subst (λ (es : List Extent). Stays x.unit keep es n whole b start count) y.stored.extents h)

  -- what `kept_of` asks, and what it gives
  pub all_there : (n : ℕ) → n ≤ x.tracks → n ≤ total (overs (measured_extents g t x))
  all_there n h = let a = y.spread.sum in let b = ap (λ (es : List Extent). total (overs es)) y.stored.extents in omega arith

  pub kept_is : (ttr n : ℕ) → n ≡ tracks_kept g.heads x.unit ttr (tracks_of (overs (measured_extents g t x))) → n ≡ tracks_kept_of g ttr l
  kept_is ttr n h = h ∙ ap₂ (λ (u : ℕ) (es : List Extent). tracks_kept g.heads u ttr (tracks_of (overs es))) y.unit y.stored.extents

  pub kept_inside : 1 ≤ g.heads → (ttr n : ℕ) → ttr / 256 + 1 ≤ x.tracks → n ≡ tracks_kept g.heads x.unit ttr (tracks_of (overs (measured_extents g t x))) → n ≤ x.tracks
  kept_inside pos ttr n fits h =
      let es = measured_extents g t x in
      let a = y.spread.sum in
      let b = ap (λ (es : List Extent). total (overs es)) y.stored.extents in
      let e = tracks_length (overs es) in
      let w = (kept_within g.heads x.unit ttr (tracks_of (overs es)) pos (omega arith)).1 in
      omega arith
