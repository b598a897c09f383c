-- The data set that a lookup finds, in its records. Assumes nothing.
use mathlib.Core.Path.{◌≡◌, sym, ap, ◌∙◌, subst}
use mathlib.Core.List.{List}
use mathlib.Core.Logic.{⊎_elim}
use Prim.Native.Nat.{ℕ, ◌≤◌, ◌<◌}
use native.Mathlib.Omega.{arith}
use lib.ListN.{length, get_or}
use Rattle.model.specs.Model.{Geometry, Label, Volume, slots}
use Rattle.rules.specs.Layout.{format1, format3}
use Rattle.rules.specs.Predicates.{GoodLabel}
use Rattle.bitmap.proofs.Bits.{le_or_lt}
use Rattle.dscb.specs.Records.{slot_bytes}
use Rattle.check_label.specs.Label.{named_third}
use Rattle.dscb_write.specs.Labels.{Format3}
use Rattle.dscb_write.proofs.Following.{good_is}
use Rattle.set_extents.specs.Change.{InRecords, SetIn, extents_in}
use Rattle.set_extents.proofs.Laws.{count_is, extents_are_lem, set_in_lem, unit_is_lem}
use Rattle.open_table.specs.Opening.{FoundAt, Ready}
use Rattle.open_table.proofs.Laws.{third_is}
use Rattle.data_set.specs.Held.{SetAt, ThirdIn}

-- ---- the record of a format 3

pub no_third : (t : List ℕ) (q : ℕ) (r : List ℕ) → length r ≡ 140 → q ≡ 0 → ((g : Geometry) (l : Label) → length l.extents ≤ 3 → Format3 g l r) → ThirdIn t q r
no_third t q r n e h = record { long = n; there = λ u. absurd (omega arith); none = λ _. h }

pub some_third : (t : List ℕ) (q : ℕ) (r : List ℕ) → length r ≡ 140 → (q ≡ 0 → ⊥) → r ≡ slot_bytes t q → ThirdIn t q r
some_third t q r n e h = record { long = n; there = λ _. h; none = λ z. absurd (e z) }

pub set_read : (g : Geometry) (t : List ℕ) (k : ℕ) (label one three : List ℕ) (count third : ℕ) → label ≡ slot_bytes t k → one ≡ label → count ≡ get_or one 59 0
    → third ≡ named_third g label → third < slots g → ThirdIn t third three → SetAt g t k one three count third
set_read g t k label one three count third e f c h u x =
    record { first = f ∙ e; many = c; link = h ∙ ap (λ (r : List ℕ). named_third g r) e; inside = u; other = x }

-- ---- the label

-- the label l, in its records
pub record KnownSet (g : Geometry) (l : Label) (one three : List ℕ) (count third : ℕ) : Type 0 where
  pub records : InRecords g l one three
  pub many : count ≡ length l.extents
  pub extents : extents_in g one three count ≡ l.extents
  pub set : SetIn g one three count
  pub slot3 : third ≡ l.slot3

third_record : (g : Geometry) (l : Label) (t three : List ℕ) → GoodLabel g l → (1 ≤ l.slot3 → slot_bytes t l.slot3 ≡ format3 g l) → ThirdIn t l.slot3 three → Format3 g l three
third_record g l t three good there x =
    ⊎_elim
    (λ (few : length l.extents ≤ 3). x.none (good.few few) g l few)
    (λ (many : 3 < length l.extents). x.there (good.many many) ∙ there (good.many many))
    (le_or_lt (length l.extents) 3)

-- the label l, in the table's own records; where it has no format 3, that is the record in slot 0
pub record Stored (g : Geometry) (l : Label) (t : List ℕ) (k count third : ℕ) : Type 0 where
  pub many : count ≡ length l.extents
  pub extents : extents_in g (slot_bytes t k) (slot_bytes t third) count ≡ l.extents
  pub set : SetIn g (slot_bytes t k) (slot_bytes t third) count
  pub unit : get_or (slot_bytes t k) 94 0 ≡ l.unit
  pub slot3 : third ≡ l.slot3

module _ (t : List ℕ) (v : Volume) (h : Ready t v) (name : List ℕ) (k : ℕ) (f : FoundAt t v name k) where
  first_is : slot_bytes t k ≡ format1 v.geometry f.label
  first_is = ap (slot_bytes t) (sym f.slot) ∙ f.records.one

  stored_there : (count third : ℕ) → count ≡ get_or (slot_bytes t k) 59 0 → third ≡ named_third v.geometry (slot_bytes t k) → length (slot_bytes t third) ≡ 140
      → Stored v.geometry f.label t k count third
  stored_there count third c e long =
      let g = v.geometry in
      let l = f.label in
      let y = f.records in
      let q : third ≡ l.slot3 = e ∙ ap (λ (i : ℕ). named_third g (slot_bytes t i)) (sym f.slot) ∙ third_is t g name l h.limits y in
      let w : 1 ≤ l.slot3 → slot_bytes t third ≡ format3 g l = λ u. ap (slot_bytes t) q ∙ y.three u in
      record {
        many = c ∙ count_is g l y.good (slot_bytes t k) (slot_bytes t third) first_is long w;
        extents = ap (λ (n : ℕ). extents_in g (slot_bytes t k) (slot_bytes t third) n) c ∙ extents_are_lem g l y.good (slot_bytes t k) (slot_bytes t third) first_is long w;
        set = subst (SetIn g (slot_bytes t k) (slot_bytes t third)) (sym c) (set_in_lem g l y.good (slot_bytes t k) (slot_bytes t third) first_is long w h.limits);
        unit = unit_is_lem g l y.good (slot_bytes t k) (slot_bytes t third) first_is long w;
        slot3 = q;
      }

  -- with the geometry that the code has
  pub stored : (g : Geometry) → g ≡ v.geometry → (count third : ℕ) → count ≡ get_or (slot_bytes t k) 59 0 → third ≡ named_third g (slot_bytes t k) → length (slot_bytes t third) ≡ 140
      → Stored g f.label t k count third
  stored g e count third = subst (λ (u : Geometry). count ≡ get_or (slot_bytes t k) 59 0 → third ≡ named_third u (slot_bytes t k) → length (slot_bytes t third) ≡ 140 → Stored u f.label t k count third) (sym e) (stored_there count third)

  -- records that were copied from there
  pub copied : (g : Geometry) → g ≡ v.geometry → (third : ℕ) → third ≡ f.label.slot3 → (one three : List ℕ) → one ≡ slot_bytes t k → ThirdIn t third three → InRecords g f.label one three
  copied g e third q one three o x =
      let y = f.records in
      subst (λ (u : Geometry). InRecords u f.label one three) (sym e)
      (record {
        one = good_is v.geometry f.label one y.good (sym (o ∙ first_is));
        three = third_record v.geometry f.label t three y.good y.three (subst (λ (i : ℕ). ThirdIn t i three) q x);
      })

module _ (t : List ℕ) (v : Volume) (h : Ready t v) (name : List ℕ) (k : ℕ) (f : FoundAt t v name k) (one three : List ℕ) (count third : ℕ) where
  known_there : SetAt v.geometry t k one three count third → KnownSet v.geometry f.label one three count third
  known_there x =
      let g = v.geometry in
      let l = f.label in
      let y = f.records in
      let s : slot_bytes t l.slot ≡ slot_bytes t k = ap (slot_bytes t) f.slot in
      let q : third ≡ l.slot3 = x.link ∙ ap (λ (r : List ℕ). named_third g r) (sym s) ∙ third_is t g name l h.limits y in
      let z : ThirdIn t l.slot3 three = subst (λ (i : ℕ). ThirdIn t i three) q x.other in
      let o : one ≡ format1 g l = x.first ∙ sym s ∙ y.one in
      let w = third_record g l t three y.good y.three z in
      record {
        records = record { one = good_is g l one y.good (sym o); three = w };
        many = x.many ∙ count_is g l y.good one three o z.long (λ _. w);
        extents = ap (λ (n : ℕ). extents_in g one three n) x.many ∙ extents_are_lem g l y.good one three o z.long (λ _. w);
        set = subst (SetIn g one three) (sym x.many) (set_in_lem g l y.good one three o z.long (λ _. w) h.limits);
        slot3 = q;
      }

  -- with the geometry that the code has
  pub known : (g : Geometry) → g ≡ v.geometry → SetAt g t k one three count third → KnownSet g f.label one three count third
  known g e = subst (λ (u : Geometry). SetAt u t k one three count third → KnownSet u f.label one three count third) (sym e) known_there
