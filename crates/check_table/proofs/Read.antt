-- The volume that is read from a table, slot by slot: its labels, their names, the highest. Assumes nothing.
use mathlib.Core.Path.{◌≡◌, refl, sym, ap, ap₂, ◌∙◌, subst}
use mathlib.Core.Bool.{Bool, true, false, cond}
use mathlib.Core.List.{List, [], ◌∷◌, ◌++◌}
use Prim.Native.Nat.{ℕ, zero, suc, ◌+◌, ◌*◌, ◌/◌, ◌≤◌, ◌<◌, max}
use native.Mathlib.Nat.{add-zero, zero-add}
use native.Mathlib.Numerals.{add-one}
use native.Mathlib.Omega.{arith}
use lib.ListN.{drop, get_or, length, length-drop, length-take}
use Rattle.model.specs.Basics.{flat, keep_if, up_from}
use Rattle.model.specs.Model.{Geometry, Label, slots}
use Rattle.model.proofs.Lists.{by}
use Rattle.model.specs.Predicates.{All}
use Rattle.rules.specs.Layout.{highest}
use Rattle.rules.specs.Reading.{chop, read, read_geometry, read_label, read_labels, read_records, record_at}
use Rattle.rules.specs.Predicates.{Differ}
use Rattle.rules.proofs.Meaning.{records_of}
use Rattle.dscb.specs.Records.{slot_bytes}
use Rattle.dscb.proofs.Records.{chop_slot, length_chop}
use Rattle.names.specs.Find.{distinct, is_label}
use Rattle.names.proofs.Meaning.{Apart, differ→, distinct→, entered→differ, →distinct}
use Rattle.check_label.specs.Marks.{label_at}
use Rattle.check_table.specs.Labels.{at_slot, labels_below}
use Rattle.check_table.proofs.Scan.{below_next}
use Rattle.check_chain.specs.Chain.{chain_from}
use Rattle.check_table.specs.Spare.{highest_slot}
use Rattle.check_table.specs.Check.{volume_at}

-- ---- the labels

keep_front : {A : Type 0} (b : Bool) (x : A) (xs : List A) → keep_if b x xs ≡ keep_if b x [] ++ xs
keep_front true x xs = refl
keep_front false x xs = refl

module _ (g : Geometry) (t : List ℕ) where
  abbrev rs : List (List ℕ)
  rs = chop (slots g) t

  labels_from : (more : List (List ℕ)) (k : ℕ) → ((i : ℕ) → i < length more → get_or more i [] ≡ slot_bytes t (k + i)) → read_labels g rs k more ≡ flat (at_slot g t) (up_from k (length more))
  labels_from [] k h = refl
  labels_from (r ∷ more) k h =
      let e : r ≡ slot_bytes t k = h 0 (omega arith) ∙ ap (slot_bytes t) (add-zero k) in
      let i = labels_from more (suc k) (λ i u. h (suc i) (omega arith) ∙ ap (slot_bytes t) (let q : k + suc i ≡ suc k + i = omega arith in q)) in
      ap₂ (λ (r : List ℕ) (xs : List Label). keep_if (is_label r) (read_label g rs k r) xs) e i
      ∙ keep_front (is_label (slot_bytes t k)) (label_at g t k) (flat (at_slot g t) (up_from (suc k) (length more)))

  pub labels_are : read_labels g rs 0 rs ≡ labels_below g t (slots g)
  unfolding labels_below
  labels_are =
      let l = length_chop (slots g) t in
      labels_from rs 0 (λ i u. chop_slot (slots g) t i (omega arith) ∙ ap (slot_bytes t) (sym (zero-add i))) ∙ ap (λ (n : ℕ). flat (at_slot g t) (up_from 0 n)) l

  -- ---- their names

  apart_slots : Apart (slot_bytes t) (slots g) → Apart (λ i. get_or rs i []) (length rs)
  apart_slots a j k u w p q =
      let l = length_chop (slots g) t in
      let y : record_at rs j ≡ slot_bytes t j = chop_slot (slots g) t j (omega arith) in
      let z : record_at rs k ≡ slot_bytes t k = chop_slot (slots g) t k (omega arith) in
      rw (y, z) (a j k u (omega arith) (ap is_label (sym y) ∙ p) (ap is_label (sym z) ∙ q))

  slots_apart : Apart (λ i. get_or rs i []) (length rs) → Apart (slot_bytes t) (slots g)
  slots_apart a j k u w p q =
      let l = length_chop (slots g) t in
      let y : slot_bytes t j ≡ record_at rs j = sym (chop_slot (slots g) t j (omega arith)) in
      let z : slot_bytes t k ≡ record_at rs k = sym (chop_slot (slots g) t k w) in
      rw (y, z) (a j k u (omega arith) (ap is_label (sym y) ∙ p) (ap is_label (sym z) ∙ q))

  pub names_differ_lem : distinct t (slots g) ≡ true → Differ (labels_below g t (slots g))
  names_differ_lem e = subst Differ labels_are (entered→differ g rs 0 rs (apart_slots (distinct→ t (slots g) e)))

  pub differ_names : Differ (labels_below g t (slots g)) → distinct t (slots g) ≡ true
  differ_names d = →distinct t (slots g) (slots_apart (differ→ g rs 0 rs (subst Differ (sym labels_are) d)))

  -- ---- the highest

  highest_append : (xs ys : List Label) → highest (xs ++ ys) ≡ max (highest xs) (highest ys)
  highest_append [] ys = omega arith
  highest_append (x ∷ xs) ys = let i = highest_append xs ys in omega arith

  slot_is : (k : ℕ) → (label_at g t k).slot ≡ k
  unfolding read_label
  slot_is k = refl

  highest_at : (k : ℕ) → highest (at_slot g t k) ≡ cond (is_label (slot_bytes t k)) k 0
  highest_at k = by (is_label (slot_bytes t k)) (λ e. rw e (let q = slot_is k in omega arith)) (λ e. rw e)

  up_to : (k : ℕ) → highest_slot t k ≤ k
  unfolding highest_slot
  up_to zero = omega arith
  up_to (suc k) = by (is_label (slot_bytes t k)) (λ e. rw e (omega arith)) (λ e. rw e (let i = up_to k in omega arith))

  highest_none : highest (labels_below g t 0) ≡ 0
  unfolding labels_below
  highest_none = refl

  pub highest_is_lem : (k : ℕ) → highest (labels_below g t k) ≡ highest_slot t k
  unfolding highest_slot
  highest_is_lem zero = highest_none
  highest_is_lem (suc k) =
      let i = highest_is_lem k in
      let l = up_to k in
      ap (λ (n : ℕ). highest (labels_below g t n)) (sym (add-one k)) ∙ ap highest (below_next g t k) ∙ highest_append (labels_below g t k) (at_slot g t k)
      ∙ ap₂ max i (highest_at k)
      ∙ by (is_label (slot_bytes t k)) (λ e. rw e (omega arith)) (λ e. rw e (omega arith))

-- ---- the volume

pub all_long : (n : ℕ) (t : List ℕ) → length t ≡ 140 * n → All (λ r. length r ≡ 140) (chop n t)
all_long zero t e = tt
all_long (suc n) t e = (length-take 140 t ∙ omega arith, all_long n (drop 140 t) (length-drop 140 t ∙ omega arith))

module _ (g : Geometry) (t : List ℕ) (len : length t ≡ 140 * slots g) where
  pub records_are : records_of t ≡ chop (slots g) t
  records_are = ap (λ (n : ℕ). chop n t) (let q : length t / 140 ≡ slots g = omega arith in q)

  whole_read : read t ≡ read_records (records_of t)
  unfolding read
  whole_read = refl

  records_read : read_geometry (record_at (chop (slots g) t) 0) ≡ g → read_records (chop (slots g) t) ≡ volume_at g t
  unfolding read_records chain_from
  records_read q = rw (q, labels_are g t)

  pub volume_is : 1 ≤ slots g → g ≡ read_geometry (slot_bytes t 0) → read t ≡ volume_at g t
  volume_is pos e = whole_read ∙ ap read_records records_are ∙ records_read (ap read_geometry (chop_slot (slots g) t 0 pos) ∙ sym e)
