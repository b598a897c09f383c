-- Obtain's 280 bytes, and the call as a whole. Assumes nothing.
use mathlib.Core.Path.{◌≡◌, refl, sym, ap, ap₂, ◌∙◌}
use mathlib.Core.Bool.{Bool, cond, ◌&&◌}
use mathlib.Core.List.{List, ◌++◌, append-nil}
use Prim.Native.Nat.{ℕ, zero, suc, ◌≤◌}
use native.Mathlib.Omega.{arith}
use borrow.Author.Tests.{eq-eqb, ne_eqb}
use lib.Dec.{eqb, eqb→eq}
use lib.ListN.{drop, drop_of_length-le, length, length-append, length-drop}
use lib.Seq.{take_at}
use Rattle.check_table.specs.declared.Verdict.{Verdict}
use Rattle.model.specs.Basics.{zeros}
use Rattle.model.specs.Model.{Geometry, Label, slots}
use Rattle.model.proofs.Lists.{and_r}
use Rattle.rules.specs.Calls.{obtain, obtain_set, rule}
use Rattle.rules.specs.Entries.{lent, perform, result_of}
use Rattle.rules.specs.Layout.{format1, format3}
use Rattle.rules.specs.Reading.{read}
use Rattle.rules.specs.Table.{good_name}
use Rattle.rules.specs.Predicates.{Limits}
use Rattle.dscb.specs.Records.{put_record, slot_bytes}
use Rattle.names.specs.Find.{find_slot, in_slot}
use Rattle.dscb.specs.Forms.{geometry_of, linked_slot}
use Rattle.open_table.specs.Opening.{LabelIn, OpenedAs}
use Rattle.open_table.proofs.Calls.{AsksSet, arguments_long, asks, done, found_at}
use Rattle.open_table.proofs.Laws.{third_is}
use Rattle.open_table.proofs.Numbers.{known}
use Rattle.call_obtain.specs.Third.{or_zeros}

-- ---- the bytes

pub obtain_no_third : (t : List ℕ) (q : ℕ) → q ≡ 0 → zeros 140 ≡ or_zeros t q
unfolding or_zeros
obtain_no_third t q e = rw (eq-eqb q 0 e)

pub obtain_third : (t : List ℕ) (q : ℕ) → (q ≡ 0 → ⊥) → slot_bytes t q ≡ or_zeros t q
unfolding or_zeros
obtain_third t q e = rw (ne_eqb q 0 e)

-- two records fill 280 bytes
pub two_records : (o a b : List ℕ) → length o ≡ 280 → length a ≡ 140 → length b ≡ 140 → put_record (put_record o 0 a) 1 b ≡ a ++ b
unfolding put_record
two_records o a b l la lb =
    let rest = drop 140 o in
    let n : length (a ++ rest) ≡ 280 = length-append a rest ∙ omega (arith, length-drop 140 o) in
    ap₂ (λ (x y : List ℕ). x ++ (b ++ y)) (take_at a rest 140 la) (drop_of_length-le (a ++ rest) {i = 280} (omega arith)) ∙ ap (λ (x : List ℕ). a ++ x) (append-nil b)

-- as they are copied: the format 1 in slot k, and what slot q holds, which it names
pub two_filled : (g : Geometry) (t : List ℕ) (k : ℕ) (o rec o₁ a b : List ℕ) (q : ℕ) → length o ≡ 280 → length a ≡ 140 → length b ≡ 140 → rec ≡ slot_bytes t k → a ≡ rec → q ≡ linked_slot g rec
    → b ≡ or_zeros t q → o₁ ≡ put_record o 0 a → put_record o₁ 1 b ≡ slot_bytes t k ++ or_zeros t (linked_slot g (slot_bytes t k))
two_filled g t k o rec o₁ a b q lo la lb er ea eq eb eo =
    ap (λ (x : List ℕ). put_record x 1 b) eo
    ∙ two_records o a b lo la lb
    ∙ ap₂ (λ (x y : List ℕ). x ++ y) (ea ∙ er) (eb ∙ ap (or_zeros t) (eq ∙ ap (λ (x : List ℕ). linked_slot g x) er))

label_bytes : (t : List ℕ) (g : Geometry) (n : List ℕ) (l : Label) → Limits g → LabelIn t g n l
    → slot_bytes t l.slot ++ or_zeros t (linked_slot g (slot_bytes t l.slot)) ≡ format1 g l ++ cond (eqb l.slot3 0) (zeros 140) (format3 g l)
unfolding or_zeros
label_bytes t g n l lim x =
    ap₂ (λ (a b : List ℕ). a ++ b) x.one (ap (λ (q : ℕ). cond (eqb q 0) (zeros 140) (slot_bytes t q)) (third_is t g n l lim x) ∙ go l.slot3 x.three)
  where
    go : (q : ℕ) → (1 ≤ q → slot_bytes t q ≡ format3 g l) → cond (eqb q 0) (zeros 140) (slot_bytes t q) ≡ cond (eqb q 0) (zeros 140) (format3 g l)
    go zero h = refl
    go (suc q) h = rw (ne_eqb (suc q) 0 (λ e. absurd (omega arith))) (h (omega arith))

-- ---- the call

module _ (t name l a : List ℕ) (ok : Bool) (long : ok ≡ (eqb (length a) 24 && (eqb (length name) 44 && eqb (length l) 280))) where
  pub obtains : AsksSet (lent t a l) (obtain name) ok (good_name name) name obtain_set
  unfolding rule
  obtains = record { lengths = long; rules = λ v. refl }

  module _ {o : Verdict} (x : OpenedAs t ok (good_name name) o) where
    pub labels_long : length l ≡ 280
    labels_long = eqb→eq (length l) 280 (and_r (eqb (length name) 44) _ (arguments_long (asks obtains) x))

    pub obtained : (k : ℕ) → in_slot k ≡ find_slot t name (slots (geometry_of o.geometry)) → (l' a' : List ℕ)
        → l' ≡ slot_bytes t k ++ or_zeros t (linked_slot (geometry_of o.geometry) (slot_bytes t k)) → a' ≡ zeros 24
        → result_of 0 (lent t a' l') ≡ perform (lent t a l) (obtain name)
    obtained k e l' a' el ea =
        let w = known x in
        let f = found_at obtains x k e in
        let m = f.label in
        let q : l' ≡ format1 (read t).geometry m ++ cond (eqb m.slot3 0) (zeros 140) (format3 (read t).geometry m)
        = el ∙ ap₂ (λ (i : ℕ) (u : Geometry). slot_bytes t i ++ or_zeros t (linked_slot u (slot_bytes t i))) (sym f.slot) w.geometry_is ∙ label_bytes t (read t).geometry name m w.ready.limits f.records in
        done obtains x f 0 (lent t a' l') (λ i. result_of 0 (lent (w.ready.bytes i) (ea i) (q i)))
