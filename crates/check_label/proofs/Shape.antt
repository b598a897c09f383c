-- The tests of a label in two parts: its shape, and the extents in use. Assumes nothing.
use mathlib.Core.Path.{◌≡◌, refl, sym, ap, ap₂, ◌∙◌, subst}
use mathlib.Core.Bool.{Bool, true, false, ◌&&◌}
use mathlib.Core.List.{List}
use Prim.Native.Nat.{ℕ, zero, suc, ◌+◌, ◌-◌, ◌≤◌, ◌<◌}
use native.Mathlib.Nat.{zero-add, add-zero}
use native.Mathlib.Omega.{arith}
use borrow.Author.Tests.{le-ltb, leb-true}
use lib.Dec.{leb}
use lib.ListN.{length, get_or}
use Rattle.model.specs.Basics.{part, within}
use Rattle.model.specs.Model.{Geometry, slots, tracks}
use Rattle.model.proofs.Lists.{and_l, and_r, by, is_true, true_is}
use Rattle.rules.specs.Layout.{extent_part}
use Rattle.rules.specs.Predicates.{Limits}
use Rattle.dscb.specs.Records.{slot_bytes}
use Rattle.rows.specs.Words.{all_are}
use Rattle.rows.proofs.Rows.{and_assoc}
use Rattle.dscb.proofs.Tens.{in_format1}
use Rattle.dscb.specs.Forms.{extent_ok, one_ok, three_ok}
use Rattle.dscb.proofs.Linked.{linked_below}
use Rattle.std.specs.Prelude.{None, Some}
use Rattle.std.specs.Bool.{then_some}
use Rattle.check_label.specs.Label.{extents_ok, few_ok, few_shape, form_of, named_third, shape_of, third_of, third_shape, unused_ok, used_ok}
use Rattle.check_label.proofs.Laws.{if_some}

module _ (h t : ℕ) (f1 f3 : List ℕ) (n : ℕ) where
  abbrev X : ℕ → ℕ → Bool
  X e k = extents_ok h t f1 f3 n e k

  split : (e k l : ℕ) → X e (k + l) ≡ (X e k && X (e + k) l)
  unfolding extents_ok
  split e zero l = ap₂ (λ (a b : ℕ). X a b) (sym (add-zero e)) (zero-add l)
  split e (suc k) l =
      let q : suc k + l ≡ suc (k + l) = omega arith in
      let p : suc e + k ≡ e + suc k = omega arith in
      ap (X e) q
      ∙ ap (λ (b : Bool). extent_ok h t n e (extent_part f1 f3 e) && b) (split (suc e) k l ∙ ap (λ (a : ℕ). X (suc e) k && X a l) p)
      ∙ sym (and_assoc (extent_ok h t n e (extent_part f1 f3 e)) (X (suc e) k) (X (e + suc k) l))

  zeros_are : (e k : ℕ) → n ≤ e → X e k ≡ unused_ok f1 f3 e k
  unfolding extents_ok extent_ok unused_ok
  zeros_are e zero u = refl
  zeros_are e (suc k) u = rw (le-ltb e n u) (ap (λ (b : Bool). all_are 0 (extent_part f1 f3 e) && b) (zeros_are (suc e) k (omega arith)))

  parts_are : (m : ℕ) → n ≤ m → X 0 m ≡ (X 0 n && unused_ok f1 f3 n (m - n))
  parts_are m u =
      let q : m ≡ n + (m - n) = omega arith in
      ap (X 0) q ∙ split 0 n (m - n) ∙ ap (λ (b : Bool). X 0 n && b) (ap (λ (e : ℕ). X e (m - n)) (zero-add n) ∙ zeros_are n (m - n) (omega arith))

-- the first three extents do not look at the format 3
same_used : (h t : ℕ) (f1 a b : List ℕ) (n e k : ℕ) → length f1 ≡ 140 → length a ≡ 140 → length b ≡ 140 → e + k ≤ 3 → extents_ok h t f1 a n e k ≡ extents_ok h t f1 b n e k
unfolding extents_ok
same_used h t f1 a b n e zero l m o u = refl
same_used h t f1 a b n e (suc k) l m o u =
    ap₂ (λ (x : List ℕ) (y : Bool). extent_ok h t n e x && y) (in_format1 f1 a e l m (omega arith) ∙ sym (in_format1 f1 b e l o (omega arith)))
    (same_used h t f1 a b n (suc e) k l m o (omega arith))

-- ---- the answers, by their tests

if_bad : (a x u : Bool) (p : ℕ) → then_some (a && u) p ≡ None → then_some (a && (x && u)) p ≡ None
if_bad true true u p e = e
if_bad true false u p e = refl
if_bad false x u p e = refl

if_good : (a x u : Bool) (p q : ℕ) → then_some (a && u) p ≡ Some q → then_some (a && (x && u)) p ≡ then_some x q
if_good true true u p q e = e
if_good true false u p q e = refl
if_good false true u p q e = e
if_good false false u p q e = refl

-- ---- a label

pub one_few : (r : List ℕ) → one_ok r ≡ true → get_or r 59 0 ≤ 16
unfolding one_ok
one_few r e =
    let a = and_l (within 1 16 (get_or r 59 0)) _ (true_is e) in
    let b = and_r (leb 1 (get_or r 59 0)) (leb (get_or r 59 0) 16) a in
    leb-true _ _ (is_true b)

module _ (g : Geometry) (limit : Limits g) (t : List ℕ) (long : (j : ℕ) → j < slots g → length (slot_bytes t j) ≡ 140) (k : ℕ) (inside : k < slots g) where
  abbrev f1 : List ℕ
  f1 = slot_bytes t k

  abbrev n : ℕ
  n = get_or f1 59 0

  few_parts : n ≤ 3 → few_ok g.heads (tracks g) f1 n ≡ (all_are 0 (part 135 5 f1) && (used_ok g f1 f1 n && unused_ok f1 f1 n (3 - n)))
  unfolding few_ok
  few_parts u = ap (λ (b : Bool). all_are 0 (part 135 5 f1) && b) (parts_are g.heads (tracks g) f1 f1 n 3 u)

  third_parts : n ≤ 16 → third_of g t f1 n
      ≡ then_some ((leb 1 (named_third g f1) && three_ok (slot_bytes t (named_third g f1))) && (used_ok g f1 (slot_bytes t (named_third g f1)) n && unused_ok f1 (slot_bytes t (named_third g f1)) n (16 - n))) (named_third g f1)
  unfolding third_of
  third_parts u =
      ap (λ (b : Bool). then_some ((leb 1 (named_third g f1) && three_ok (slot_bytes t (named_third g f1))) && b) (named_third g f1))
      (parts_are g.heads (tracks g) f1 (slot_bytes t (named_third g f1)) n 16 u)

  pub shape_bad : shape_of g t k ≡ None → form_of g t k ≡ None
  unfolding shape_of form_of few_shape third_shape
  shape_bad e =
      by (one_ok f1)
      (λ a.
      by (leb n 3)
      (λ b. rw (a, b) (ap (λ (b : Bool). then_some b 0) (few_parts (leb-true _ _ b)) ∙ if_bad (all_are 0 (part 135 5 f1)) (used_ok g f1 f1 n) (unused_ok f1 f1 n (3 - n)) 0 (rw (a, b) at e)))
      (λ b.
      rw (a, b)
      (third_parts (one_few f1 a)
      ∙ if_bad (leb 1 (named_third g f1) && three_ok (slot_bytes t (named_third g f1))) (used_ok g f1 (slot_bytes t (named_third g f1)) n) (unused_ok f1 (slot_bytes t (named_third g f1)) n (16 - n)) (named_third g f1) (rw (a, b) at e))))
      (λ a. rw a)

  pub record Shaped (q : ℕ) : Type 0 where
    pub slot : q < slots g
    pub few : n ≤ 16
    pub form : form_of g t k ≡ then_some (used_ok g f1 (slot_bytes t q) n) q

  pub shape_good : (q : ℕ) → shape_of g t k ≡ Some q → Shaped q
  unfolding shape_of form_of few_shape third_shape
  shape_good q e =
      by (one_ok f1)
      (λ a.
      by (leb n 3)
      (λ b.
      let f = rw (a, b) at e in
      let z : 0 ≡ q = (if_some (all_are 0 (part 135 5 f1) && unused_ok f1 f1 n (3 - n)) 0 q f).1 in
      let w : q < slots g = omega (arith, limit.least) in
      let u = leb-true _ _ b in
      record {
        slot = w;
        few = one_few f1 a;
        form =
            rw (a, b)
            (ap (λ (b : Bool). then_some b 0) (few_parts u)
            ∙ if_good (all_are 0 (part 135 5 f1)) (used_ok g f1 f1 n) (unused_ok f1 f1 n (3 - n)) 0 q f
            ∙ ap (λ (x : Bool). then_some x q) (same_used g.heads (tracks g) f1 f1 (slot_bytes t q) n 0 n (long k inside) (long k inside) (long q w) (omega arith)));
      })
      (λ b.
      let f = rw (a, b) at e in
      let p : ℕ = named_third g f1 in
      let z : p ≡ q = (if_some ((leb 1 p && three_ok (slot_bytes t p)) && unused_ok f1 (slot_bytes t p) n (16 - n)) p q f).1 in
      record {
        slot = subst (λ (i : ℕ). i < slots g) z (linked_below g f1 limit);
        few = one_few f1 a;
        form =
            rw (a, b)
            (third_parts (one_few f1 a)
            ∙ if_good (leb 1 p && three_ok (slot_bytes t p)) (used_ok g f1 (slot_bytes t p) n) (unused_ok f1 (slot_bytes t p) n (16 - n)) p q f
            ∙ ap (λ (i : ℕ). then_some (used_ok g f1 (slot_bytes t i) n) q) z);
      }))
      (λ a. let y : None ≡ Some q = rw a at e in cc)
