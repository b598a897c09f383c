-- How the test of extents goes on from one to the next. Assumes nothing.
use mathlib.Core.Path.{◌≡◌, ◌∙◌, sym, subst, refl, ap, ap₂}
use mathlib.Core.Bool.{true, false, ◌&&◌, Bool}
use mathlib.Core.List.{List, ◌++◌}
use Prim.Native.Nat.{ℕ, suc, ◌+◌, ◌-◌, ◌*◌, ◌≤◌, ◌<◌, zero}
use native.Mathlib.Nat.{add-zero, zero-add}
use native.Mathlib.Omega.{arith}
use native.Mathlib.Numerals.{add-one}
use borrow.Author.Tests.{lt-leb, le-leb}
use lib.Dec.{T}
use lib.ListN.{get_or, take, drop, length, length-drop, take-append-drop}
use lib.Seq.{drop-drop, take-add, take_all}
use Rattle.model.specs.Basics.{part}
use Rattle.model.specs.Model.{Geometry}
use Rattle.rules.specs.Layout.{extent_part}
use Rattle.dscb.specs.Records.{slot_bytes}
use Rattle.rows.specs.Words.{all_are}
use Rattle.rows.proofs.Rows.{and_assoc, and_true, are_append, from_place}
use Rattle.dscb.proofs.Tens.{in_format1, in_format3, in_rest3}
use Rattle.dscb.specs.Forms.{extent_ok, one_ok, three_ok}
use Rattle.std.specs.Prelude.{None, Some}
use Rattle.std.specs.Bool.{then_some}
use Rattle.check_label.specs.Label.{extents_ok, few_shape, named_third, shape_of, third_shape, unused_ok}

module _ (h t : ℕ) (f1 f3 : List ℕ) (n e m : ℕ) (u : e < m) where
  step : extents_ok h t f1 f3 n e (m - e) ≡ (extent_ok h t n e (extent_part f1 f3 e) && extents_ok h t f1 f3 n (e + 1) (m - (e + 1)))
  unfolding extents_ok
  step = let q : m - e ≡ suc (m - suc e) = omega arith in rw (q, add-one)

  pub good_next : extent_ok h t n e (extent_part f1 f3 e) ≡ true → extents_ok h t f1 f3 n e (m - e) ≡ extents_ok h t f1 f3 n (e + 1) (m - (e + 1))
  good_next p = rw (step, p)

  pub bad_here : extent_ok h t n e (extent_part f1 f3 e) ≡ false → extents_ok h t f1 f3 n e (m - e) ≡ false
  bad_here p = rw (step, p)

pub extents_end : (h t : ℕ) (f1 f3 : List ℕ) (n e m : ℕ) → m ≤ e → extents_ok h t f1 f3 n e (m - e) ≡ true
unfolding extents_ok
extents_end h t f1 f3 n e m u = let q : m - e ≡ 0 = omega arith in rw q

-- ---- extents that are not in use, by rows of zeros

-- k extents from number e on that lie one behind the other, from place `at` of r on
abbrev Lie : List ℕ → List ℕ → List ℕ → ℕ → ℕ → ℕ → Type 0
Lie f1 f3 r k e at = (j : ℕ) → j < k → extent_part f1 f3 (e + j) ≡ part (at + 10 * j) 10 r

-- they are one row; m more follow
row : (f1 f3 r : List ℕ) (k e at m : ℕ) → Lie f1 f3 r k e at → (all_are 0 (part at (10 * k) r) && unused_ok f1 f3 (e + k) m) ≡ unused_ok f1 f3 e (k + m)
unfolding unused_ok all_are
row f1 f3 r zero e at m lie = rw (add-zero e, zero-add m)
row f1 f3 r (suc k) e at m lie =
    let long : 10 * suc k ≡ 10 + 10 * k = omega arith in
    let next : e + suc k ≡ suc e + k = omega arith in
    let count : suc k + m ≡ suc (k + m) = omega arith in
    let first : part at 10 r ≡ extent_part f1 f3 e = sym (rw (add-zero e, add-zero at) at (lie 0 (omega arith))) in
    let others : Lie f1 f3 r k (suc e) (at + 10) =
    λ j u.
    let a : suc e + j ≡ e + suc j = omega arith in
    let b : at + 10 + 10 * j ≡ at + 10 * suc j = omega arith in
    rw (a, b) (lie (suc j) (omega arith)) in
    rw (long, next, count, take-add 10 (10 * k) (drop at r), drop-drop 10 at r, are_append 0 (part at 10 r) (part (at + 10) (10 * k) r), and_assoc, first)
    (ap (λ (b : Bool). all_are 0 (extent_part f1 f3 e) && b) (row f1 f3 r k (suc e) (at + 10) m others))

module _ (f1 f3 : List ℕ) (l1 : length f1 ≡ 140) (l3 : length f3 ≡ 140) where
  -- all behind the id of the format 3
  pub unused_behind : (n : ℕ) → 7 ≤ n → n ≤ 16 → all_are 0 (part (45 + 10 * (n - 7)) (135 - (45 + 10 * (n - 7))) f3) ≡ unused_ok f1 f3 n (16 - n)
  unfolding unused_ok
  unused_behind n u v =
      let long : 135 - (45 + 10 * (n - 7)) ≡ 10 * (16 - n) = omega arith in
      let lie : Lie f1 f3 f3 (16 - n) n (45 + 10 * (n - 7)) =
      λ j h. let place : 45 + 10 * (n - 7) + 10 * j ≡ 45 + 10 * (n + j - 7) = omega arith in rw place (in_rest3 f1 f3 (n + j) l1 l3 (omega arith) (omega arith)) in
      rw long
      (sym (and_true (all_are 0 (part (45 + 10 * (n - 7)) (10 * (16 - n)) f3)))
      ∙ row f1 f3 f3 (16 - n) n (45 + 10 * (n - 7)) 0 lie
      ∙ ap (unused_ok f1 f3 n) (add-zero (16 - n)))

  -- some before it
  around : (n : ℕ) → 3 ≤ n → n ≤ 7 → (all_are 0 (part (4 + 10 * (n - 3)) (44 - (4 + 10 * (n - 3))) f3) && all_are 0 (part 45 90 f3)) ≡ unused_ok f1 f3 n (16 - n)
  around n u v =
      let long : 44 - (4 + 10 * (n - 3)) ≡ 10 * (7 - n) = omega arith in
      let end : 7 ≡ n + (7 - n) = omega arith in
      let count : 7 - n + 9 ≡ 16 - n = omega arith in
      let lie : Lie f1 f3 f3 (7 - n) n (4 + 10 * (n - 3)) =
      λ j h. let place : 4 + 10 * (n - 3) + 10 * j ≡ 4 + 10 * (n + j - 3) = omega arith in rw place (in_format3 f1 f3 (n + j) l1 l3 (omega arith) (omega arith)) in
      ap₂ (λ (x : ℕ) (b : Bool). all_are 0 (part (4 + 10 * (n - 3)) x f3) && b) long
      (unused_behind 7 (omega arith) (omega arith) ∙ ap (λ (e : ℕ). unused_ok f1 f3 e 9) end)
      ∙ row f1 f3 f3 (7 - n) n (4 + 10 * (n - 3)) 9 lie
      ∙ ap (unused_ok f1 f3 n) count

  pub unused_around : (n : ℕ) (b : Bool) → 3 ≤ n → n ≤ 7 → all_are 0 (part (4 + 10 * (n - 3)) (44 - (4 + 10 * (n - 3))) f3) ≡ b
      → (b && all_are 0 (part 45 90 f3)) ≡ unused_ok f1 f3 n (16 - n)
  unused_around n b u v e = rw (← e) (around n u v)

-- ---- a label: the definitions, by the tests that led to an answer

and_swap : (a b : Bool) → (a && b) ≡ (b && a)
and_swap true true = refl
and_swap true false = refl
and_swap false true = refl
and_swap false false = refl

-- from extent number e on a format 1 has k extents and its link, and that is all
few_rest : (f1 : List ℕ) (k e : ℕ) → length f1 ≡ 140 → e + k ≡ 3 → all_are 0 (drop (105 + 10 * e) f1) ≡ (unused_ok f1 f1 e k && all_are 0 (part 135 5 f1))
unfolding unused_ok
few_rest f1 zero e l q =
    let p : 105 + 10 * e ≡ 135 = omega arith in
    rw (p, take_all 5 (drop 135 f1) (omega (arith, length-drop 135 f1)))
few_rest f1 (suc k) e l q =
    let at : ℕ = 105 + 10 * e in
    let p : at + 10 ≡ 105 + 10 * suc e = omega arith in
    ap (all_are 0) (sym (take-append-drop 10 (drop at f1)) ∙ ap (λ (x : List ℕ). part at 10 f1 ++ x) (drop-drop 10 at f1 ∙ ap (λ (x : ℕ). drop x f1) p))
    ∙ are_append 0 (part at 10 f1) (drop (105 + 10 * suc e) f1)
    ∙ ap₂ ◌&&◌ (ap (all_are 0) (sym (in_format1 f1 f1 e l l (omega arith)))) (few_rest f1 k (suc e) l (omega arith))
    ∙ sym (and_assoc (all_are 0 (extent_part f1 f1 e)) (unused_ok f1 f1 (suc e) k) (all_are 0 (part 135 5 f1)))

-- a format 1 without a format 3, by one row of zeros
pub few_zeros : (f1 : List ℕ) (n : ℕ) (r : Bool) → length f1 ≡ 140 → n ≤ 3
    → r ≡ all_are 0 (take (length f1 - (105 + 10 * n)) (drop (105 + 10 * n) f1)) → r ≡ few_shape f1 n
unfolding few_shape
few_zeros f1 n r l u e =
    e
    ∙ ap (all_are 0) (from_place f1 (105 + 10 * n))
    ∙ few_rest f1 (3 - n) n l (omega arith)
    ∙ and_swap (unused_ok f1 f1 n (3 - n)) (all_are 0 (part 135 5 f1))

-- ---- the slot of a format 3, where a test is passed

pub if_some : (b : Bool) (p q : ℕ) → then_some b p ≡ Some q → T b × (p ≡ q)
if_some true p q e = (tt, cc)
if_some false p q e = cc

module _ (g : Geometry) (t f1 : List ℕ) (n q : ℕ) (e : q ≡ named_third g f1) where
  pub third_none : q ≡ 0 → None ≡ third_shape g t f1 n
  unfolding third_shape
  third_none z = let y : named_third g f1 ≡ 0 = sym e ∙ z in rw y

  pub third_tested : 1 ≤ q → (f3 : List ℕ) → f3 ≡ slot_bytes t q → then_some (three_ok f3 && unused_ok f1 f3 n (16 - n)) q ≡ third_shape g t f1 n
  unfolding third_shape
  third_tested u f3 at = rw (at, ← e, le-leb 1 q u)

module _ (g : Geometry) (t : List ℕ) (k : ℕ) (f1 : List ℕ) (at : f1 ≡ slot_bytes t k) where
  pub form_wrong : one_ok f1 ≡ false → None ≡ shape_of g t k
  unfolding shape_of
  form_wrong b = let y : one_ok (slot_bytes t k) ≡ false = subst (λ (x : List ℕ). one_ok x ≡ false) at b in rw y

  module _ (n : ℕ) (one : one_ok f1 ≡ true) (count : n ≡ get_or f1 59 0) where
    one' : one_ok (slot_bytes t k) ≡ true
    one' = subst (λ (x : List ℕ). one_ok x ≡ true) at one

    count' : get_or (slot_bytes t k) 59 0 ≡ n
    count' = sym (count ∙ ap (λ (x : List ℕ). get_or x 59 0) at)

    pub form_few : n ≤ 3 → then_some (few_shape f1 n) 0 ≡ shape_of g t k
    unfolding shape_of
    form_few u = rw (one', count', le-leb n 3 u, at)

    pub form_many : 3 < n → third_shape g t f1 n ≡ shape_of g t k
    unfolding shape_of
    form_many u = rw (one', count', lt-leb n 3 u, at)
