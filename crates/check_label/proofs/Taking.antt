-- Taking runs and slots, one after the other. Assumes nothing.
use mathlib.Core.Path.{◌≡◌, ◌∙◌, sym, subst, ap, refl, ap₂}
use mathlib.Core.Bool.{Bool, true, false}
use mathlib.Core.List.{List, ◌∷◌, ◌++◌, [], map}
use Prim.Native.Nat.{ℕ, ◌+◌, ◌≤◌, zero, suc, ◌-◌, ◌<◌}
use native.Mathlib.Omega.{arith}
use native.Mathlib.Nat.{zero-add, le_refl, add-zero}
use native.Mathlib.Numerals.{add-one}
use Rattle.model.specs.Basics.{bit, get2, sum_of, up_from}
use borrow.Author.Tests.{leb-true, lt-ltb, ltb-true}
use lib.Dec.{eqb, leb, ltb}
use lib.ListN.{get_or, length}
use Rattle.model.specs.Model.{Geometry, Run, covers, one_slot, overs, run, times, tracks}
use Rattle.model.proofs.Lists.{and_l, and_r, by, clash, is_true, sum_append, true_is}
use Rattle.model.specs.Predicates.{Once}
use Rattle.rules.specs.Layout.{extent_part}
use Rattle.rules.specs.Reading.{read_extent, read_extents, track_at}
use Rattle.bitmap.specs.Map.{Shows, Taken}
use Rattle.bitmap.proofs.Held.{shows_hit, shows_same, shows_take}
use Rattle.dscb.specs.Tests.{good_ten}
use Rattle.dscb.specs.Forms.{extent_ok}
use Rattle.check_label.specs.Label.{extents_ok, used_ok}
use Rattle.check_label.specs.Marks.{TookSlots, TookTen, TookTested, units}
use Rattle.check_label.proofs.Laws.{bad_here, extents_end, good_next}

-- ---- one run

module _ (n s c : ℕ) (m m' : List ℕ) (r : Bool) (x : Taken m m' s (s + c) r) where
  pub took_yes : r ≡ true → (hs : List Run) → Shows m n hs → Shows m' n (run s c ∷ hs)
  took_yes e hs h = shows_take m m' n s c hs h (x.were e) (x.made e)

  pub took_no : r ≡ false → s + c ≤ n → (hs : List Run) → Shows m n hs → Once n (run s c ∷ hs) → ⊥
  took_no e u hs h o = shows_hit m n s c hs h u (x.hit e) o

-- ---- extents, in the order of the loop

sum_last : (G : ℕ → ℕ) (a n : ℕ) → sum_of G (up_from a (suc n)) ≡ sum_of G (up_from a n) + G (a + n)
sum_last G a zero = let e = ap G (add-zero a) in omega arith
sum_last G a (suc n) =
    let i = sum_last G (suc a) n in
    let q : suc a + n ≡ a + suc n = omega arith in
    let e = ap G q in
    omega arith

times_up : (h : ℕ) (f1 f3 ks : List ℕ) (t : ℕ) → times t (overs (map (λ e. read_extent h (extent_part f1 f3 e)) ks)) ≡ sum_of (λ e. bit (covers (read_extent h (extent_part f1 f3 e)).over t)) ks
times_up h f1 f3 [] t = refl
times_up h f1 f3 (k ∷ ks) t = let i = times_up h f1 f3 ks t in omega arith

extents_suc : (h : ℕ) (f1 f3 : List ℕ) (e t : ℕ)
    → times t (overs (read_extents h f1 f3 (suc e))) ≡ times t (overs (read_extents h f1 f3 e)) + bit (covers (read_extent h (extent_part f1 f3 e)).over t)
unfolding read_extents
extents_suc h f1 f3 e t =
    let G : ℕ → ℕ = λ i. bit (covers (read_extent h (extent_part f1 f3 i)).over t) in
    times_up h f1 f3 (up_from 0 (suc e)) t ∙ sum_last G 0 e ∙ ap₂ (λ (a b : ℕ). a + b) (sym (times_up h f1 f3 (up_from 0 e) t)) (ap G (zero-add e))

pub extents_next : (h : ℕ) (f1 f3 : List ℕ) (e t : ℕ)
    → times t (overs (read_extents h f1 f3 (e + 1))) ≡ times t (overs (read_extents h f1 f3 e)) + bit (covers (read_extent h (extent_part f1 f3 e)).over t)
extents_next h f1 f3 e t = ap (λ (k : ℕ). times t (overs (read_extents h f1 f3 k))) (add-one e) ∙ extents_suc h f1 f3 e t

pub extents_none : (h : ℕ) (f1 f3 : List ℕ) → read_extents h f1 f3 0 ≡ []
unfolding read_extents
extents_none h f1 f3 = refl

-- fewer extents hold no more
fewer_by : (h : ℕ) (f1 f3 : List ℕ) (e d t : ℕ) → times t (overs (read_extents h f1 f3 e)) ≤ times t (overs (read_extents h f1 f3 (e + d)))
fewer_by h f1 f3 e zero t = let q : e + 0 ≡ e = omega arith in rw q (le_refl _)
fewer_by h f1 f3 e (suc d) t =
    let i = fewer_by h f1 f3 e d t in
    let a = extents_next h f1 f3 (e + d) t in
    let q : e + suc d ≡ e + d + 1 = omega arith in
    rw q (omega arith)

pub held_fewer : (h : ℕ) (f1 f3 : List ℕ) (e n t : ℕ) → e ≤ n → times t (overs (read_extents h f1 f3 e)) ≤ times t (overs (read_extents h f1 f3 n))
held_fewer h f1 f3 e n t u = let q : n ≡ e + (n - e) = omega arith in subst (λ (x : ℕ). times t (overs (read_extents h f1 f3 e)) ≤ times t (overs (read_extents h f1 f3 x))) (sym q) (fewer_by h f1 f3 e (n - e) t)

-- what is held, with one more run
module _ (n : ℕ) (rs rs' : List Run) (q : Run) (more : (t : ℕ) → times t rs' ≡ times t rs + bit (covers q t)) where
  pub shows_more : (m : List ℕ) (hs : List Run) → Shows m n (q ∷ (rs ++ hs)) → Shows m n (rs' ++ hs)
  shows_more m hs h =
      shows_same m n (q ∷ (rs ++ hs)) (rs' ++ hs)
      (λ t u. let a = more t in let b = sum_append (λ r. bit (covers r t)) rs hs in let c = sum_append (λ r. bit (covers r t)) rs' hs in omega arith) h

  pub once_less : (hs : List Run) → Once n (rs' ++ hs) → Once n (q ∷ (rs ++ hs))
  once_less hs o t u = let a = more t in let b = sum_append (λ r. bit (covers r t)) rs hs in let c = sum_append (λ r. bit (covers r t)) rs' hs in let d = o t u in omega arith

-- ---- a turn of the loop over extents

-- the extents before number e have left the map
abbrev pub LeftFree : ℕ → List ℕ → List ℕ → ℕ → List ℕ → List ℕ → Type 0
LeftFree h f1 f3 e m₀ m = (n : ℕ) (hs : List Run) → Shows m₀ n hs → Shows m n (overs (read_extents h f1 f3 e) ++ hs)

pub left_none : (h : ℕ) (f1 f3 m : List ℕ) → LeftFree h f1 f3 0 m m
left_none h f1 f3 m n hs x = rw (extents_none h f1 f3) x

module _ (h : ℕ) (f1 f3 : List ℕ) (e : ℕ) (m₀ m m' : List ℕ) (r : Bool) (s z : ℕ)
    (first : s ≡ track_at h (extent_part f1 f3 e) 2) (last : z ≡ track_at h (extent_part f1 f3 e) 6) (order : s ≤ z) (x : Taken m m' s (z + 1) r) (before : LeftFree h f1 f3 e m₀ m) where
  ends : z + 1 ≡ s + (z + 1 - s)
  ends = omega arith

  taken : Taken m m' s (s + (z + 1 - s)) r
  taken = subst (λ (y : ℕ). Taken m m' s y r) ends x

  is_run : run s (z + 1 - s) ≡ (read_extent h (extent_part f1 f3 e)).over
  is_run = λ i. record { start = first i; count = last i + 1 - first i }

  more : (t : ℕ) → times t (overs (read_extents h f1 f3 (e + 1))) ≡ times t (overs (read_extents h f1 f3 e)) + bit (covers (run s (z + 1 - s)) t)
  more t = extents_next h f1 f3 e t ∙ ap (λ (q : Run). times t (overs (read_extents h f1 f3 e)) + bit (covers q t)) (sym is_run)

  pub left_next : r ≡ true → LeftFree h f1 f3 (e + 1) m₀ m'
  left_next q n hs y =
      shows_more n (overs (read_extents h f1 f3 e)) (overs (read_extents h f1 f3 (e + 1))) (run s (z + 1 - s)) more m' hs
      (took_yes n s (z + 1 - s) m m' r taken q (overs (read_extents h f1 f3 e) ++ hs) (before n hs y))

  pub left_stop : r ≡ false → (k n : ℕ) → e < k → z + 1 ≤ n → (hs : List Run) → Shows m₀ n hs → Once n (overs (read_extents h f1 f3 k) ++ hs) → ⊥
  left_stop q k n u w hs y o =
      took_no n s (z + 1 - s) m m' r taken q (omega arith) (overs (read_extents h f1 f3 e) ++ hs) (before n hs y)
      (once_less n (overs (read_extents h f1 f3 e)) (overs (read_extents h f1 f3 (e + 1))) (run s (z + 1 - s)) more hs
      (λ t v.
      let a = o t v in
      let b = held_fewer h f1 f3 (e + 1) k t (omega arith) in
      let c = sum_append (λ r. bit (covers r t)) (overs (read_extents h f1 f3 k)) hs in
      let d = sum_append (λ r. bit (covers r t)) (overs (read_extents h f1 f3 (e + 1))) hs in
      omega arith))

-- ---- slots

one_slot_lem : (k : ℕ) → 1 ≤ k → one_slot k ≡ k ∷ []
one_slot_lem zero u = absurd (omega arith)
one_slot_lem (suc k) u = refl

module _ (k q : ℕ) (s s₁ s₂ : List ℕ) (r : Bool) (pos : 1 ≤ k) (a : Taken s s₁ k (k + 1) true) where
  is_slot : one_slot k ≡ k ∷ []
  is_slot = one_slot_lem k pos

  module _ (pos2 : 1 ≤ q) (b : Taken s₁ s₂ q (q + 1) r) where
    two_slots : one_slot q ≡ q ∷ []
    two_slots = one_slot_lem q pos2

    swap : (n : ℕ) (hs : List Run) (m : List ℕ) → Shows m n (run q 1 ∷ run k 1 ∷ hs) → Shows m n (run k 1 ∷ run q 1 ∷ hs)
    swap n hs m h = shows_same m n (run q 1 ∷ run k 1 ∷ hs) (run k 1 ∷ run q 1 ∷ hs) (λ t u. omega arith) h

    pub slots_two : TookSlots k q s s₂ r
    slots_two =
        record {
          long = b.long ∙ a.long;
          yes = λ e n hs h. rw (is_slot, two_slots) (swap n hs s₂ (took_yes n q 1 s₁ s₂ r b e (run k 1 ∷ hs) (took_yes n k 1 s s₁ true a refl hs h)));
          no = λ e n u w hs h o.
              took_no n q 1 s₁ s₂ r b e (omega arith) (run k 1 ∷ hs) (took_yes n k 1 s s₁ true a refl hs h)
              (λ t v. let p : times t (units (one_slot k ++ one_slot q) ++ hs) ≤ 1 = o t v in let p' = rw (is_slot, two_slots) at p in omega arith);
        }

unit_first : (k q : ℕ) → 1 ≤ k → (hs : List Run) (t : ℕ) → bit (covers (run k 1) t) + times t hs ≤ times t (units (one_slot k ++ one_slot q) ++ hs)
unit_first zero q u hs t = absurd (omega arith)
unit_first (suc k) q u hs t = let a = sum_append (λ r. bit (covers r t)) (units (one_slot q)) hs in omega arith

pub slots_hit : (k q : ℕ) (s s₁ : List ℕ) → 1 ≤ k → Taken s s₁ k (k + 1) false → TookSlots k q s s₁ false
slots_hit k q s s₁ pos a =
    record {
      long = a.long;
      yes = λ e. clash {b = false} e refl;
      no = λ e n u w hs h o. took_no n k 1 s s₁ false a refl (omega arith) hs h (λ t v. let p = o t v in let l = unit_first k q pos hs t in omega arith);
    }

-- ---- an extent that is good has its tracks in their order and on the volume

pub ten_order : (h t i : ℕ) (x : List ℕ) → good_ten h t i x ≡ true → (track_at h x 2 ≤ track_at h x 6) × (track_at h x 6 < t)
unfolding good_ten
ten_order h t i x e =
    let a = true_is e in
    let b = and_r (ltb (get2 x 4) h) _ a in
    let c = and_r (ltb (get2 x 8) h) _ b in
    let d = and_r (eqb (get_or x 1 0) i) _ c in
    let p = and_l (leb (track_at h x 2) (track_at h x 6)) _ d in
    let q = and_l (ltb (track_at h x 6) t) _ (and_r (leb (track_at h x 2) (track_at h x 6)) _ d) in
    (leb-true _ _ (is_true p), ltb-true _ _ (is_true q))

-- not good: nothing is taken
pub ten_bad : (g : Geometry) (e : ℕ) (x m : List ℕ) → good_ten g.heads (tracks g) e x ≡ false → TookTen g e x m m false
ten_bad g e x m q = record { long = refl; good = λ r. clash {b = false} r refl; taken = λ r. clash r q }

pub ten_taken : (g : Geometry) (e : ℕ) (x m m' : List ℕ) (r : Bool) (s z : ℕ) → s ≡ track_at g.heads x 2 → z ≡ track_at g.heads x 6
    → good_ten g.heads (tracks g) e x ≡ true → Taken m m' s (z + 1) r → TookTen g e x m m' r
ten_taken g e x m m' r s z p q u y =
    record {
      long = y.long;
      good = λ _. u;
      taken = λ _. subst (λ (i : ℕ). Taken m m' i (track_at g.heads x 6 + 1) r) p (subst (λ (i : ℕ). Taken m m' s (i + 1) r) q y);
    }

-- a turn: extent number e of n, in use
module _ (g : Geometry) (f1 f3 : List ℕ) (n e : ℕ) (m₀ m m' : List ℕ) (r : Bool) (x : List ℕ) (at : x ≡ extent_part f1 f3 e) (u : e < n)
    (y : TookTen g e x m m' r) (left : LeftFree g.heads f1 f3 e m₀ m) (same : used_ok g f1 f3 n ≡ extents_ok g.heads (tracks g) f1 f3 n e (n - e)) where
  abbrev H : ℕ
  H = g.heads

  abbrev ten : List ℕ
  ten = extent_part f1 f3 e

  used_is : extent_ok H (tracks g) n e ten ≡ good_ten H (tracks g) e ten
  unfolding extent_ok
  used_is = rw (lt-ltb e n u)

  there : TookTen g e ten m m' r
  there = subst (λ (z : List ℕ). TookTen g e z m m' r) at y

  pub turn_left : r ≡ true → LeftFree H f1 f3 (e + 1) m₀ m'
  turn_left q =
      let w = there.good q in
      let o = ten_order H (tracks g) e ten w in
      left_next H f1 f3 e m₀ m m' r (track_at H ten 2) (track_at H ten 6) refl refl o.0 (there.taken w) left q

  pub turn_same : r ≡ true → used_ok g f1 f3 n ≡ extents_ok H (tracks g) f1 f3 n (e + 1) (n - (e + 1))
  turn_same q = same ∙ good_next H (tracks g) f1 f3 n e n u (used_is ∙ there.good q)

  pub turn_stop : r ≡ false → length m' ≡ length m₀ → TookTested g f1 f3 n m₀ m' false
  turn_stop q l =
      record {
        long = l;
        good = λ z. clash {b = false} z refl;
        took = λ w.
            let v : good_ten H (tracks g) e ten ≡ true
            = by (good_ten H (tracks g) e ten) (λ a. a) (λ a. clash w (same ∙ bad_here H (tracks g) f1 f3 n e n u (used_is ∙ a))) in
            let o = ten_order H (tracks g) e ten v in
            record {
              long = l;
              yes = λ z. clash {b = false} z refl;
              no = λ z hs h once.
                  left_stop H f1 f3 e m₀ m m' r (track_at H ten 2) (track_at H ten 6) refl refl o.0 (there.taken v) left q n (tracks g) u (omega (arith, o.1)) hs h once;
            };
      }

pub all_taken : (g : Geometry) (f1 f3 : List ℕ) (n e : ℕ) (m₀ m : List ℕ) → e ≤ n → n ≤ e → length m ≡ length m₀ → LeftFree g.heads f1 f3 e m₀ m
    → used_ok g f1 f3 n ≡ extents_ok g.heads (tracks g) f1 f3 n e (n - e) → TookTested g f1 f3 n m₀ m true
all_taken g f1 f3 n e m₀ m u v l left same =
    let q : e ≡ n = omega arith in
    record {
      long = l;
      good = λ _. same ∙ extents_end g.heads (tracks g) f1 f3 n e n v;
      took = λ _. record { long = l; yes = λ _ hs h. subst (λ (k : ℕ). Shows m (tracks g) (overs (read_extents g.heads f1 f3 k) ++ hs)) q (left (tracks g) hs h); no = λ z. clash {b = true} refl z };
    }
