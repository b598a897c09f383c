-- Whether all tracks of a range are free: by its first free run, and by what is held. Assumes nothing.
use mathlib.Core.Path.{◌≡◌, sym, ap, ap₂, ◌∙◌, refl, subst}
use mathlib.Core.Bool.{Bool, true, false, ◌&&◌}
use mathlib.Core.Logic.{⊎_elim}
use mathlib.Core.List.{List}
use Prim.Native.Nat.{ℕ, zero, suc, ◌+◌, ◌-◌, ◌≤◌, ◌<◌}
use native.Mathlib.Nat.{le_refl}
use native.Mathlib.Omega.{arith}
use borrow.Author.Tests.{eq-eqb, ne_eqb, eqb-true, eqb-false}
use lib.Dec.{T, eqb}
use Rattle.model.specs.Basics.{all, up_from}
use Rattle.model.specs.Model.{Run, Separate, run, times}
use Rattle.model.proofs.Lists.{All_range, all→, by, is_true, range_All, true_is, →all}
use Rattle.model.proofs.Runs.{below, hit_above, hit_below, hit_in, runs_separate, runs_times}
use Rattle.bitmap.specs.Map.{AllFree, Hit, NextRun, Shows, free_bit, free_from, is_free}
use Rattle.bitmap.proofs.Bits.{le_or_lt}
use Rattle.bitmap.proofs.Counting.{bit_of, free_le}

-- ---- off the map

abbrev all_free : List ℕ → ℕ → ℕ → Bool
all_free m s e = all (is_free m) (up_from s (e - s))

free_one : (m : List ℕ) (t : ℕ) → free_bit m t ≡ 1 → is_free m t ≡ true
unfolding is_free
free_one m t h = eq-eqb _ _ h

one_free : (m : List ℕ) (t : ℕ) → is_free m t ≡ true → free_bit m t ≡ 1
unfolding is_free
one_free m t h = eqb-true _ _ h

all_yes : (m : List ℕ) (s e : ℕ) → s < e → AllFree m s e → all_free m s e ≡ true
all_yes m s e h a =
    is_true (→all (is_free m) (up_from s (e - s)) (range_All (λ t. T (is_free m t)) s (e - s) (λ t u w. true_is (free_one m t (a t u (omega arith))))))

all_no : (m : List ℕ) (s e : ℕ) → Hit m s e → all_free m s e ≡ false
all_no m s e h =
    let l = h.from in
    let k = h.below in
    by (all_free m s e)
    (λ q.
    let x = All_range (λ t. T (is_free m t)) s (e - s) (all→ (is_free m) (up_from s (e - s)) (true_is q)) h.at h.from (omega arith) in
    let y = one_free m h.at (is_true x) in
    let z = h.off in
    absurd (omega arith))
    (λ q. q)

module _ {m : List ℕ} {e s a b : ℕ} (r : NextRun m e s a b) (h : s < e) where
  seen : (t : ℕ) → s ≤ t → t < e → times t (free_from m e s) ≡ free_bit m t
  unfolding free_from
  seen t u w = runs_times (is_free m) s (e - s) t u (omega arith) ∙ bit_of m t

  apart : Separate s (s + (e - s)) (free_from m e s)
  unfolding free_from
  apart = runs_separate (is_free m) s (e - s)

  -- a run that starts behind s: s is not free
  late : s < a → Hit m s e
  late k =
      ⊎_elim
      (λ n. let x = seen s (le_refl s) h in let y = ap (times s) (r.done n) in record { at = s; from = le_refl s; below = h; off = omega arith })
      (λ n.
      let f = r.more n in
      let p = subst (Separate s (s + (e - s))) f.1 apart in
      let c = f.0 in
      let x = seen s (le_refl s) h in
      let y = ap (times s) f.1 in
      let z = hit_below (run a (b - a)) s k in
      let w = below (suc (a + (b - a))) (s + (e - s)) (free_from m e b) s p.3 (omega arith) in
      record { at = s; from = le_refl s; below = h; off = omega arith })
      (le_or_lt e a)

  -- a run that ends early: the track behind it is not free
  early : a ≡ s → b < e → Hit m s e
  early q k =
      let f = r.more (omega arith) in
      let p = subst (Separate s (s + (e - s))) f.1 apart in
      let c = f.0 in
      let x = seen b (omega arith) k in
      let y = ap (times b) f.1 in
      let z = hit_above (run a (b - a)) b (omega arith) in
      let w = below (suc (a + (b - a))) (s + (e - s)) (free_from m e b) b p.3 (omega arith) in
      record { at = b; from = omega arith; below = k; off = omega arith }

  whole : a ≡ s → b ≡ e → AllFree m s e
  whole q k t u w =
      let f = r.more (omega arith) in
      let x = seen t u w in
      let y = ap (times t) f.1 in
      let z = hit_in (run a (b - a)) t (omega arith) (omega arith) in
      let l = free_le m t in
      omega arith

  pub not_first : (a ≡ s → ⊥) → false ≡ all (is_free m) (up_from s (e - s))
  not_first q = sym (all_no m s e (late (let l = r.from in omega arith)))

  pub first_run : a ≡ s → eqb b e ≡ all (is_free m) (up_from s (e - s))
  first_run q =
      by (eqb b e)
      (λ k. k ∙ sym (all_yes m s e h (whole q (eqb-true _ _ k))))
      (λ k. let n = eqb-false b e k in let l = r.high in k ∙ sym (all_no m s e (early q (omega arith))))

-- ---- against what is held

all_same : (p q : ℕ → Bool) (s n : ℕ) → ((t : ℕ) → s ≤ t → t < s + n → p t ≡ q t) → all p (up_from s n) ≡ all q (up_from s n)
all_same p q s zero h = refl
all_same p q s (suc n) h =
    ap₂ (λ (x y : Bool). x && y) (h s (le_refl s) (omega arith)) (all_same p q (suc s) n (λ t u w. h t (omega arith) (omega arith)))

free_held : (m : List ℕ) (n : ℕ) (hs : List Run) → Shows m n hs → (t : ℕ) → t < n → is_free m t ≡ eqb (times t hs) 0
unfolding is_free
free_held m n hs h t u =
    let e = h t u in
    by (eqb (times t hs) 0)
    (λ k. let z = eqb-true (times t hs) 0 k in eq-eqb (free_bit m t) 1 (omega arith) ∙ sym k)
    (λ k. let z = eqb-false (times t hs) 0 k in ne_eqb (free_bit m t) 1 (λ o. absurd (z (omega arith))) ∙ sym k)

pub all_held : (m : List ℕ) (n : ℕ) (hs : List Run) → Shows m n hs → (s k : ℕ) → s + k ≤ n → all (is_free m) (up_from s k) ≡ all (λ t. eqb (times t hs) 0) (up_from s k)
all_held m n hs h s k l = all_same (is_free m) (λ t. eqb (times t hs) 0) s k (λ t u w. free_held m n hs h t (omega arith))
