-- The runs of a test over tracks, one after the other. Assumes nothing.
use mathlib.Core.Path.{◌≡◌, sym, ap, ◌∙◌, subst}
use mathlib.Core.Bool.{Bool, true, false}
use mathlib.Core.Logic.{⊎_elim}
use mathlib.Core.List.{List, [], ◌∷◌}
use Prim.Native.Nat.{ℕ, zero, suc, ◌+◌, ◌-◌, ◌≤◌, ◌<◌}
use native.Mathlib.Nat.{le_refl}
use native.Mathlib.Omega.{arith}
use borrow.Author.Tests.{eq-eqb, ne_eqb}
use Rattle.model.specs.Basics.{bit}
use Rattle.model.specs.Model.{Run, run, runs, join_if, covers, times, Separate}
use Rattle.model.proofs.Runs.{canonical, runs_separate, runs_times, hit_in, hit_above, below}
use Rattle.bitmap.specs.Map.{free_bit, is_free, free_from, NextRun}
use Rattle.bitmap.specs.Steps.{First}
use Rattle.bitmap.proofs.Bits.{le_or_lt}

module _ (p : ℕ → Bool) where
  -- tracks at the beginning that p passes over
  pub skip : (d s n : ℕ) → ((j : ℕ) → s ≤ j → j < s + d → p j ≡ false) → runs p s (d + n) ≡ runs p (s + d) n
  skip zero s n h =
      let e : 0 + n ≡ n = omega arith in
      let f : s ≡ s + 0 = omega arith in
      ap (runs p s) e ∙ ap (λ (x : ℕ). runs p x n) f
  skip (suc d) s n h =
      let e : suc d + n ≡ suc (d + n) = omega arith in
      let f : suc s + d ≡ s + suc d = omega arith in
      ap (runs p s) e ∙ ap (λ (b : Bool). join_if b s (runs p (suc s) (d + n))) (h s (le_refl s) (omega arith))
      ∙ skip d (suc s) n (λ j u v. h j (omega arith) (omega arith)) ∙ ap (λ (x : ℕ). runs p x n) f

  -- where the first track fails the test, no run starts there
  pub later : (b n : ℕ) → (0 < n → p b ≡ false) → Separate (suc b) (b + n) (runs p b n)
  later b zero h = tt
  later b (suc n) h =
      let e : runs p b (suc n) ≡ runs p (suc b) n = ap (λ (x : Bool). join_if x b (runs p (suc b) n)) (h (omega arith)) in
      let f : suc b + n ≡ b + suc n = omega arith in
      subst (λ (x : ℕ). Separate (suc b) x (runs p b (suc n))) f (subst (λ (rs : List Run). Separate (suc b) (suc b + n) rs) (sym e) (runs_separate p (suc b) n))

  -- c tracks that pass, and one behind them that does not
  pub first_run : (a c n : ℕ) → 0 < c → ((j : ℕ) → a ≤ j → j < a + c → p j ≡ true) → (0 < n → p (a + c) ≡ false)
      → runs p a (c + n) ≡ run a c ∷ runs p (a + c) n
  first_run a c n pos h stop =
      let s = later (a + c) n stop in
      let f : a + c + n ≡ a + (c + n) = omega arith in
      sym (canonical p a (c + n) (run a c ∷ runs p (a + c) n)
      (le_refl a, pos, omega arith, subst (λ (x : ℕ). Separate (suc (a + c)) x (runs p (a + c) n)) f s)
      (λ t u v. ⊎_elim
      (λ g.
      let x : bit (covers (run a c) t) ≡ 0 = hit_above (run a c) t g in
      let y = runs_times p (a + c) n t g (omega arith) in
      omega arith)
      (λ g.
      let x : bit (covers (run a c) t) ≡ 1 = hit_in (run a c) t u g in
      let y = below (suc (a + c)) (a + c + n) (runs p (a + c) n) t s (omega arith) in
      let z = ap bit (h t u g) in
      omega arith)
      (le_or_lt (a + c) t)))

pub is_free_lem : (m : List ℕ) (t : ℕ) → free_bit m t ≡ 1 → is_free m t ≡ true
unfolding is_free
is_free_lem m t e = eq-eqb (free_bit m t) 1 e

pub not_free : (m : List ℕ) (t : ℕ) → free_bit m t ≡ 0 → is_free m t ≡ false
unfolding is_free
not_free m t e = ne_eqb (free_bit m t) 1 (λ z. absurd (omega arith))

pub next_run_law : (m : List ℕ) (n s a b : ℕ) → First m true s n a → First m false a n b → NextRun m n s a b
unfolding free_from
next_run_law m n s a b f g =
    let f1 = f.from in
    let f2 = f.to in
    let g1 = g.from in
    let g2 = g.to in
    let c = b - a in
    let q : a + c ≡ b = omega arith in
    let n1 : n - s ≡ (a - s) + (n - a) = omega arith in
    let n2 : s + (a - s) ≡ a = omega arith in
    let skipped : runs (is_free m) s (n - s) ≡ runs (is_free m) a (n - a) =
    ap (runs (is_free m) s) n1 ∙ skip (is_free m) (a - s) s (n - a) (λ j u v. not_free m j (f.before j u (omega arith))) ∙ ap (λ (x : ℕ). runs (is_free m) x (n - a)) n2 in
    let stop : b < n → free_bit m (a + c) ≡ 0 = λ u. ap (free_bit m) q ∙ g.here u in
    record {
      from = f1;
      low = g1;
      high = g2;
      more = λ h.
          let pos : a < b =
          ⊎_elim (λ u. absurd (let x = f.here h in let e : a ≡ b = omega arith in let y = ap (free_bit m) e ∙ g.here (omega arith) in omega arith)) (λ u. u) (le_or_lt b a) in
          let n3 : n - a ≡ c + (n - b) = omega arith in (
            pos,
            skipped ∙ ap (runs (is_free m) a) n3
                ∙ first_run (is_free m) a c (n - b) (omega arith) (λ j u v. is_free_lem m j (g.before j u (omega arith))) (λ u. not_free m (a + c) (stop (omega arith)))
                ∙ ap (λ (x : ℕ). run a c ∷ runs (is_free m) x (n - b)) q,
          );
      done = λ h. let n4 : n - a ≡ 0 = omega arith in skipped ∙ ap (runs (is_free m) a) n4;
    }

-- ---- for a caller that goes from run to run

-- it comes further with each call
pub goes_on : {m : List ℕ} {n s a b : ℕ} → NextRun m n s a b → s < n → s < b
goes_on {n} {a} r h =
    let f = r.from in
    let l = r.low in
    ⊎_elim (λ u. omega arith) (λ u. let p = (r.more u).0 in omega arith) (le_or_lt n a)

pub free_from_zero : (m : List ℕ) (n : ℕ) → free_from m n 0 ≡ runs (is_free m) 0 n
unfolding free_from
free_from_zero m n = let e : n - 0 ≡ n = omega arith in ap (runs (is_free m) 0) e

pub free_from_end : (m : List ℕ) (n : ℕ) → free_from m n n ≡ []
unfolding free_from
free_from_end m n = let e : n - n ≡ 0 = omega arith in ap (runs (is_free m) n) e

-- ---- where track 0, the label track, is not free, no run begins there

label_missed : (m : List ℕ) (n b : ℕ) → NextRun m n 0 0 b → 0 < n → free_bit m 0 ≡ 0 → ⊥
unfolding free_from
label_missed m n b r u off =
    let e = ap (times 0) (r.more u).1 in
    let free = runs_times (is_free m) 0 (n - 0) 0 (le_refl 0) (omega arith) in
    let here = hit_in (run 0 (b - 0)) 0 (le_refl 0) (omega (arith, (r.more u).0)) in
    let none = ap bit (not_free m 0 off) in
    absurd (omega arith)

pub behind_label : (m : List ℕ) (n s a b : ℕ) → NextRun m n s a b → a < n → free_bit m 0 ≡ 0 → 1 ≤ a
behind_label m n zero zero b r u off = absurd (label_missed m n b r u off)
behind_label m n (suc s) zero b r u off = absurd (omega (arith, r.from))
behind_label m n s (suc a) b r u off = omega arith
