-- The best fit, kept as the candidates come, is the shortest that serves, and the first of those. Assumes nothing.
use mathlib.Core.Path.{◌≡◌, refl, sym, ap, ◌∙◌}
use mathlib.Core.Bool.{Bool, true, false}
use mathlib.Core.Option.{Option, none, some}
use mathlib.Core.List.{List, [], ◌∷◌}
use Prim.Native.Nat.{ℕ, ◌≤◌, ◌<◌}
use native.Mathlib.Omega.{arith}
use borrow.Author.Tests.{ltb-true, ltb-false, leb-true, leb-false, eqb-true, eqb-false, lt-ltb, le-ltb, le-leb, lt-leb, eq-eqb, ne_eqb}
use lib.Dec.{leb, ltb, eqb}
use Rattle.model.specs.Basics.{keep_if}
use Rattle.model.specs.Model.{Run}
use Rattle.model.specs.Choice.{whole_in, candidates, serving, shorter, shortest}
use Rattle.model.proofs.Lists.{by}
use Rattle.choose_pieces.specs.Pass.{better, best_after, no_run, run_or_none, fits_better}

-- ---- one more candidate

is_run : (c : Run) → 1 ≤ c.count → run_or_none c ≡ some c
unfolding run_or_none
is_run c h = rw (le-leb 1 c.count h)

is_none : (c : Run) → c.count ≡ 0 → run_or_none c ≡ none
unfolding run_or_none
is_none c h = rw (lt-leb 1 c.count (omega arith))

abbrev earlier : Option Run → Option Run → Option Run
earlier none o = o
earlier (some b) o = shorter b o

-- c is shorter than b, and so is the shortest with c in front
skip_longer : (b c : Run) (o : Option Run) → c.count < b.count → shorter b (shorter c o) ≡ shorter c o
skip_longer b c none h = rw (lt-leb b.count c.count h)
skip_longer b c (some d) h =
    by (leb c.count d.count)
    (λ q. simp (q, lt-leb b.count c.count h))
    (λ q. simp (q, lt-leb b.count d.count (omega (arith, leb-false c.count d.count q))))

-- c is no shorter than b, which is in front
skip_later : (b c : Run) (o : Option Run) → b.count ≤ c.count → shorter b (shorter c o) ≡ shorter b o
skip_later b c none h = rw (le-leb b.count c.count h)
skip_later b c (some d) h =
    by (leb c.count d.count)
    (λ q. simp (q, le-leb b.count c.count h, le-leb b.count d.count (omega (arith, leb-true c.count d.count q))))
    (λ q. simp q)

module _ (n : ℕ) (pos : 1 ≤ n) (b c : Run) where
  pub too_short : c.count < n → better n b c ≡ b
  unfolding fits_better
  too_short h = rw (lt-leb n c.count h)

  first_fit : n ≤ c.count → b.count ≡ 0 → better n b c ≡ c
  unfolding fits_better
  first_fit h e = rw (le-leb n c.count h, eq-eqb b.count 0 e)

  shorter_fit : n ≤ c.count → (b.count ≡ 0 → ⊥) → c.count < b.count → better n b c ≡ c
  unfolding fits_better
  shorter_fit h e k = rw (le-leb n c.count h, ne_eqb b.count 0 e, lt-ltb c.count b.count k)

  other_fit : n ≤ c.count → (b.count ≡ 0 → ⊥) → b.count ≤ c.count → better n b c ≡ b
  unfolding fits_better
  other_fit h e k = rw (le-leb n c.count h, ne_eqb b.count 0 e, le-ltb c.count b.count k)

  one_more : (o : Option Run) → n ≤ c.count → earlier (run_or_none (better n b c)) o ≡ earlier (run_or_none b) (shorter c o)
  one_more o h =
      by (eqb b.count 0)
      (λ q.
      let e : b.count ≡ 0 = eqb-true _ _ q in
      rw (first_fit h e, is_run c (omega arith), is_none b e))
      (λ q.
      let e : b.count ≡ 0 → ⊥ = eqb-false _ _ q in
      by (ltb c.count b.count)
      (λ k. let l : c.count < b.count = ltb-true _ _ k in rw (shorter_fit h e l, is_run c (omega arith), is_run b (omega arith)) (sym (skip_longer b c o l)))
      (λ k. let l : b.count ≤ c.count = ltb-false _ _ k in rw (other_fit h e l, is_run b (omega arith)) (sym (skip_later b c o l))))

-- ---- all of them

-- once the best has exactly n units, no candidate is better
pub exact_stays : (u n : ℕ) (b : Run) (rs : List Run) → 1 ≤ n → b.count ≡ n → best_after u n b rs ≡ b
exact_stays u n b [] pos e = refl
exact_stays u n b (r ∷ rs) pos e = ap (λ (x : Run). best_after u n x rs) (one (whole_in u r)) ∙ exact_stays u n b rs pos e
  where
    one : (c : Run) → better n b c ≡ b
    one c = by (leb n c.count) (λ h. let k : n ≤ c.count = leb-true _ _ h in other_fit n pos b c k (λ z. omega arith) (omega arith)) (λ h. too_short n pos b c (leb-false _ _ h))

from_left : (u n : ℕ) (b : Run) (rs : List Run) → 1 ≤ n
    → run_or_none (best_after u n b rs) ≡ earlier (run_or_none b) (shortest (serving n (candidates u rs)))
from_left u n b [] pos = go (run_or_none b)
  where
    go : (o : Option Run) → o ≡ earlier o none
    go none = refl
    go (some b) = refl
from_left u n b (r ∷ rs) pos =
    let c = whole_in u r in
    let o = shortest (serving n (candidates u rs)) in
    let i = from_left u n (better n b c) rs pos in
    by (leb n c.count)
    (λ h.
    let k : n ≤ c.count = leb-true _ _ h in
    rw (le-leb 1 c.count (omega arith), h) (i ∙ one_more n pos b c o k))
    (λ h.
    let k : c.count < n = leb-false _ _ h in
    i ∙ ap (λ (x : Run). earlier (run_or_none x) o) (too_short n pos b c k) ∙ ap (λ (x : List Run). earlier (run_or_none b) (shortest x)) (skipped (leb 1 c.count) c (candidates u rs) h))
  where
    skipped : (p : Bool) (c : Run) (cs : List Run) → leb n c.count ≡ false → serving n cs ≡ serving n (keep_if p c cs)
    skipped true c cs h = rw h
    skipped false c cs h = refl

pub best_law : (u n : ℕ) (rs : List Run) → 1 ≤ n → run_or_none (best_after u n no_run rs) ≡ shortest (serving n (candidates u rs))
best_law u n rs pos = from_left u n no_run rs pos ∙ ap (λ (x : Option Run). earlier x (shortest (serving n (candidates u rs)))) (is_none no_run refl)
