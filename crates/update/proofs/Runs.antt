-- The beginning of a chain that a change leaves alone: the free extents before the first track that changes. Assumes nothing.
use mathlib.Core.Path.{◌≡◌, refl, sym, ap, ap₂, ◌∙◌, subst}
use mathlib.Core.Bool.{Bool}
use mathlib.Core.List.{List, [], ◌∷◌, ◌++◌}
use Prim.Native.Nat.{ℕ, zero, suc, ◌+◌, ◌-◌, ◌*◌, ◌≤◌, ◌<◌}
use native.Mathlib.Nat.{lt_of_not-le, zero-add}
use native.Mathlib.Decide.{dec_le}
use native.Mathlib.Omega.{arith}
use lib.ListN.{length, take, drop}
use lib.Seq.{drop-drop, take-take}
use Rattle.model.specs.Basics.{bit}
use Rattle.model.specs.Model.{Geometry, Run, Separate, covers, run, runs, times}
use Rattle.model.proofs.Lists.{drop_take, sum_append}
use Rattle.model.specs.Predicates.{All}
use Rattle.model.proofs.Runs.{below, canonical, hit_above, runs_separate, runs_times}
use Rattle.rules.specs.Layout.{fives, format5, head_or0}
use Rattle.rules.specs.Reading.{record_at}
use Rattle.rules.specs.Sound.{FiveOk}

-- ---- runs before a run that starts at track a

weaker : (lo lo' hi : ℕ) (ys : List Run) → lo ≤ lo' → Separate lo' hi ys → Separate lo hi ys
weaker lo lo' hi [] u s = tt
weaker lo lo' hi (y ∷ ys) u s = (omega (arith, s.0), s.1, s.2, s.3)

module _ (hi a c : ℕ) (rest : List Run) where
  starts_later : (lo k : ℕ) (f : List Run) → Separate lo hi f → drop k f ≡ run a c ∷ rest → lo ≤ a
  starts_later lo zero f s e = (subst (Separate lo hi) e s).0
  starts_later lo (suc k) [] s e = absurd (let z : ◌≡◌ {A = ℕ} 0 (suc (length rest)) = ap length e in omega arith)
  starts_later lo (suc k) (r ∷ f) s e = let u = starts_later (suc (r.start + r.count)) k f s.3 e in omega (arith, s.0)

  ends_inside : (lo k : ℕ) (f : List Run) → Separate lo hi f → drop k f ≡ run a c ∷ rest → a + c ≤ hi
  ends_inside lo zero f s e = (subst (Separate lo hi) e s).2
  ends_inside lo (suc k) [] s e = absurd (let z : ◌≡◌ {A = ℕ} 0 (suc (length rest)) = ap length e in omega arith)
  ends_inside lo (suc k) (r ∷ f) s e = ends_inside (suc (r.start + r.count)) k f s.3 e

  joined : (lo k : ℕ) (f ys : List Run) → Separate lo hi f → drop k f ≡ run a c ∷ rest → Separate a hi ys → Separate lo hi (take k f ++ ys)
  joined lo zero f ys s e z = weaker lo a hi ys (starts_later lo zero f s e) z
  joined lo (suc k) [] ys s e z = absurd (let y : ◌≡◌ {A = ℕ} 0 (suc (length rest)) = ap length e in omega arith)
  joined lo (suc k) (r ∷ f) ys s e z = (s.0, s.1, s.2, joined (suc (r.start + r.count)) k f ys s.3 e z)

  before : (lo k : ℕ) (f : List Run) → Separate lo hi f → drop k f ≡ run a c ∷ rest → (t : ℕ) → t < a → times t (take k f) ≡ times t f
  before lo zero f s e t u =
      let y : Separate lo hi (run a c ∷ rest) = subst (Separate lo hi) e s in
      let x : times t (run a c ∷ rest) ≡ 0 = below a hi (run a c ∷ rest) t (omega arith, y.1, y.2, y.3) u in
      sym (ap (times t) e ∙ x)
  before lo (suc k) [] s e t u = refl
  before lo (suc k) (r ∷ f) s e t u = let x = before (suc (r.start + r.count)) k f s.3 e t u in omega arith

  behind : (lo k : ℕ) (f : List Run) → Separate lo hi f → drop k f ≡ run a c ∷ rest → (t : ℕ) → a ≤ t → times t (take k f) ≡ 0
  behind lo zero f s e t u = refl
  behind lo (suc k) [] s e t u = refl
  behind lo (suc k) (r ∷ f) s e t u =
      let x = behind (suc (r.start + r.count)) k f s.3 e t u in
      let y = starts_later (suc (r.start + r.count)) k f s.3 e in
      let z = hit_above r t (omega arith) in
      omega arith

-- two ways to be free that agree before track a, where a run of the first starts: the runs before it are those of both
module _ (p q : ℕ → Bool) (n k a c : ℕ) (rest : List Run) (e : drop k (runs p 0 n) ≡ run a c ∷ rest) (same : (t : ℕ) → t < a → p t ≡ q t) where
  abbrev old : List Run
  old = runs p 0 n

  abbrev new : List Run
  new = runs q a (n - a)

  old_apart : Separate 0 n old
  old_apart = subst (λ (h : ℕ). Separate 0 h old) (zero-add n) (runs_separate p 0 n)

  inside : a ≤ n
  inside = let u = ends_inside n a c rest 0 k old old_apart e in omega arith

  new_apart : Separate a n new
  new_apart = let h : a + (n - a) ≡ n = omega (arith, inside) in subst (λ (h : ℕ). Separate a h new) h (runs_separate q a (n - a))

  covered : (t : ℕ) → 0 ≤ t → t < 0 + n → times t (take k old ++ new) ≡ bit (q t)
  covered t v w =
      let both = sum_append (λ r. bit (covers r t)) (take k old) new in
      elim (dec_le a t) [
        | yes h ↦
            let x = behind n a c rest 0 k old old_apart e t h in
            let z = runs_times q a (n - a) t h (omega arith) in
            omega arith
        | no h ↦
            let b = lt_of_not-le h in
            let x = before n a c rest 0 k old old_apart e t b in
            let z = below a n new t new_apart b in
            let i = runs_times p 0 n t v w in
            let j = ap bit (same t b) in
            omega arith
      ]

  pub runs_kept : runs q 0 n ≡ take k old ++ new
  runs_kept =
      sym (canonical q 0 n (take k old ++ new)
      (subst (λ (h : ℕ). Separate 0 h (take k old ++ new)) (sym (zero-add n)) (joined n a c rest 0 k old new old_apart e new_apart)) covered)

-- ---- members of a chain that hold the same free extents in two tables

pub fives_drop : (i : ℕ) (ks : List ℕ) (f : List Run) → fives (drop i ks) (drop (26 * i) f) ≡ drop i (fives ks f)
fives_drop zero ks f = refl
fives_drop (suc i) [] f = refl
fives_drop (suc i) (k ∷ ks) f = ap (fives (drop i ks)) more ∙ fives_drop i ks (drop 26 f)
  where
    twenty_six : 26 * suc i ≡ 26 + 26 * i
    twenty_six = omega arith

    more : drop (26 * suc i) f ≡ drop (26 * i) (drop 26 f)
    more = ap (λ (n : ℕ). drop n f) twenty_six ∙ sym (drop-drop (26 * i) 26 f)

-- two chains that begin alike link their first members alike
next_alike : (i : ℕ) (ks ks' : List ℕ) → take (suc i) ks ≡ take (suc i) ks' → head_or0 ks ≡ head_or0 ks'
next_alike i ks ks' e = sym (front ks) ∙ ap head_or0 e ∙ front ks'
  where
    front : (x : List ℕ) → head_or0 (take (suc i) x) ≡ head_or0 x
    front [] = refl
    front (k ∷ x) = refl

pub same_members : (g : Geometry) (rs rs' : List (List ℕ)) (i : ℕ) (ks ks' : List ℕ) (f f' : List Run) → take (suc i) ks ≡ take (suc i) ks' → take (26 * i) f ≡ take (26 * i) f'
    → All (FiveOk g rs) (fives ks f) → All (FiveOk g rs') (fives ks' f') → All (λ k. record_at rs k ≡ record_at rs' k) (take i ks)
same_members g rs rs' zero ks ks' f f' c e a b = tt
same_members g rs rs' (suc i) [] ks' f f' c e a b = tt
same_members g rs rs' (suc i) (k ∷ ks) [] f f' c e a b = absurd (let z : ◌≡◌ {A = ℕ} (suc (length (take (suc i) ks))) 0 = ap length c in omega arith)
same_members g rs rs' (suc i) (k ∷ ks) (k' ∷ ks') f f' c e a b = (
  sym a.0
      ∙ ap₂ (λ (x : List Run) (n : ℕ). format5 g x n) first (next_alike i ks ks' rest)
      ∙ b.0
      ∙ ap (record_at rs') (sym head),
  same_members g rs rs' i ks ks' (drop 26 f) (drop 26 f') rest later a.1 b.1,
)
  where
    head : k ≡ k'
    head = ap head_or0 c

    rest : take (suc i) ks ≡ take (suc i) ks'
    rest = ap (drop 1) c

    first : take 26 f ≡ take 26 f'
    first = sym (front f) ∙ ap (take 26) e ∙ front f'
      where
        front : (x : List Run) → take 26 (take (26 * suc i) x) ≡ take 26 x
        front x = take-take 26 (26 * suc i) x (omega arith)

    later : take (26 * i) (drop 26 f) ≡ take (26 * i) (drop 26 f')
    later = back f ∙ ap (drop 26) e ∙ sym (back f')
      where
        back : (x : List Run) → take (26 * i) (drop 26 x) ≡ drop 26 (take (26 * suc i) x)
        back x = let n : 26 * suc i - 26 ≡ 26 * i = omega arith in sym (drop_take 26 (26 * suc i) x ∙ ap (λ (j : ℕ). take j (drop 26 x)) n)
