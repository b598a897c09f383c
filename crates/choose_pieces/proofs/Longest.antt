-- The five longest: candidates entered as they come leave the first five of `longest_first`. Assumes nothing.
use mathlib.Core.Path.{◌≡◌, refl, sym, ap, ◌∙◌}
use mathlib.Core.Bool.{true, false, cond}
use mathlib.Core.List.{List, [], ◌∷◌, ◌++◌, append_assoc, append-nil}
use Prim.Native.Nat.{ℕ, zero, suc, ◌≤◌, ◌<◌}
use native.Mathlib.Omega.{arith}
use borrow.Author.Tests.{ltb-false, leb-true, leb-false, lt-ltb, le-ltb, le-leb, lt-leb}
use lib.ListN.{get_or}
use lib.Dec.{leb, ltb}
use Rattle.model.specs.Model.{Run}
use Rattle.model.specs.Choice.{whole_in, candidates, insert_run, longest_first}
use Rattle.model.proofs.Lists.{by, All_map}
use Rattle.model.specs.Predicates.{All}
use Rattle.choose_pieces.specs.Pass.{no_run, padded, inserted_at, entered, five_after}

-- ---- a candidate at the end of the list goes behind those that are as long

abbrev behind : Run → List Run → List Run
behind c [] = c ∷ []
behind c (d ∷ ds) = cond (leb c.count d.count) (d ∷ behind c ds) (c ∷ d ∷ ds)

-- d comes from before all, c from behind all: it is one which goes in first
either_order : (c d : Run) (es : List Run) → insert_run d (behind c es) ≡ behind c (insert_run d es)
either_order c d [] = by (leb c.count d.count) (λ h. rw h) (λ h. rw h)
either_order c d (e ∷ es) =
    by (leb c.count e.count)
    (λ h.
    by (leb e.count d.count)
    (λ k.
    let q : leb c.count d.count ≡ true = le-leb c.count d.count (omega (arith, leb-true c.count e.count h, leb-true e.count d.count k)) in
    simp (h, k, q))
    (λ k. rw (h, k, h) (ap (λ (x : List Run). e ∷ x) (either_order c d es))))
    (λ h.
    by (leb e.count d.count)
    (λ k. by (leb c.count d.count) (λ q. simp (h, k, q)) (λ q. simp (h, k, q)))
    (λ k.
    let q : leb c.count d.count ≡ false = lt-leb c.count d.count (omega (arith, leb-false c.count e.count h, leb-false e.count d.count k)) in
    simp (h, k, q)))

longest_snoc : (c : Run) (cs : List Run) → longest_first (cs ++ (c ∷ [])) ≡ behind c (longest_first cs)
longest_snoc c [] = refl
longest_snoc c (d ∷ cs) = ap (insert_run d) (longest_snoc c cs) ∙ either_order c d (longest_first cs)

-- ---- longest first

insert_All : (P : Run → Type 0) (c : Run) (ds : List Run) → P c → All P ds → All P (insert_run c ds)
insert_All P c [] p a = (p, tt)
insert_All P c (d ∷ ds) p a =
    by (leb d.count c.count) (λ h. rw h (p, (a.0, a.1))) (λ h. rw h (a.0, insert_All P c ds p a.1))

abbrev Descending : List Run → Type 0
Descending [] = Unit {0}
Descending (d ∷ ds) = All (λ e. e.count ≤ d.count) ds × Descending ds

insert_descending : (c : Run) (ds : List Run) → Descending ds → Descending (insert_run c ds)
insert_descending c [] s = (tt, tt)
insert_descending c (d ∷ ds) s =
    by (leb d.count c.count)
    (λ h.
    let k : d.count ≤ c.count = leb-true _ _ h in
    rw h ((k, All_map (λ e. e.count ≤ d.count) (λ e. e.count ≤ c.count) (λ e x. omega arith) ds s.0), s))
    (λ h.
    let k : c.count < d.count = leb-false _ _ h in
    rw h (insert_All (λ e. e.count ≤ d.count) c ds (omega arith) s.0, insert_descending c ds s.1))

descending : (cs : List Run) → Descending (longest_first cs)
descending [] = tt
descending (c ∷ cs) = insert_descending c (longest_first cs) (descending cs)

-- ---- entering one of them

no_more : (k : ℕ) → padded k (no_run ∷ []) ≡ padded k []
unfolding padded
no_more zero = refl
no_more (suc k) = refl

-- where all are shorter than n, each goes one place down
pushed : (n : ℕ) (c : Run) (k : ℕ) (ds : List Run) → 1 ≤ n → All (λ d. d.count < n) ds → inserted_at n c (padded k ds) ≡ padded k (c ∷ ds)
unfolding padded inserted_at
pushed n c zero ds h a = refl
pushed n c (suc k) [] h a = rw (lt-ltb 0 n h) (ap (λ (x : List Run). c ∷ x) (pushed n no_run k [] h tt ∙ no_more k))
pushed n c (suc k) (d ∷ ds) h a = rw (lt-ltb d.count n a.0) (ap (λ (x : List Run). c ∷ x) (pushed n d k ds h a.1))

placed_behind : (c : Run) (k : ℕ) (ds : List Run) → 1 ≤ c.count → Descending ds → inserted_at c.count c (padded k ds) ≡ padded k (behind c ds)
unfolding padded inserted_at
placed_behind c zero ds h s = refl
placed_behind c (suc k) [] h s = rw (lt-ltb 0 c.count h) (ap (λ (x : List Run). c ∷ x) (pushed c.count no_run k [] h tt ∙ no_more k))
placed_behind c (suc k) (d ∷ ds) h s =
    by (leb c.count d.count)
    (λ q.
    let e : c.count ≤ d.count = leb-true _ _ q in
    rw (q, le-ltb d.count c.count e) (ap (λ (x : List Run). d ∷ x) (placed_behind c k ds h s.1)))
    (λ q.
    let e : d.count < c.count = leb-false _ _ q in
    rw (q, lt-ltb d.count c.count e)
    (ap (λ (x : List Run). c ∷ x) (pushed c.count d k ds h (All_map (λ f. f.count ≤ d.count) (λ f. f.count < c.count) (λ f x. omega arith) ds s.0))))

-- where none is shorter, none moves
stays : (n : ℕ) (c : Run) (ds : List Run) → All (λ d. n ≤ d.count) ds → inserted_at n c ds ≡ ds
unfolding inserted_at
stays n c [] a = refl
stays n c (d ∷ ds) a = rw (le-ltb d.count n a.0) (ap (λ (x : List Run). d ∷ x) (stays n c ds a.1))

-- the last is the shortest
as_long : (n k : ℕ) (ds : List Run) → Descending ds → n ≤ (get_or (padded (suc k) ds) k no_run).count → All (λ d. n ≤ d.count) (padded (suc k) ds)
unfolding padded
as_long n zero [] s h = (h, tt)
as_long n zero (d ∷ ds) s h = (h, tt)
as_long n (suc k) [] s h = let i = as_long n k [] tt h in (i.0, i)
as_long n (suc k) (d ∷ []) s h = let i = as_long n k [] tt h in (let j = i.0 in omega arith, i)
as_long n (suc k) (d ∷ e ∷ es) s h = let i = as_long n k (e ∷ es) s.1 h in (let j = i.0 in let l = s.0.0 in omega arith, i)

enter_one : (c : Run) (ds : List Run) → 1 ≤ c.count → Descending ds → entered c (padded 5 ds) ≡ padded 5 (behind c ds)
unfolding entered
enter_one c ds h s =
    by (ltb (get_or (padded 5 ds) 4 no_run).count c.count)
    (λ q. rw q (placed_behind c 5 ds h s))
    (λ q. rw q (sym (stays c.count c (padded 5 ds) (as_long c.count 4 ds s (ltb-false _ _ q))) ∙ placed_behind c 5 ds h s))

-- one that is no longer than the fifth changes nothing
pub no_longer : (c : Run) (five : List Run) → c.count ≤ (get_or five 4 no_run).count → entered c five ≡ five
unfolding entered
no_longer c five h = rw (le-ltb (get_or five 4 no_run).count c.count h)

-- ---- entering all

from_left : (u : ℕ) (cs rs : List Run) → five_after u (padded 5 (longest_first cs)) rs ≡ padded 5 (longest_first (cs ++ candidates u rs))
from_left u cs [] = ap (λ (x : List Run). padded 5 (longest_first x)) (sym (append-nil cs))
from_left u cs (r ∷ rs) =
    let c = whole_in u r in
    by (leb 1 c.count)
    (λ h.
    let k : 1 ≤ c.count = leb-true _ _ h in
    rw h
    (ap (λ (x : List Run). five_after u x rs) (enter_one c (longest_first cs) k (descending cs) ∙ ap (padded 5) (sym (longest_snoc c cs)))
    ∙ from_left u (cs ++ (c ∷ [])) rs ∙ ap (λ (x : List Run). padded 5 (longest_first x)) (append_assoc cs (c ∷ []) (candidates u rs))))
    (λ h.
    let k : c.count < 1 = leb-false _ _ h in
    rw h (ap (λ (x : List Run). five_after u x rs) (no_longer c (padded 5 (longest_first cs)) (omega arith)) ∙ from_left u cs rs))

pub five_law : (u : ℕ) (rs : List Run) → five_after u (padded 5 []) rs ≡ padded 5 (longest_first (candidates u rs))
five_law u rs = from_left u [] rs
