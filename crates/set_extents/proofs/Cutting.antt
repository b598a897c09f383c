-- The first tracks of a data set, kept, and those behind them given back, extent by extent. Assumes nothing.
use mathlib.Core.Path.{◌≡◌, refl, sym, ap, ap₂, ◌∙◌, subst}
use mathlib.Core.Logic.{⊎_elim}
use mathlib.Core.List.{List, [], ◌∷◌, ◌++◌, append-nil}
use Prim.Native.Nat.{ℕ, zero, suc, ◌+◌, ◌-◌, ◌≤◌, ◌<◌, max, min}
use native.Mathlib.Decide.{dec_le}
use native.Mathlib.Nat.{lt_of_not-le, sub-zero}
use native.Mathlib.Numerals.{add-one}
use native.Mathlib.Omega.{arith}
use borrow.Author.Tests.{lt-leb, leb-true, leb-false}
use lib.Dec.{leb}
use lib.ListN.{length, take, drop, get_or, drop_of_length-le, length-take}
use lib.Seq.{drop-cons, length-take-le, take_all, take-suc}
use Rattle.model.specs.Basics.{bit, sum_of}
use Rattle.model.specs.Model.{Extent, Geometry, Label, Run, covers, extent, overs, run, times, total, tracks}
use Rattle.model.proofs.Lists.{All_at, by, sum_append}
use Rattle.model.specs.Predicates.{All}
use Rattle.model.proofs.Runs.{hit_above, hit_below}
use Rattle.rules.specs.Calls.{cut, cut_type, keep}
use Rattle.rules.specs.Layout.{extent_part}
use Rattle.rules.specs.Reading.{read_extent, read_extents, track_at}
use Rattle.rules.specs.Slots.{with_extents}
use Rattle.rules.specs.Predicates.{GoodExtent, Limits}
use Rattle.bitmap.specs.Map.{Given, Shows}
use Rattle.bitmap.proofs.Bits.{le_or_lt}
use Rattle.bitmap.proofs.Held.{covers_cut, shows_give}
use Rattle.dscb.proofs.Blocks.{no_extent}
use Rattle.dscb.proofs.Written.{read_at, read_length}
use Rattle.dscb_write.specs.Labels.{Format3, with_extent, first_extents}
use Rattle.dscb_write.proofs.Following.{keep_all, keep_part, keep_whole}
use Rattle.dscb_write.proofs.Format3.{three_none}
use Rattle.set_extents.specs.Change.{GaveTail, InRecords, NoneBelow, Spreads, Stays, part_of, shortened}

-- ---- the extents read

pub good_read : (g : Geometry) (f1 f3 : List ℕ) (n e : ℕ) → All (GoodExtent g) (read_extents g.heads f1 f3 n) → e < n → GoodExtent g (read_extent g.heads (extent_part f1 f3 e))
good_read g f1 f3 n e a u =
    subst (GoodExtent g) (read_at g f1 f3 n e u)
    (All_at (GoodExtent g) no_extent (read_extents g.heads f1 f3 n) a e (let l = read_length g f1 f3 n in omega arith))

-- the tracks that the ten bytes x name
pub tracks_in_lem : (h : ℕ) (x y : List ℕ) → x ≡ y → (s z : ℕ) → s ≡ track_at h x 2 → z ≡ track_at h x 6 → run s (z + 1 - s) ≡ (read_extent h y).over
tracks_in_lem h x y e s z a b =
    let p = a ∙ ap (λ (w : List ℕ). track_at h w 2) e in
    let q = b ∙ ap (λ (w : List ℕ). track_at h w 6) e in
    λ i. record { start = p i; count = q i + 1 - p i }

-- where the extent has tracks and ends on a volume, both numbers have 16 bits
pub ends_fit : (h : ℕ) (x y : List ℕ) → x ≡ y → 1 ≤ (read_extent h y).over.count → (read_extent h y).over.start + (read_extent h y).over.count ≤ 65535
    → (track_at h x 2 ≤ track_at h x 6) × (track_at h x 6 < 65535)
ends_fit h x y e u v =
    let p = ap (λ (w : List ℕ). track_at h w 2) e in
    let q = ap (λ (w : List ℕ). track_at h w 6) e in
    (omega arith, omega arith)

-- extent e has c tracks from s
pub record ExtentAt (g : Geometry) (es : List Extent) (e s c : ℕ) : Type 0 where
  pub inside : e < length es
  pub over : run s c ≡ (get_or es e no_extent).over
  pub full : 1 ≤ c
  pub ends : s + c ≤ tracks g

pub at_read : (g : Geometry) (f1 f3 : List ℕ) (n : ℕ) → All (GoodExtent g) (read_extents g.heads f1 f3 n) → (e s c : ℕ) → e < n
    → run s c ≡ (read_extent g.heads (extent_part f1 f3 e)).over → ExtentAt g (read_extents g.heads f1 f3 n) e s c
at_read g f1 f3 n a e s c u q =
    let x = good_read g f1 f3 n e a u in
    record {
      inside = let l = read_length g f1 f3 n in omega arith;
      over = q ∙ ap (λ (y : Extent). y.over) (sym (read_at g f1 f3 n e u));
      full = subst (λ (r : Run). 1 ≤ r.count) (sym q) x.full;
      ends = subst (λ (r : Run). r.start + r.count ≤ tracks g) (sym q) x.ends;
    }

pub tracks_within : (g : Geometry) (es : List Extent) (e s c : ℕ) → Limits g → ExtentAt g es e s c → c ≤ 65535
tracks_within g es e s c limit x = let a = x.ends in let b = limit.tracks_most in omega arith

-- ---- what stays

cut_is : (u m s b : ℕ) (e : Extent) → b ≡ cut_type u e → s ≡ e.over.start → cut u m e ≡ part_of b s m
cut_is u zero s b e p q = refl
cut_is u (suc m) s b e p q = ap₂ (λ (x y : ℕ). extent x (run y (suc m)) ∷ []) (sym p) (sym q)

abbrev pub Keeping : ℕ → ℕ → List Extent → ℕ → ℕ → Type 0
Keeping u k es e left = keep u k es ≡ take e es ++ keep u left (drop e es)

pub keeping_none : (u k : ℕ) (es : List Extent) → Keeping u k es 0 k
keeping_none u k es = refl

module _ (g : Geometry) (u k : ℕ) (es : List Extent) (e left s c : ℕ) (x : ExtentAt g es e s c) (before : Keeping u k es e left) where
  size : c ≡ (get_or es e no_extent).over.count
  size = ap (λ (r : Run). r.count) x.over

  pub keeping_next : c ≤ left → Keeping u k es (e + 1) (left - c)
  keeping_next h = before ∙ keep_whole u es e left no_extent x.inside (let z = size in omega arith) ∙ ap (λ (x : ℕ). take (e + 1) es ++ keep u (left - x) (drop (e + 1) es)) (sym size)

  pub stays_part : (b : ℕ) → b ≡ cut_type u (get_or es e no_extent) → left < c → Stays u k es (tracks g) e b s left
  stays_part b typed h =
      let i = x.inside in
      let w = x.ends in
      record {
        kept = before ∙ keep_part u es e left no_extent i (let z = size in omega arith) ∙ ap (λ (y : List Extent). take e es ++ y) (cut_is u left s b (get_or es e no_extent) typed (ap (λ (r : Run). r.start) x.over));
        most = omega arith;
        next = λ _. i;
        ends = omega arith;
      }

pub stays_whole : (u k : ℕ) (es : List Extent) (e left n b : ℕ) → length es ≤ e → Keeping u k es e left → (i : ℕ) → length es ≡ i → Stays u k es n i b 0 0
stays_whole u k es e left n b h before i q =
    record {
      kept = before ∙ keep_all u es e left h ∙ sym (append-nil (take i es) ∙ take_all i es (omega arith));
      most = omega arith;
      next = λ v. absurd (omega arith);
      ends = omega arith;
    }

-- ---- what is given back

overs_sum : (F : Run → ℕ) (xs ys : List Extent) → sum_of F (overs (xs ++ ys)) ≡ sum_of F (overs xs) + sum_of F (overs ys)
overs_sum F [] ys = omega arith
overs_sum F (x ∷ xs) ys = let i = overs_sum F xs ys in omega arith

-- none of the first e extents has a track below lo
lower_next : (g : Geometry) (es : List Extent) (e s c lo lo' : ℕ) → ExtentAt g es e s c → lo' ≡ min lo s → NoneBelow lo (overs (take e es)) → NoneBelow lo' (overs (take (e + 1) es))
lower_next g es e s c lo lo' x low before t v =
    let F : Run → ℕ = λ p. bit (covers p t) in
    let b = before t (omega arith) in
    let d = ap (λ (xs : List Extent). times t (overs xs)) (ap (λ (i : ℕ). take i es) (add-one e) ∙ take-suc es e no_extent x.inside) ∙ overs_sum F (take e es) (get_or es e no_extent ∷ []) in
    let f = ap F x.over in
    let z = hit_below (run s c) t (omega arith) in
    omega arith

-- the tracks of one extent more
sum_next : (g : Geometry) (es : List Extent) (e s c all : ℕ) → ExtentAt g es e s c → all ≡ total (overs (take e es)) → all + c ≡ total (overs (take (e + 1) es))
sum_next g es e s c all x before =
    let d = ap (λ (xs : List Extent). total (overs xs)) (ap (λ (i : ℕ). take i es) (add-one e) ∙ take-suc es e no_extent x.inside) ∙ overs_sum (λ r. r.count) (take e es) (get_or es e no_extent ∷ []) in
    let f = ap (λ (r : Run). r.count) x.over in
    omega arith

pub spread_none : (n low : ℕ) → low ≡ n → Spreads n [] 0 low
spread_none n low e = record { sum = refl; low_in = omega (arith, e); lowest = λ t u. refl }

pub spread_next : (g : Geometry) (es : List Extent) (e s c all low low' : ℕ) → ExtentAt g es e s c → low' ≡ min low s
    → Spreads (tracks g) (take e es) all low → Spreads (tracks g) (take (e + 1) es) (all + c) low'
spread_next g es e s c all low low' x q b = record {
  sum = sum_next g es e s c all x b.sum;
  low_in = let u = b.low_in in omega arith;
  lowest = lower_next g es e s c low low' x q b.lowest;
}

pub spread_all : (n : ℕ) (es : List Extent) (e all low : ℕ) → length es ≤ e → Spreads n (take e es) all low → Spreads n es all low
spread_all n es e all low h x = subst (λ (xs : List Extent). Spreads n xs all low) (take_all e es h) x

pub keep_zero : (u : ℕ) (es : List Extent) → All (λ e. 1 ≤ e.over.count) es → keep u 0 es ≡ []
keep_zero u [] a = refl
keep_zero u (e ∷ es) a = rw (lt-leb e.over.count 0 a.0)

-- the first k tracks of two lists of extents, one behind the other
keep_append : (u k t : ℕ) (xs ys : List Extent) → All (λ e. 1 ≤ e.over.count) ys
    → times t (overs (keep u k (xs ++ ys))) ≡ times t (overs (keep u k xs)) + times t (overs (keep u (k - total (overs xs)) ys))
keep_append u k t [] ys a = rw (sub-zero k) (omega arith)
keep_append u k t (x ∷ xs) ys a =
    by (leb x.over.count k)
    (λ h.
    let i = keep_append u (k - x.over.count) t xs ys a in
    let q : k - (x.over.count + total (overs xs)) ≡ k - x.over.count - total (overs xs) = omega arith in
    rw (h, q) (omega arith))
    (λ h.
    let v : k < x.over.count = leb-false _ _ h in
    let q : k - (x.over.count + total (overs xs)) ≡ 0 = omega arith in
    rw (h, q, keep_zero u ys a) (omega arith))

-- of one extent
keep_one : (u k t : ℕ) (e : Extent) → times t (overs (keep u k (e ∷ []))) ≡ bit (covers (run e.over.start (min k e.over.count)) t)
keep_one u k t e =
    by (leb e.over.count k)
    (λ h. let v : e.over.count ≤ k = leb-true _ _ h in let q : min k e.over.count ≡ e.over.count = omega arith in rw (h, q) (omega arith))
    (λ h. let v : k < e.over.count = leb-false _ _ h in let q : min k e.over.count ≡ k = omega arith in rw (h, q) (one_cut k t e))
  where
    one_cut : (k t : ℕ) (e : Extent) → times t (overs (cut u k e)) ≡ bit (covers (run e.over.start k) t)
    one_cut zero t e = sym (⊎_elim (λ h. hit_above (run e.over.start 0) t (omega arith)) (λ h. hit_below (run e.over.start 0) t h) (le_or_lt e.over.start t))
    one_cut (suc k) t e = omega arith

-- the first e extents have been cut
abbrev pub Giving : ℕ → List Extent → ℕ → List ℕ → List ℕ → Type 0
Giving k es e m₀ m = (u n : ℕ) (hs : List Run) → Shows m₀ n (overs es ++ hs) → Shows m n (overs (keep u k (take e es)) ++ (overs (drop e es) ++ hs))

pub giving_none : (k : ℕ) (es : List Extent) (m : List ℕ) → Giving k es 0 m m
giving_none k es m u n hs h = h

-- a turn: the first `stay` tracks of extent e stay, the others go
module _ (g : Geometry) (k : ℕ) (es : List Extent) (e left s c stay : ℕ) (a : ExtentAt g es e s c) (rest : left ≡ k - total (overs (take e es))) (w : stay ≡ min left c) where
  abbrev x : Extent
  x = get_or es e no_extent

  q : run s c ≡ x.over
  q = a.over

  snoc : take (e + 1) es ≡ take e es ++ x ∷ []
  snoc = ap (λ (i : ℕ). take i es) (add-one e) ∙ take-suc es e no_extent a.inside

  pub left_next : left - stay ≡ k - total (overs (take (e + 1) es))
  left_next =
      let b = ap (λ (y : List Extent). total (overs y)) snoc ∙ overs_sum (λ r. r.count) (take e es) (x ∷ []) in
      let d = ap (λ (r : Run). r.count) q in
      omega arith

  parted : (u t : ℕ) (hs : List Run)
      → times t (overs (keep u k (take e es)) ++ (overs (drop e es) ++ hs))
      ≡ times t (run (s + stay) (c - stay) ∷ (overs (keep u k (take (e + 1) es)) ++ (overs (drop (e + 1) es) ++ hs)))
  parted u t hs =
      let F : Run → ℕ = λ r. bit (covers r t) in
      let b1 = sum_append F (overs (keep u k (take e es))) (overs (drop e es) ++ hs) in
      let b2 = sum_append F (overs (drop e es)) hs in
      let b3 = sum_append F (overs (keep u k (take (e + 1) es))) (overs (drop (e + 1) es) ++ hs) in
      let b4 = sum_append F (overs (drop (e + 1) es)) hs in
      let d : times t (overs (drop e es)) ≡ F x.over + times t (overs (drop (e + 1) es)) =
      ap (λ (y : List Extent). times t (overs y)) (drop-cons es e no_extent a.inside ∙ ap (λ (i : ℕ). x ∷ drop i es) (sym (add-one e))) in
      let full : 1 ≤ x.over.count = subst (λ (r : Run). 1 ≤ r.count) q a.full in
      let f : times t (overs (keep u k (take (e + 1) es))) ≡ times t (overs (keep u k (take e es))) + times t (overs (keep u left (x ∷ []))) =
      ap (λ (y : List Extent). times t (overs (keep u k y))) snoc
      ∙ keep_append u k t (take e es) (x ∷ []) (full, tt)
      ∙ ap (λ (i : ℕ). times t (overs (keep u k (take e es))) + times t (overs (keep u i (x ∷ [])))) (sym rest) in
      let h : times t (overs (keep u left (x ∷ []))) ≡ F (run s stay) =
      keep_one u left t x ∙ ap (λ (r : Run). F (run r.start (min left r.count))) (sym q) ∙ ap (λ (i : ℕ). F (run s i)) (sym w) in
      let i = covers_cut s c stay t (omega arith) in
      let j = ap F q in
      omega arith

  pub giving_next : (m₀ m m' : List ℕ) → Given m m' (s + stay) (s + c) → Giving k es e m₀ m → Giving k es (e + 1) m₀ m'
  giving_next m₀ m m' d before u n hs h =
      let z : s + c ≡ s + stay + (c - stay) = omega arith in
      shows_give m m' n (s + stay) (c - stay) (overs (keep u k (take e es)) ++ (overs (drop e es) ++ hs))
      (overs (keep u k (take (e + 1) es)) ++ (overs (drop (e + 1) es) ++ hs)) (λ t v. parted u t hs) (before u n hs h)
      (subst (λ (y : ℕ). Given m m' (s + stay) y) z d)

pub gave_all : (k : ℕ) (es : List Extent) (e : ℕ) (m₀ m : List ℕ) → length m ≡ length m₀ → length es ≤ e → Giving k es e m₀ m → GaveTail k es m₀ m
gave_all k es e m₀ m long h b =
    record {
      long = long;
      held = λ u n hs y. rw (take_all e es h, drop_of_length-le es {i = e} h) at (b u n hs y);
    }

-- ---- the records of what stays

few_first : (n : ℕ) (l : Label) → n ≤ 3 → length (first_extents n l).extents ≤ 3
few_first n l h = let a = length-take n l.extents in omega arith

-- no extent stands in the format 3 then, whichever of the first three stay
pub three_first : (g : Geometry) (n : ℕ) (l : Label) (r : List ℕ) → n ≤ 3 → Format3 g (first_extents 3 l) r → Format3 g (first_extents n l) r
three_first g n l r h f = f ∙ sym (three_none g (first_extents 3 l) (few_first 3 l (omega arith))) ∙ three_none g (first_extents n l) (few_first n l h)

-- the format 3 of no fewer than three extents serves for fewer
pub three_kept : (g : Geometry) (n k : ℕ) (l : Label) (r : List ℕ) → k ≡ max n 3 → Format3 g (first_extents k l) r → Format3 g (first_extents n l) r
three_kept g n k l r e f =
    elim (dec_le n 3) [
      | yes h ↦ let q : k ≡ 3 = omega arith in three_first g n l r h (subst (λ (j : ℕ). Format3 g (first_extents j l) r) q f)
      | no h ↦ let p = lt_of_not-le h in let q : k ≡ n = omega arith in subst (λ (j : ℕ). Format3 g (first_extents j l) r) q f
    ]

pub first_length : (n : ℕ) (l : Label) → n ≤ length l.extents → length (first_extents n l).extents ≡ n
first_length n l h = length-take-le n l.extents h

whole_only : (n b s c : ℕ) (l : Label) → c ≡ 0 → first_extents n l ≡ shortened n b s c l
whole_only n b s c l z = ap (λ (x : List Extent). with_extents x l.ttr l) (sym (append-nil (take n l.extents))) ∙ ap (λ (i : ℕ). shortened n b s i l) (sym z)

pub without_part : {g : Geometry} {r1 r3 : List ℕ} (n b s c : ℕ) (l : Label) → c ≡ 0 → InRecords g (first_extents n l) r1 r3 → InRecords g (shortened n b s c l) r1 r3
without_part {g} {r1} {r3} n b s c l z x = subst (λ (y : Label). InRecords g y r1 r3) (whole_only n b s c l z) x

pub with_part : {g : Geometry} {r1 r3 : List ℕ} (n b s c : ℕ) (l : Label) → (c ≡ 0 → ⊥)
    → InRecords g (with_extent (extent b (run s c)) (first_extents n l)) r1 r3 → InRecords g (shortened n b s c l) r1 r3
with_part n b s zero l z x = absurd (z refl)
with_part n b s (suc c) l z x = x
