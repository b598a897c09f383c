-- The extents of a data set and pieces behind them, document 02, [6]: the pieces follow, or the first of them lengthens the last
-- extent. `joined_cases` tells which; whatever adds up over tracks is the same in both. Assumes nothing.
use mathlib.Core.Path.{◌≡◌, refl, sym, ap, ap₂, ◌∙◌, subst}
use mathlib.Core.Bool.{true, ◌&&◌}
use mathlib.Core.List.{List, [], ◌∷◌, ◌++◌, append_assoc, append-nil}
use Prim.Native.Nat.{ℕ, zero, suc, ◌+◌, ◌-◌, ◌%◌, ◌≤◌}
use native.Mathlib.Nat.{add-mod, add-zero, lt_of_not-le, zero-add, zero-mod}
use native.Mathlib.Decide.{dec_le}
use native.Mathlib.Omega.{arith}
use borrow.Author.Tests.{eq-eqb, eqb-true}
use lib.Dec.{T, eqb, eqb→eq}
use lib.ListN.{length, length-append}
use Rattle.model.specs.Basics.{bit, flat, sum_of, up_from}
use Rattle.model.specs.Model.{Extent, Geometry, Run, covers, overs, run, times, total}
use Rattle.model.specs.Predicates.{All}
use Rattle.model.specs.Tracks.{tracks_of}
use Rattle.model.proofs.Lists.{All_append, All_left, All_right, and_l, and_r, by, clash, is_true, length_up_from, sum_append}
use Rattle.model.proofs.Runs.{hit_above, hit_below, hit_in}
use Rattle.rules.specs.Calls.{joined, lengthened, track_after}
use Rattle.rules.specs.Joining.{AsBefore, CountAfterJoining, LastLengthened, LastOfList, SameTracks, TypeOfBoth, touches}
use Rattle.rules.specs.Predicates.{GoodExtent}
use Rattle.rules.specs.Table.{good_type}
use Rattle.rules.proofs.Cut.{whole_extent}

-- ---- the cases

-- the last of the extents es is lengthened by the first piece
pub record Touching (es ps : List Extent) : Type 0 where
  pub front : List Extent
  pub last : Extent
  pub first : Extent
  pub rest : List Extent
  pub extents_are : es ≡ front ++ last ∷ []
  pub pieces_are : ps ≡ first ∷ rest
  pub behind : first.over.start ≡ track_after last
  pub joined_is : joined es ps ≡ front ++ lengthened last first ∷ rest

pub data Cases (es ps : List Extent) : Type 0 where
  apart : joined es ps ≡ es ++ ps → Cases es ps
  touching : Touching es ps → Cases es ps

behind_one : (e : Extent) (es ps : List Extent) → Touching es ps → joined (e ∷ es) ps ≡ e ∷ joined es ps → Touching (e ∷ es) ps
behind_one e es ps x q =
    record {
      front = e ∷ x.front;
      last = x.last;
      first = x.first;
      rest = x.rest;
      extents_are = ap (λ (y : List Extent). e ∷ y) x.extents_are;
      pieces_are = x.pieces_are;
      behind = x.behind;
      joined_is = q ∙ ap (λ (y : List Extent). e ∷ y) x.joined_is;
    }

pub touching_is : (es : List Extent) (p : Extent) (ps : List Extent) → touches es p.over.start ≡ true → Touching es (p ∷ ps)
touching_is [] p ps h = clash h refl
touching_is (e ∷ []) p ps h =
    record { front = []; last = e; first = p; rest = ps; extents_are = refl; pieces_are = refl; behind = eqb-true _ _ h; joined_is = rw h }
touching_is (e ∷ f ∷ es) p ps h = behind_one e (f ∷ es) (p ∷ ps) (touching_is (f ∷ es) p ps h) refl

pub as_before : AsBefore
as_before [] p ps h = refl
as_before (e ∷ []) p ps h = rw h
as_before (e ∷ f ∷ es) p ps h = ap (λ (y : List Extent). e ∷ y) (as_before (f ∷ es) p ps h)

pub last_lengthened : LastLengthened
last_lengthened [] e p ps q = rw (eq-eqb p.over.start (track_after e) q)
last_lengthened (f ∷ []) e p ps q = ap (λ (y : List Extent). f ∷ y) (last_lengthened [] e p ps q)
last_lengthened (f ∷ d ∷ es) e p ps q = ap (λ (y : List Extent). f ∷ y) (last_lengthened (d ∷ es) e p ps q)

joined_none : (es : List Extent) → joined es [] ≡ es ++ []
joined_none [] = refl
joined_none (e ∷ []) = refl
joined_none (e ∷ f ∷ es) = ap (λ (y : List Extent). e ∷ y) (joined_none (f ∷ es))

pub joined_cases : (es ps : List Extent) → Cases es ps
joined_cases es [] = apart (joined_none es)
joined_cases es (p ∷ ps) = by (touches es p.over.start) (λ h. touching (touching_is es p ps h)) (λ h. apart (as_before es p ps h))

-- ---- what adds up

pub over_append : (xs ys : List Extent) → overs (xs ++ ys) ≡ overs xs ++ overs ys
over_append [] ys = refl
over_append (x ∷ xs) ys = ap (λ (z : List Run). x.over ∷ z) (over_append xs ys)

sum_both : (F : Run → ℕ) (xs ys : List Extent) → sum_of F (overs (xs ++ ys)) ≡ sum_of F (overs xs) + sum_of F (overs ys)
sum_both F xs ys = ap (sum_of F) (over_append xs ys) ∙ sum_append F (overs xs) (overs ys)

module _ (F : Run → ℕ) (adds : (a m n : ℕ) → F (run a (m + n)) ≡ F (run a m) + F (run (a + m) n)) where
  abbrev sum : List Extent → ℕ
  sum xs = sum_of F (overs xs)

  cases_sum : (es ps : List Extent) → Cases es ps → sum (joined es ps) ≡ sum es + sum ps
  cases_sum es ps (apart q) = ap sum q ∙ sum_both F es ps
  cases_sum es ps (touching x) =
      let a = ap sum x.extents_are in
      let b = sum_both F x.front (x.last ∷ []) in
      let c = ap sum x.pieces_are in
      let d = ap sum x.joined_is in
      let e = sum_both F x.front (lengthened x.last x.first ∷ x.rest) in
      let f = adds x.last.over.start x.last.over.count x.first.over.count in
      let i : F (run (track_after x.last) x.first.over.count) ≡ F x.first.over = ap (λ (s : ℕ). F (run s x.first.over.count)) (sym x.behind) in
      omega arith

  pub joined_sum : (es ps : List Extent) → sum (joined es ps) ≡ sum es + sum ps
  joined_sum es ps = cases_sum es ps (joined_cases es ps)

-- two runs that touch cover what the long one covers
two_covers : (a m n t : ℕ) → bit (covers (run a (m + n)) t) ≡ bit (covers (run a m) t) + bit (covers (run (a + m) n) t)
two_covers a m n t =
    elim (dec_le a t) [
      | no k ↦
          let j = lt_of_not-le k in
          let x = hit_below (run a (m + n)) t j in
          let y = hit_below (run a m) t j in
          let z = hit_below (run (a + m) n) t (omega arith) in
          omega arith
      | yes k ↦ elim (dec_le (a + m) t) [
        | no j ↦
            let i = lt_of_not-le j in
            let x = hit_in (run a (m + n)) t k (omega arith) in
            let y = hit_in (run a m) t k i in
            let z = hit_below (run (a + m) n) t i in
            omega arith
        | yes j ↦ let y = hit_above (run a m) t j in elim (dec_le (a + m + n) t) [
          | no i ↦
              let x = hit_in (run a (m + n)) t k (let w = lt_of_not-le i in omega arith) in
              let z = hit_in (run (a + m) n) t j (lt_of_not-le i) in
              omega arith
          | yes i ↦ let x = hit_above (run a (m + n)) t (omega arith) in let z = hit_above (run (a + m) n) t i in omega arith
        ]
      ]
    ]

pub joined_times : (t : ℕ) (es ps : List Extent) → times t (overs (joined es ps)) ≡ times t (overs es) + times t (overs ps)
joined_times t es ps = joined_sum (λ r. bit (covers r t)) (λ a m n. two_covers a m n t) es ps

pub joined_total : (es ps : List Extent) → total (overs (joined es ps)) ≡ total (overs es) + total (overs ps)
joined_total es ps = joined_sum (λ r. r.count) (λ a m n. refl) es ps

-- ---- the list of tracks

flat_append : {A B : Type 0} (f : A → List B) (xs ys : List A) → flat f (xs ++ ys) ≡ flat f xs ++ flat f ys
flat_append f [] ys = refl
flat_append f (x ∷ xs) ys = rw (flat_append f xs ys) (sym (append_assoc (f x) (flat f xs) (flat f ys)))

abbrev track_list : List Extent → List ℕ
track_list xs = tracks_of (overs xs)

tracks_both : (xs ys : List Extent) → track_list (xs ++ ys) ≡ track_list xs ++ track_list ys
tracks_both xs ys = ap tracks_of (over_append xs ys) ∙ flat_append (λ r. up_from r.start r.count) (overs xs) (overs ys)

split_up_from : (a m n : ℕ) → up_from a (m + n) ≡ up_from a m ++ up_from (a + m) n
split_up_from a zero n = rw (zero-add n, add-zero a)
split_up_from a (suc m) n =
    let e : suc m + n ≡ suc (m + n) = omega arith in
    let f : a + suc m ≡ suc a + m = omega arith in
    rw (e, f) (ap (λ (x : List ℕ). a ∷ x) (split_up_from (suc a) m n))

lengthened_tracks : (e p : Extent) (ps : List Extent) → p.over.start ≡ track_after e → track_list (lengthened e p ∷ ps) ≡ track_list (e ∷ []) ++ track_list (p ∷ ps)
lengthened_tracks e p ps q =
    let one : List ℕ = up_from e.over.start e.over.count in
    let two : List ℕ = up_from p.over.start p.over.count in
    let s : up_from e.over.start (e.over.count + p.over.count) ≡ one ++ two
    = split_up_from e.over.start e.over.count p.over.count ∙ ap (λ (a : ℕ). one ++ up_from a p.over.count) (sym q) in
    ap (λ (x : List ℕ). x ++ track_list ps) s ∙ append_assoc one two (track_list ps) ∙ ap (λ (x : List ℕ). x ++ (two ++ track_list ps)) (sym (append-nil one))

cases_tracks : (es ps : List Extent) → Cases es ps → track_list (joined es ps) ≡ track_list es ++ track_list ps
cases_tracks es ps (apart q) = ap track_list q ∙ tracks_both es ps
cases_tracks es ps (touching x) =
    ap track_list x.joined_is ∙ tracks_both x.front (lengthened x.last x.first ∷ x.rest)
    ∙ ap (λ (y : List ℕ). track_list x.front ++ y) (lengthened_tracks x.last x.first x.rest x.behind)
    ∙ sym (append_assoc (track_list x.front) (track_list (x.last ∷ [])) (track_list (x.first ∷ x.rest)))
    ∙ ap₂ (λ (y z : List ℕ). y ++ z) (sym (ap track_list x.extents_are ∙ tracks_both x.front (x.last ∷ []))) (sym (ap track_list x.pieces_are))

pub same_tracks : SameTracks
same_tracks es ps = cases_tracks es ps (joined_cases es ps)

-- ---- the last track of the list

last_eq : (xs : List ℕ) (x : ℕ) (ys : List ℕ) (y : ℕ) → xs ++ x ∷ [] ≡ ys ++ y ∷ [] → x ≡ y
last_eq [] x [] y e = cc
last_eq [] x (b ∷ ys) y e = absurd (let k = ap length e in let l = length-append ys (y ∷ []) in omega arith)
last_eq (a ∷ xs) x [] y e = absurd (let k = ap length e in let l = length-append xs (x ∷ []) in omega arith)
last_eq (a ∷ xs) x (b ∷ ys) y e = last_eq xs x ys y cc

some_tracks : (e : Extent) (es : List Extent) → 1 ≤ e.over.count → 1 ≤ length (track_list (e ∷ es))
some_tracks e es h =
    let a = length-append (up_from e.over.start e.over.count) (track_list es) in
    let b = length_up_from e.over.start e.over.count in
    omega arith

-- where more tracks follow, the last is theirs
drop_front : (xs ys : List ℕ) → 1 ≤ length ys → (ts : List ℕ) (t : ℕ) → xs ++ ys ≡ ts ++ t ∷ [] → (rest : List ℕ) × (ys ≡ rest ++ t ∷ [])
drop_front [] ys h ts t e = (ts, e)
drop_front (x ∷ xs) ys h [] t e = absurd (let k = ap length e in let l = length-append xs ys in omega arith)
drop_front (x ∷ xs) ys h (y ∷ ts) t e = drop_front xs ys h ts t cc

pub last_of_list : LastOfList
last_of_list [] a ts t e s = absurd (let k = ap length e in let l = length-append ts (t ∷ []) in omega arith)
last_of_list (e ∷ []) a ts t q s =
    let start = e.over.start in
    let before = e.over.count - 1 in
    let c : e.over.count ≡ before + 1 = omega (arith, a.0) in
    let x : track_list (e ∷ []) ≡ up_from start before ++ (start + before) ∷ []
    = append-nil (up_from start e.over.count) ∙ ap (up_from start) c ∙ split_up_from start before 1 in
    let y : start + before ≡ t = last_eq (up_from start before) (start + before) ts t (sym x ∙ q) in
    ap (eqb s) (omega (arith, a.0))
last_of_list (e ∷ f ∷ es) a ts t q s =
    let x = drop_front (up_from e.over.start e.over.count) (track_list (f ∷ es)) (some_tracks f es a.1.0) ts t q in
    last_of_list (f ∷ es) a.1 x.0 t x.1 s

-- ---- how many

pub count_after_joining : CountAfterJoining
count_after_joining es p ps =
    by (touches es p.over.start)
    (λ h.
    let x = touching_is es p ps h in
    let a = ap length x.extents_are in
    let b = length-append x.front (x.last ∷ []) in
    let c = ap length x.pieces_are in
    let d = ap length x.joined_is in
    let e = length-append x.front (lengthened x.last x.first ∷ x.rest) in
    rw h (omega arith))
    (λ h. let d = ap length (as_before es p ps h) in let e = length-append es (p ∷ ps) in rw h (omega arith))

pub joined_least : (es ps : List Extent) → length es ≤ length (joined es ps)
joined_least es ps = go (joined_cases es ps)
  where
    go : Cases es ps → length es ≤ length (joined es ps)
    go (apart q) = let a = ap length q in let b = length-append es ps in omega arith
    go (touching x) =
        let a = ap length x.extents_are in
        let b = length-append x.front (x.last ∷ []) in
        let d = ap length x.joined_is in
        let e = length-append x.front (lengthened x.last x.first ∷ x.rest) in
        omega arith

-- ---- good extents stay good

pub type_of_both : TypeOfBoth
type_of_both e p =
    by (eqb p.type_byte 0x81)
    (λ u. (λ t. (sym (rw u) ∙ t, eqb-true _ _ u), λ a b. rw u a))
    (λ u. (λ t. absurd (let k : 0x01 ≡ 0x81 = sym (rw u) ∙ t in omega arith), λ a b. clash (eq-eqb _ _ b) u))

add_mod_0 : (h a b : ℕ) → a % h ≡ 0 → b % h ≡ 0 → (a + b) % h ≡ 0
add_mod_0 h a b x y = add-mod a b h ∙ ap₂ (λ (m n : ℕ). (m + n) % h) x y ∙ zero-mod h

module _ (g : Geometry) where
  lengthened_typed : (e p : Extent) → GoodExtent g e → GoodExtent g p → T (good_type g.heads (lengthened e p).type_byte (lengthened e p).over)
  lengthened_typed e p a b =
      by (eqb p.type_byte 0x81)
      (λ u.
      by (eqb e.type_byte 0x01)
      (λ w. rw (u, w) tt)
      (λ w.
      let c : T (eqb e.type_byte 0x81) = let x : T (eqb e.type_byte 0x81 && eqb (e.over.start % g.heads) 0 && eqb (e.over.count % g.heads) 0) = rw w at a.typed in search (and_l, and_r) in
      let c' : eqb e.type_byte 0x81 ≡ true = is_true c in
      let x = whole_extent g e a (eqb→eq _ _ c) in
      let y = whole_extent g p b (eqb-true _ _ u) in
      let z = add_mod_0 g.heads e.over.count p.over.count x.1 y.1 in
      rw (u, w, c', eq-eqb (e.over.start % g.heads) 0 x.0, eq-eqb ((e.over.count + p.over.count) % g.heads) 0 z) tt))
      (λ u. rw u tt)

  lengthened_good : (e p : Extent) → p.over.start ≡ track_after e → GoodExtent g e → GoodExtent g p → GoodExtent g (lengthened e p)
  lengthened_good e p q a b = record { typed = lengthened_typed e p a b; full = omega (arith, a.full); ends = omega (arith, b.ends) }

  cases_good : (es ps : List Extent) → Cases es ps → All (GoodExtent g) es → All (GoodExtent g) ps → All (GoodExtent g) (joined es ps)
  cases_good es ps (apart q) a b = subst (All (GoodExtent g)) (sym q) (All_append (GoodExtent g) es ps a b)
  cases_good es ps (touching x) a b =
      let a' : All (GoodExtent g) (x.front ++ x.last ∷ []) = subst (All (GoodExtent g)) x.extents_are a in
      let b' : All (GoodExtent g) (x.first ∷ x.rest) = subst (All (GoodExtent g)) x.pieces_are b in
      let long = lengthened_good x.last x.first x.behind (All_right (GoodExtent g) x.front (x.last ∷ []) a').0 b'.0 in
      subst (All (GoodExtent g)) (sym x.joined_is)
      (All_append (GoodExtent g) x.front (lengthened x.last x.first ∷ x.rest) (All_left (GoodExtent g) x.front (x.last ∷ []) a') (long, b'.1))

  pub joined_good : (es ps : List Extent) → All (GoodExtent g) es → All (GoodExtent g) ps → All (GoodExtent g) (joined es ps)
  joined_good es ps a b = cases_good es ps (joined_cases es ps) a b
