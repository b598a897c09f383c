-- The computed test `valid` and the conditions of `Valid` say the same. Assumes nothing.
use mathlib.Core.Path.{◌≡◌, refl, ap, subst}
use mathlib.Core.Bool.{Bool, true, not, cond, ◌&&◌}
use mathlib.Core.List.{List, [], ◌∷◌}
use Prim.Native.Nat.{ℕ, ◌+◌, ◌≤◌, ◌<◌}
use native.Mathlib.Nat.{lt_of_not-le}
use native.Mathlib.Omega.{arith}
use native.Mathlib.Decide.{dec_le}
use lib.ListN.{length}
use lib.Dec.{T, leb, ltb, eqb, leb→le, le→leb, ltb→lt, lt→ltb, eqb→eq}
use borrow.Author.Tests.{eq-eqb, ne_eqb, le-leb, lt-leb, leb-false, leb-true}
use Rattle.model.specs.Basics.{all, any, bit, up_from}
use Rattle.model.specs.Model.{Extent, Geometry, Label, Volume, fives_for, free, held, slots, tally, times, tracks, used}
use Rattle.model.proofs.Lists.{All_map, All_range, all→, and_l, and_r, both, by, false_is, is_false, is_true, range_All, true_is, →all}
use Rattle.model.specs.Predicates.{All}
use Rattle.rules.specs.Layout.{head_or0}
use Rattle.rules.specs.Table.{apart, ascending, chained, differ, formed, good_extent, good_label, good_name, good_type, good_unit, limits, named, valid}
use Rattle.rules.proofs.Keyed.{self_count}
use Rattle.rules.proofs.Labels.{any_unlike, unlike_any}
use Rattle.rules.specs.Predicates.{Ascending, Differ, GoodExtent, GoodLabel, Valid}
use Rattle.rules.proofs.Settle.{used_tally}

-- ---- a label

extent→ : (g : Geometry) (e : Extent) → T (good_extent g e) → GoodExtent g e
extent→ g e t =
    let a : T (good_type g.heads e.type_byte e.over) = search (and_l, and_r) in
    let b : T (leb 1 e.over.count) = search (and_l, and_r) in
    let c : T (leb (e.over.start + e.over.count) (tracks g)) = search (and_l, and_r) in
    record { typed = a; full = leb→le 1 _ b; ends = leb→le _ _ c }

→extent : (g : Geometry) (e : Extent) → GoodExtent g e → T (good_extent g e)
→extent g e x =
    let a : good_type g.heads e.type_byte e.over ≡ true = is_true x.typed in
    rw (a, le-leb 1 e.over.count x.full, le-leb (e.over.start + e.over.count) (tracks g) x.ends) tt

label→ : (g : Geometry) (l : Label) → T (good_label g l) → GoodLabel g l
unfolding good_label
label→ g l t =
    let a : T (leb 1 l.slot) = search (and_l, and_r) depth 12 in
    let b : T (eqb (length l.name) 44) = search (and_l, and_r) depth 12 in
    let c : T (good_name l.name) = search (and_l, and_r) depth 12 in
    let d : T (eqb (length l.attributes) 52) = search (and_l, and_r) depth 12 in
    let f : T (good_unit l.unit l.secondary) = search (and_l, and_r) depth 12 in
    let k : T (leb 1 (length l.extents)) = search (and_l, and_r) depth 12 in
    let m : T (leb (length l.extents) 16) = search (and_l, and_r) depth 12 in
    let n : T (all (good_extent g) l.extents) = search (and_l, and_r) depth 12 in
    let o : T (cond (leb (length l.extents) 3) (eqb l.slot3 0) (leb 1 l.slot3)) = search (and_l, and_r) depth 12 in
    record {
      slot = leb→le 1 _ a;
      name_length = eqb→eq _ 44 b;
      name = c;
      attributes_length = eqb→eq _ 52 d;
      unit = f;
      least = leb→le 1 _ k;
      most = leb→le _ 16 m;
      extents = All_map (λ e. T (good_extent g e)) (GoodExtent g) (extent→ g) l.extents (all→ (good_extent g) l.extents n);
      few = λ u. eqb→eq _ 0 (rw (le-leb _ _ u) at o);
      many = λ u. leb→le 1 _ (rw (lt-leb _ _ u) at o);
    }

→label : (g : Geometry) (l : Label) → GoodLabel g l → T (good_label g l)
unfolding good_label
→label g l x =
    let a : leb 1 l.slot ≡ true = le-leb _ _ x.slot in
    let b : eqb (length l.name) 44 ≡ true = eq-eqb _ _ x.name_length in
    let c : good_name l.name ≡ true = is_true x.name in
    let d : eqb (length l.attributes) 52 ≡ true = eq-eqb _ _ x.attributes_length in
    let f : good_unit l.unit l.secondary ≡ true = is_true x.unit in
    let k : leb 1 (length l.extents) ≡ true = le-leb _ _ x.least in
    let m : leb (length l.extents) 16 ≡ true = le-leb _ _ x.most in
    let n : all (good_extent g) l.extents ≡ true
    = is_true (→all (good_extent g) l.extents (All_map (GoodExtent g) (λ e. T (good_extent g e)) (→extent g) l.extents x.extents)) in
    let o : cond (leb (length l.extents) 3) (eqb l.slot3 0) (leb 1 l.slot3) ≡ true = third_test in
    rw (a, b, c, d, f, k, m, n, o) tt
  where
    third_test : cond (leb (length l.extents) 3) (eqb l.slot3 0) (leb 1 l.slot3) ≡ true
    third_test =
        by (leb (length l.extents) 3)
        (λ u. rw u (eq-eqb _ _ (x.few (leb-true _ _ u))))
        (λ u. rw u (le-leb _ _ (x.many (leb-false _ _ u))))

-- ---- the lists

ascending→ : (ls : List Label) → T (ascending ls) → Ascending ls
ascending→ [] t = tt
ascending→ (l ∷ ls) t = (
  All_map (λ m. T (ltb l.slot m.slot)) (λ m. l.slot < m.slot) (λ m x. ltb→lt _ _ x) ls (all→ (λ m. ltb l.slot m.slot) ls (and_l (all (λ m. ltb l.slot m.slot) ls) (ascending ls) t)),
  ascending→ ls (and_r (all (λ m. ltb l.slot m.slot) ls) (ascending ls) t),
)

→ascending : (ls : List Label) → Ascending ls → T (ascending ls)
→ascending [] a = tt
→ascending (l ∷ ls) a =
    both (all (λ m. ltb l.slot m.slot) ls) (ascending ls)
    (→all (λ m. ltb l.slot m.slot) ls (All_map (λ m. l.slot < m.slot) (λ m. T (ltb l.slot m.slot)) (λ m x. lt→ltb _ _ x) ls a.0))
    (→ascending ls a.1)

differ→ : (ls : List Label) → T (differ ls) → Differ ls
differ→ [] t = tt
differ→ (l ∷ ls) t = (
  unlike_any l.name ls (is_false (and_l (not (any (named l.name) ls)) (differ ls) t)),
  differ→ ls (and_r (not (any (named l.name) ls)) (differ ls) t),
)

pub →differ : (ls : List Label) → Differ ls → T (differ ls)
→differ [] d = tt
→differ (l ∷ ls) d = both (not (any (named l.name) ls)) (differ ls) (false_is (any_unlike l.name ls d.0)) (→differ ls d.1)

-- slots below n: by members, and by counting
in→ : (n : ℕ) (us : List ℕ) → All (λ k. k < n) us → (k : ℕ) → n ≤ k → tally k us ≡ 0
in→ n [] a k h = refl
in→ n (u ∷ us) a k h =
    let i = in→ n us a.1 k h in
    let w = a.0 in
    let b = ap bit (ne_eqb u k (omega arith)) in
    omega arith

pub →in : (n : ℕ) (us : List ℕ) → ((k : ℕ) → n ≤ k → tally k us ≡ 0) → All (λ k. k < n) us
→in n us h =
    All_map (λ k. 1 ≤ tally k us) (λ k. k < n)
    (λ k x. elim (dec_le n k) [ yes j ↦ absurd (omega (arith, h k j)) | no j ↦ lt_of_not-le j ])
    us (self_count (λ (k : ℕ). k) us)

-- ---- the slots of the chain

-- what holds of all members holds of a number that is one
member : (P : ℕ → Type 0) (ks : List ℕ) → All P ks → (k : ℕ) → 1 ≤ tally k ks → P k
member P [] a k h = absurd (omega arith)
member P (x ∷ ks) a k h = by (eqb x k) (λ e. subst P (eqb→eq x k (true_is e)) a.0) (λ e. member P ks a.1 k (let b = ap bit e in omega arith))

abbrev OwnSlot : Volume → ℕ → Type 0
OwnSlot v k = (tally k (used v.labels v.chain) ≡ 1) × (k < slots v.geometry)

own→ : (v : Volume) → T (all (λ k. eqb (tally k (used v.labels v.chain)) 1 && ltb k (slots v.geometry)) v.chain) → All (OwnSlot v) v.chain
own→ v t =
    All_map (λ k. T (test k)) (OwnSlot v)
    (λ k x. (eqb→eq (tally k us) 1 (and_l (eqb (tally k us) 1) (ltb k n) x), ltb→lt k n (and_r (eqb (tally k us) 1) (ltb k n) x)))
    v.chain (all→ test v.chain t)
  where
    us : List ℕ
    us = used v.labels v.chain

    n : ℕ
    n = slots v.geometry

    test : ℕ → Bool
    test k = eqb (tally k us) 1 && ltb k n

-- a slot is the chain's or a label's
split_used : (v : Volume) (k : ℕ) → tally k (used v.labels v.chain) ≡ tally k (used v.labels []) + tally k v.chain
split_used v k = let a = used_tally v.labels v.chain k in let b = used_tally v.labels [] k in omega arith

-- ---- the whole

pub test→ : (v : Volume) → T (valid v) → Valid v
unfolding valid
test→ v t =
    let g = v.geometry in
    let ls = v.labels in
    let us = used ls [] in
    let hs = held g ls in
    let a : T (limits g) = search (and_l, and_r) depth 12 in
    let b : T (eqb (head_or0 v.chain) 1) = search (and_l, and_r) depth 12 in
    let c : T (eqb (length v.chain) (fives_for (length (free g ls)))) = search (and_l, and_r) depth 12 in
    let d : T (all (λ k. leb (tally k us) 1) (up_from 0 (slots g))) = search (and_l, and_r) depth 12 in
    let e : T (all (λ k. ltb k (slots g)) us) = search (and_l, and_r) depth 12 in
    let f : T (ascending ls) = search (and_l, and_r) depth 12 in
    let i : T (all (good_label g) ls) = search (and_l, and_r) depth 12 in
    let j : T (differ ls) = search (and_l, and_r) depth 12 in
    let k : T (all (λ t. leb (times t hs) 1) (up_from 0 (tracks g))) = search (and_l, and_r) depth 12 in
    let o : T (all (λ k. eqb (tally k (used ls v.chain)) 1 && ltb k (slots g)) v.chain) = search (and_l, and_r) depth 12 in
    let own : All (OwnSlot v) v.chain = own→ v o in
    let label-in = in→ (slots g) us (All_map (λ k. T (ltb k (slots g))) (λ k. k < slots g) (λ k x. ltb→lt k (slots g) x) us (all→ (λ k. ltb k (slots g)) us e)) in
    let chain-in = in→ (slots g) v.chain (All_map (OwnSlot v) (λ k. k < slots g) (λ k x. x.1) v.chain own) in
    let inside : (k : ℕ) → slots g ≤ k → tally k (used ls v.chain) ≡ 0
    = λ k u. let x = split_used v k in let y = label-in k u in let z = chain-in k u in omega arith in
    record {
      limit = a;
      head = eqb→eq _ 1 b;
      long = eqb→eq _ _ c;
      slot_once = λ k. elim (dec_le 1 (tally k v.chain)) [
        | yes u ↦ (let x = (member (OwnSlot v) v.chain own k u).0 in omega arith)
        | no u ↦ elim (dec_le (slots g) k) [
          | yes w ↦ (let z = inside k w in omega arith)
          | no w ↦
              let z = leb→le (tally k us) 1 (All_range (λ k. T (leb (tally k us) 1)) 0 (slots g) (all→ (λ k. leb (tally k us) 1) (up_from 0 (slots g)) d) k (omega arith) (let w' = lt_of_not-le w in omega arith)) in
              let x = split_used v k in
              let u' = lt_of_not-le u in
              omega arith
        ]
      ];
      slot_in = inside;
      ascending = ascending→ ls f;
      good = All_map (λ l. T (good_label g l)) (GoodLabel g) (label→ g) ls (all→ (good_label g) ls i);
      differ = differ→ ls j;
      once = λ t u. leb→le (times t hs) 1 (All_range (λ t. T (leb (times t hs) 1)) 0 (tracks g) (all→ (λ t. leb (times t hs) 1) (up_from 0 (tracks g)) k) t (omega arith) (omega arith));
    }

module _ (v : Volume) (x : Valid v) where
  →formed : T (formed v.geometry v.labels)
  →formed =
      let g = v.geometry in
      let ls = v.labels in
      let us = used ls [] in
      let a : limits g ≡ true = is_true x.limit in
      let d : all (λ k. leb (tally k us) 1) (up_from 0 (slots g)) ≡ true
      = is_true (→all (λ k. leb (tally k us) 1) (up_from 0 (slots g)) (range_All (λ k. T (leb (tally k us) 1)) 0 (slots g) (λ k u w. le→leb (tally k us) 1 (let y = x.slot_once k in let z = split_used v k in omega arith)))) in
      let e : all (λ k. ltb k (slots g)) us ≡ true
      = is_true (→all (λ k. ltb k (slots g)) us (All_map (λ k. k < slots g) (λ k. T (ltb k (slots g))) (λ k y. lt→ltb k (slots g) y) us (→in (slots g) us (λ k u. let y = x.slot_in k u in let z = split_used v k in omega arith)))) in
      let f : ascending ls ≡ true = is_true (→ascending ls x.ascending) in
      let i : all (good_label g) ls ≡ true = is_true (→all (good_label g) ls (All_map (GoodLabel g) (λ l. T (good_label g l)) (→label g) ls x.good)) in
      let j : differ ls ≡ true = is_true (→differ ls x.differ) in
      rw (a, f, i, j, d, e) tt

  →apart : T (apart v.geometry v.labels)
  →apart =
      let hs = held v.geometry v.labels in
      →all (λ t. leb (times t hs) 1) (up_from 0 (tracks v.geometry)) (range_All (λ t. T (leb (times t hs) 1)) 0 (tracks v.geometry) (λ t u w. le→leb (times t hs) 1 (x.once t (omega arith))))

  →chained : T (chained v)
  →chained =
      let us = used v.labels v.chain in
      let n = slots v.geometry in
      let b : eqb (head_or0 v.chain) 1 ≡ true = eq-eqb _ _ x.head in
      let c : eqb (length v.chain) (fives_for (length (free v.geometry v.labels))) ≡ true = eq-eqb _ _ x.long in
      let o : all (λ k. eqb (tally k us) 1 && ltb k n) v.chain ≡ true
      = is_true (→all (λ k. eqb (tally k us) 1 && ltb k n) v.chain
      (All_map (λ k. 1 ≤ tally k v.chain) (λ k. T (eqb (tally k us) 1 && ltb k n)) (λ k y. own k y) v.chain (self_count (λ (k : ℕ). k) v.chain))) in
      rw (b, c, o) tt
    where
      own : (k : ℕ) → 1 ≤ tally k v.chain → T (eqb (tally k (used v.labels v.chain)) 1 && ltb k (slots v.geometry))
      own k y =
          let z = split_used v k in
          let u = x.slot_once k in
          let e : eqb (tally k (used v.labels v.chain)) 1 ≡ true = eq-eqb (tally k (used v.labels v.chain)) 1 (omega arith) in
          let w : k < slots v.geometry = elim (dec_le (slots v.geometry) k) [ yes j ↦ absurd (let q = x.slot_in k j in omega arith) | no j ↦ lt_of_not-le j ] in
          rw e (lt→ltb k (slots v.geometry) w)

  pub →test : T (valid v)
  unfolding valid
  →test =
      both (formed v.geometry v.labels && apart v.geometry v.labels) (chained v)
      (both (formed v.geometry v.labels) (apart v.geometry v.labels) →formed →apart) →chained
