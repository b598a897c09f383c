-- Slots taken out of the map of free slots, lowest first, and given back. Assumes nothing.
use mathlib.Core.Path.{◌≡◌, refl, sym, ap, ap₂, ◌∙◌, subst, fun_ext}
use mathlib.Core.Bool.{Bool, true, false}
use mathlib.Core.Logic.{⊎_elim}
use mathlib.Core.List.{List, [], ◌∷◌, ◌++◌, append_assoc}
use Prim.Native.Nat.{ℕ, zero, suc, ◌+◌, ◌-◌, ◌≤◌, ◌<◌, min}
use native.Mathlib.Nat.{le_refl}
use native.Mathlib.Numerals.{add-one}
use native.Mathlib.Decide.{ℕ_discrete}
use native.Mathlib.Omega.{arith}
use borrow.Author.Tests.{eq-eqb, ne_eqb}
use lib.Dec.{eqb}
use borrow.Rule.Slice.PartMut.{put_mid}
use lib.ListN.{length, get_or, set, take, drop, length-append, length-drop, length-take, drop_of_length-le, take-append-drop}
use lib.Seq.{slice, take-suc, take-suc-set}
use Rattle.std.proofs.lemmas.Slice.{between-put_mid, take-put_mid_below}
use Rattle.model.specs.Basics.{bit, filter, keep_if, sum_of, up_from}
use Rattle.model.specs.Model.{run, tally, total, unused}
use Rattle.model.proofs.Lists.{drop_take, sum_append}
use Rattle.model.specs.Predicates.{All}
use Rattle.model.proofs.Runs.{Inside, hit_below, hit_in}
use Rattle.bitmap.specs.Map.{AllFree, Given, NextRun, Shows, Taken, free_bit, free_from}
use Rattle.bitmap.proofs.Bits.{le_or_lt}
use Rattle.bitmap.proofs.Held.{shows_give, taken_true}
use Rattle.bitmap.proofs.Walk.{free_from_end}
use Rattle.check_label.specs.Marks.{units}
use Rattle.check_label.proofs.Taking.{took_yes}
use Rattle.check_table.proofs.Scan.{unit_tally}
use Rattle.check_table.proofs.Unused.{count_unused, run_bits}
use Rattle.settle_slots.specs.Settling.{Gave, Lowest}

-- ---- slots in use, counted

pub shows_tally : (s : List ℕ) (n : ℕ) (us : List ℕ) → Shows s n (units us) → (k : ℕ) → k < n → free_bit s k + tally k us ≡ 1
shows_tally s n us h k u = let e = h k u in let t = unit_tally k us in omega arith

-- the order of the slots in use does not matter
pub shows_order : (s : List ℕ) (n : ℕ) (us vs : List ℕ) → ((k : ℕ) → tally k us ≡ tally k vs) → Shows s n (units us) → Shows s n (units vs)
shows_order s n us vs same h k u = let e = h k u in let a = unit_tally k us in let b = unit_tally k vs in let q = same k in omega arith

pub unused_order : (n : ℕ) (us vs : List ℕ) → ((k : ℕ) → tally k us ≡ tally k vs) → unused n us ≡ unused n vs
unfolding unused
unused_order n us vs same = ap (λ (f : ℕ → ℕ). filter (λ k. eqb (f k) 0) (up_from 0 n)) (fun_ext same)

pub tally_append : (k : ℕ) (xs ys : List ℕ) → tally k (xs ++ ys) ≡ tally k xs + tally k ys
tally_append k xs ys = sum_append (λ x. bit (eqb x k)) xs ys

-- the free slots of the map are the unused ones
pub count_law : (s : List ℕ) (n : ℕ) (us : List ℕ) → Shows s n (units us) → total (free_from s n 0) ≡ length (unused n us)
count_law s n us h = count_unused s n us (shows_tally s n us h)

pub counted : (s : List ℕ) (n at count : ℕ) → n ≤ at → at ≤ n → count ≤ at → count + total (free_from s n at) ≡ total (free_from s n 0)
    → (count ≡ total (free_from s n 0)) × (count ≤ n)
counted s n at count u v w e =
    let q : at ≡ n = omega arith in
    let z : total (free_from s n at) ≡ 0 = ap (λ (y : ℕ). total (free_from s n y)) q ∙ ap total (free_from_end s n) in
    (omega arith, omega arith)

-- ---- sums over the slots

pub sum_most : (F : ℕ → ℕ) (a n : ℕ) → ((k : ℕ) → k < a + n → F k ≤ 1) → sum_of F (up_from a n) ≤ n
sum_most F a zero h = le_refl 0
sum_most F a (suc n) h = let i = sum_most F (suc a) n (λ k u. h k (omega arith)) in let e = h a (omega arith) in omega arith

pub units_total : (ks : List ℕ) → total (units ks) ≡ length ks
units_total [] = refl
units_total (k ∷ ks) = let i = units_total ks in omega arith

pub units_inside : (n : ℕ) (ks : List ℕ) → All (λ k. k < n) ks → Inside n (units ks)
units_inside n [] a = tt
units_inside n (k ∷ ks) a = (omega (arith, a.0), units_inside n ks a.1)

-- ---- the lowest

filter_same : (p q : ℕ → Bool) (a n : ℕ) → ((k : ℕ) → a ≤ k → p k ≡ q k) → filter p (up_from a n) ≡ filter q (up_from a n)
filter_same p q a zero h = refl
filter_same p q a (suc n) h = ap₂ (λ (b : Bool) (xs : List ℕ). keep_if b a xs) (h a (le_refl a)) (filter_same p q (suc a) n (λ k u. h k (omega arith)))

-- j is the first that passes p; q is p but for j
filter_first : (p q : ℕ → Bool) (a n j : ℕ) → a ≤ j → j < a + n → ((k : ℕ) → k < j → p k ≡ false) → p j ≡ true → q j ≡ false → ((k : ℕ) → (k ≡ j → ⊥) → p k ≡ q k)
    → filter p (up_from a n) ≡ j ∷ filter q (up_from a n)
filter_first p q a zero j u w low here gone other = absurd (omega arith)
filter_first p q a (suc n) j u w low here gone other =
    elim (ℕ_discrete a j) [
      | yes e ↦ rw (ap p e ∙ here, ap q e ∙ gone) (ap₂ (λ (x : ℕ) (xs : List ℕ). x ∷ xs) e (filter_same p q (suc a) n (λ k v. other k (omega arith))))
      | no e ↦
          let z : p a ≡ false = low a (omega arith) in
          rw (z, sym (other a e) ∙ z) (filter_first p q (suc a) n j (omega arith) (omega arith) low here gone other)
    ]

module _ {n : ℕ} {s : List ℕ} {a b : ℕ} (x : NextRun s n 0 a b) where
  pub lowest_none : n ≤ a → Lowest n s s (n ∷ [])
  lowest_none w =
      record {
        long = refl;
        lowest = λ us h l. absurd (few us h l);
        shown = λ us h l. absurd (few us h l);
      }
    where
      few : (us : List ℕ) → Shows s n (units us) → 1 ≤ length (unused n us) → ⊥
      few us h l = let c = count_law s n us h in let z : total (free_from s n 0) ≡ 0 = ap total (x.done w) in omega arith

  module _ (u : a < n) where
    low_bits : (k : ℕ) → k < a → free_bit s k ≡ 0
    low_bits k v = let l = x.low in let z = hit_below (run a (b - a)) k v in run_bits x k (omega arith) (omega arith) ∙ z

    free_bit_lem : free_bit s a ≡ 1
    free_bit_lem = let m = (x.more u).0 in run_bits x a (omega arith) m ∙ hit_in (run a (b - a)) a (le_refl a) (omega arith)

    all_free_lem : AllFree s a (a + 1)
    all_free_lem k v w = let q : a ≡ k = omega arith in subst (λ (j : ℕ). free_bit s j ≡ 1) q free_bit_lem

    unused_first : (us : List ℕ) → Shows s n (units us) → unused n us ≡ a ∷ unused n (a ∷ us)
    unfolding unused
    unused_first us h =
        let here : tally a us ≡ 0 = let e = shows_tally s n us h a u in let f = free_bit_lem in omega arith in
        let self : bit (eqb a a) ≡ 1 = ap bit (eq-eqb a a refl) in
        filter_first (λ k. eqb (tally k us) 0) (λ k. eqb (tally k (a ∷ us)) 0) 0 n a (omega arith) (omega arith)
        (λ k v. ne_eqb (tally k us) 0 (let e = shows_tally s n us h k (omega arith) in let f = low_bits k v in omega arith))
        (eq-eqb (tally a us) 0 here)
        (ne_eqb (tally a (a ∷ us)) 0 (omega arith))
        (λ k v.
        let z = ap bit (ne_eqb a k (λ q. v (sym q))) in
        let e : tally k us ≡ tally k (a ∷ us) = omega arith in
        ap (λ (y : ℕ). eqb y 0) e)

    pub lowest_one : (s' : List ℕ) (r : Bool) → Taken s s' a (a + 1) r → Lowest n s s' (a ∷ [])
    lowest_one s' r t =
        record {
          long = t.long;
          lowest = λ us h l. unused_first us h;
          shown = λ us h l. took_yes n a 1 s s' r t (taken_true s s' a (a + 1) r all_free_lem t) (units us) h;
        }

-- no slot is asked for
pub lowest_nil : (n : ℕ) (s : List ℕ) → Lowest n s s []
lowest_nil n s = record { long = refl; lowest = λ us h l. refl; shown = λ us h l. h }

-- one list after the other
module _ (n : ℕ) (s s₁ s₂ ks js : List ℕ) (x : Lowest n s s₁ ks) (y : Lowest n s₁ s₂ js) where
  order : (us : List ℕ) (k : ℕ) → tally k (js ++ (ks ++ us)) ≡ tally k ((ks ++ js) ++ us)
  order us k =
      let a = tally_append k js (ks ++ us) in
      let b = tally_append k ks us in
      let c = tally_append k (ks ++ js) us in
      let d = tally_append k ks js in
      omega arith

  module _ (us : List ℕ) (h : Shows s n (units us)) (l : length (ks ++ js) ≤ length (unused n us)) where
    enough : length ks ≤ length (unused n us)
    enough = let a = length-append ks js in omega arith

    first : unused n us ≡ ks ++ unused n (ks ++ us)
    first = x.lowest us h enough

    more : length js ≤ length (unused n (ks ++ us))
    more = let a = length-append ks js in let b = ap length first ∙ length-append ks (unused n (ks ++ us)) in omega arith

    both_lowest : unused n us ≡ (ks ++ js) ++ unused n ((ks ++ js) ++ us)
    both_lowest =
        first ∙ ap (λ (z : List ℕ). ks ++ z) (y.lowest (ks ++ us) (x.shown us h enough) more)
        ∙ ap (λ (z : List ℕ). ks ++ (js ++ z)) (unused_order n (js ++ (ks ++ us)) ((ks ++ js) ++ us) (order us))
        ∙ sym (append_assoc ks js (unused n ((ks ++ js) ++ us)))

    both_shown : Shows s₂ n (units ((ks ++ js) ++ us))
    both_shown = shows_order s₂ n (js ++ (ks ++ us)) ((ks ++ js) ++ us) (order us) (y.shown (ks ++ us) (x.shown us h enough) more)

  pub lowest_then : Lowest n s s₂ (ks ++ js)
  lowest_then = record { long = y.long ∙ x.long; lowest = both_lowest; shown = both_shown }

-- ---- places of a list, filled

-- the places from a up to b of the list c have been filled with the lowest free slots; what stands before them stays
pub record Filled (n : ℕ) (s s' c c' : List ℕ) (a b : ℕ) : Type 0 where
  pub long : length c' ≡ length c
  pub took : Lowest n s s' (slice a b c')
  pub first : take a c' ≡ take a c
  pub none : b ≤ a → c' ≡ c

-- `&mut c[a..]`, a part as long as it is from a up to b, was lent and is back as p, filled
pub filled : (n : ℕ) (s s' c p : List ℕ) (a b k : ℕ) → k ≡ b - a → a + k ≤ length c → length p ≡ k → Lowest n s s' p → Filled n s s' c (put_mid a k c p) a b
filled n s s' c p a b k e room many x =
    record {
      long = let i = length-append (take a c) (p ++ drop k (drop a c)) in
          let j = length-append p (drop k (drop a c)) in
          omega (arith, length-take a c, length-drop k (drop a c), length-drop a c);
      took = subst (Lowest n s s') (sym (drop_take a b (put_mid a k c p) ∙ between-put_mid a k c p b (omega arith) (omega arith))) x;
      first = take-put_mid_below a k c p a (omega arith) (omega arith);
      none = λ u.
          let z : k ≡ 0 = omega arith in
          ap₂ (λ (q : List ℕ) (i : ℕ). take a c ++ (q ++ drop i (drop a c))) (none_of p (omega arith)) z ∙ take-append-drop a c;
    }
  where
    none_of : (q : List ℕ) → length q ≡ 0 → q ≡ []
    none_of [] h = refl
    none_of (y ∷ q) h = absurd (omega arith)

-- a turn of `take_slots`
pub lowest_next : (n : ℕ) (s s₁ s₂ c : List ℕ) (i r : ℕ) → i < length c → Lowest n s s₁ (take i c) → Lowest n s₁ s₂ (r ∷ []) → Lowest n s s₂ (take (i + 1) (set c i r))
lowest_next n s s₁ s₂ c i r w x y =
    subst (Lowest n s s₂) (sym (ap (λ (m : ℕ). take m (set c i r)) (add-one i) ∙ take-suc-set c i r w)) (lowest_then n s s₁ s₂ (take i c) (r ∷ []) x y)

-- ---- given back

-- no slot is given back
pub gave_nil : (s : List ℕ) → Gave s s []
gave_nil s = record { long = refl; shown = λ n us h. h }

pub gave_one : (s s' : List ℕ) (k : ℕ) → Given s s' k (k + 1) → Gave s s' (k ∷ [])
gave_one s s' k d = record { long = d.long; shown = λ n us h. shows_give s s' n k 1 (units (k ∷ us)) (units us) (λ t u. refl) h d }

pub gave_then : (s s₁ s₂ ks js : List ℕ) → Gave s s₁ ks → Gave s₁ s₂ js → Gave s s₂ (ks ++ js)
gave_then s s₁ s₂ ks js x y =
    record {
      long = y.long ∙ x.long;
      shown = λ n us h. y.shown n us (x.shown n (js ++ us) (subst (λ (z : List ℕ). Shows s n (units z)) (append_assoc ks js us) h));
    }

-- a turn of `give_slots`
pub gave_next : (s s₁ s₂ c : List ℕ) (i : ℕ) → i < length c → Gave s s₁ (take i c) → Given s₁ s₂ (get_or c i 0) (get_or c i 0 + 1) → Gave s s₂ (take (i + 1) c)
gave_next s s₁ s₂ c i w x d =
    subst (Gave s s₂) (sym (ap (λ (m : ℕ). take m c) (add-one i) ∙ take-suc c i 0 w))
    (gave_then s s₁ s₂ (take i c) (get_or c i 0 ∷ []) x (gave_one s₁ s₂ (get_or c i 0) d))

-- the end of a chain that is not needed, as a part of its list
pub end_part : (c : List ℕ) (was need j : ℕ) → j ≡ min was need → take (was - j) (drop j c) ≡ slice need was c
end_part c was need j e =
    sym (drop_take j was c)
    ∙ ⊎_elim
    (λ h. let q : j ≡ need = omega arith in ap (λ (i : ℕ). drop i (take was c)) q)
    (λ h.
    let l = length-take was c in
    drop_of_length-le (take was c) {i = j} (omega arith) ∙ sym (drop_of_length-le (take was c) {i = need} (omega arith)))
    (le_or_lt need was)
