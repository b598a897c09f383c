-- The change settled: what is refused and what is given is what the definition says. Assumes nothing.
use mathlib.Core.Path.{◌≡◌, refl, sym, ap, ap₂, ◌∙◌, subst}
use mathlib.Core.Option.{none, some}
use mathlib.Core.List.{List, [], ◌∷◌, ◌++◌, append_assoc}
use Prim.Native.Nat.{ℕ, zero, suc, ◌+◌, ◌-◌, ◌*◌, ◌≤◌, ◌<◌}
use native.Mathlib.Omega.{arith}
use borrow.Author.Tests.{le-leb, lt-leb}
use lib.Dec.{eqb}
use lib.ListN.{length, take, drop, length-append, length-take, take-append-drop}
use lib.Seq.{drop_at, length-slice, slice, take_all, take_at}
use Rattle.model.specs.Basics.{bit, sum_of, up_from}
use Rattle.model.specs.Model.{Geometry, Label, fives_for, free, slots, tally, times, total, unused, used}
use Rattle.model.proofs.Lists.{All_append, All_drop, All_filter, All_left, All_map, All_right, All_take, range_All, sum_take}
use Rattle.model.specs.Predicates.{All}
use Rattle.model.proofs.Runs.{runs_total, sum_add, times_total}
use Rattle.rules.specs.Slots.{settle}
use Rattle.rules.proofs.Settle.{used_tally}
use Rattle.bitmap.specs.Map.{Shows, free_bit, free_from, is_free}
use Rattle.bitmap.proofs.Counting.{bit_of}
use Rattle.bitmap.proofs.Walk.{free_from_zero}
use Rattle.check_label.specs.Marks.{units}
use Rattle.check_table.proofs.Scan.{unit_tally}
use Rattle.std.specs.Prelude.{Some, None}
use Rattle.settle_slots.specs.Settling.{Gave, Lacks, Lowest, Settles, SettlesIn}
use Rattle.settle_slots.proofs.Slots.{Filled, count_law, lowest_then, shows_order, shows_tally, sum_most, tally_append, units_inside, units_total}

-- ---- the balance of slots

-- a chain and the unused slots are no more than the slots
slots_balance : (s : List ℕ) (n : ℕ) (draft : List Label) (ks : List ℕ) → All (λ k. k < n) ks → Shows s n (units (used draft ks)) → length ks + length (unused n (used draft ks)) ≤ n
slots_balance s n draft ks a h =
    let F : ℕ → ℕ = λ k. bit (is_free s k) in
    let G : ℕ → ℕ = λ k. times k (units ks) in
    let e : total (free_from s n 0) ≡ sum_of F (up_from 0 n) = ap total (free_from_zero s n) ∙ runs_total (is_free s) 0 n in
    let c = count_law s n (used draft ks) h in
    let f = times_total n (units ks) (units_inside n ks a) in
    let u = units_total ks in
    let b = sum_add F G 0 n in
    let m = sum_most (λ k. F k + G k) 0 n (λ k v.
    let x = shows_tally s n (used draft ks) h k (omega arith) in
    let y = used_tally draft ks k in
    let z = unit_tally k ks in
    let w = bit_of s k in
    omega arith) in
    omega arith

-- ---- the definition, by cases

settle_none : (g : Geometry) (chain : List ℕ) (draft : List Label) (asked : ℕ) (finish : List ℕ → List Label) (need : ℕ) → need ≡ fives_for (length (free g draft))
    → length (unused (slots g) (used draft (take need chain))) < asked + (need - length (take need chain)) → settle g chain draft asked finish ≡ none
unfolding settle
settle_none g chain draft asked finish need e u = rw (← e, lt-leb (asked + (need - length (take need chain))) (length (unused (slots g) (used draft (take need chain)))) u)

settle_some : (g : Geometry) (chain : List ℕ) (draft : List Label) (asked : ℕ) (finish : List ℕ → List Label) (need : ℕ) → need ≡ fives_for (length (free g draft))
    → asked + (need - length (take need chain)) ≤ length (unused (slots g) (used draft (take need chain)))
    → (ks cs : List ℕ) → take asked (unused (slots g) (used draft (take need chain))) ≡ ks
    → take need chain ++ take (need - length (take need chain)) (drop asked (unused (slots g) (used draft (take need chain)))) ≡ cs
    → settle g chain draft asked finish ≡ some (record { geometry = g; labels = finish ks; chain = cs })
unfolding settle
settle_some g chain draft asked finish need e u ks cs p q =
    rw (← e, le-leb (asked + (need - length (take need chain))) (length (unused (slots g) (used draft (take need chain)))) u, p, q)

take_swap : (m n : ℕ) (l : List ℕ) → take m (take n l) ≡ take n (take m l)
take_swap zero zero l = refl
take_swap zero (suc n) l = refl
take_swap (suc m) zero l = refl
take_swap (suc m) (suc n) [] = refl
take_swap (suc m) (suc n) (x ∷ l) = ap (λ (y : List ℕ). x ∷ y) (take_swap m n l)

unused_below : (n : ℕ) (us : List ℕ) → All (λ k. k < n) (unused n us)
unfolding unused
unused_below n us = All_filter (λ k. k < n) (λ k. eqb (tally k us) 0) (up_from 0 n) (range_All (λ k. k < n) 0 n (λ k u v. omega arith))

-- ---- more format 5s than slots

module _ (g : Geometry) (s c : List ℕ) (was need asked : ℕ) (long : was ≤ length c) (low : All (λ k. k < slots g) (take was c)) where
  module _ (over : slots g < need) (draft : List Label) (h : Shows s (slots g) (units (used draft (take was c)))) where
    all_kept : take need (take was c) ≡ take was c
    all_kept = let b = slots_balance s (slots g) draft (take was c) low h in take_all need (take was c) (omega arith)

    too_few : length (unused (slots g) (used draft (take need (take was c)))) < asked + (need - length (take need (take was c)))
    too_few =
        let b = slots_balance s (slots g) draft (take was c) low h in
        subst (λ (ks : List ℕ). length (unused (slots g) (used draft ks)) < asked + (need - length ks)) (sym all_kept) (omega arith)

  pub settled_over : slots g < need → Lacks g s s c c was need asked
  settled_over over =
      record {
        long_map = refl;
        same_chain = refl;
        done = λ draft e h finish. settle_none g (take was c) draft asked finish need e (too_few over draft h);
      }

  -- ---- the chain's end given back

  module _ (s₁ : List ℕ) (back : Gave s s₁ (slice need was c)) where
    abbrev kept : List ℕ
    kept = take need (take was c)

    new_is : need - length kept ≡ need - was
    new_is = let a = length-take need (take was c) in let b = length-take was c in omega arith

    module _ (draft : List Label) (h : Shows s (slots g) (units (used draft (take was c)))) where
      order : (k : ℕ) → tally k (used draft (take was c)) ≡ tally k (slice need was c ++ used draft kept)
      order k =
          let a = used_tally draft (take was c) k in
          let b = used_tally draft kept k in
          let e = sum_take (λ x. bit (eqb x k)) need (take was c) in
          let f = tally_append k (slice need was c) (used draft kept) in
          omega arith

      kept_shown : Shows s₁ (slots g) (units (used draft kept))
      kept_shown = back.shown (slots g) (used draft kept) (shows_order s (slots g) (used draft (take was c)) (slice need was c ++ used draft kept) order h)

      count : total (free_from s₁ (slots g) 0) ≡ length (unused (slots g) (used draft kept))
      count = count_law s₁ (slots g) (used draft kept) kept_shown

    -- too few
    pub settled_full : total (free_from s₁ (slots g) 0) < asked + (need - was) → Lacks g s s₁ c c was need asked
    settled_full few =
        record {
          long_map = back.long;
          same_chain = refl;
          done = λ draft e h finish. settle_none g (take was c) draft asked finish need e (let n = count draft h in let m = new_is in omega arith);
        }

    -- enough: the slots asked for, and then those of the chain
    module _ (s₂ s₃ c' asks : List ℕ) (y : Lowest (slots g) s₁ s₂ asks) (asks_long : length asks ≡ asked) (z : Filled (slots g) s₂ s₃ c c' was need) (room : need ≤ length c)
        (most : need ≤ slots g) (enough : asked + (need - was) ≤ total (free_from s₁ (slots g) 0)) (few : total (free_from s₁ (slots g) 0) ≤ slots g) where
      abbrev adds : List ℕ
      adds = slice was need c'

      both : Lowest (slots g) s₁ s₃ (asks ++ adds)
      both = lowest_then (slots g) s₁ s₂ s₃ asks adds y z.took

      adds_long : length adds ≡ need - was
      adds_long = length-slice was need c' (omega (arith, z.long))

      chain_is : take need c' ≡ kept ++ adds
      chain_is = sym (take-append-drop was (take need c')) ∙ ap (λ (x : List ℕ). x ++ adds) (take_swap was need c' ∙ ap (take need) z.first)

      module _ (draft : List Label) (h : Shows s (slots g) (units (used draft (take was c)))) where
        abbrev empty : List ℕ
        empty = unused (slots g) (used draft kept)

        fits : length (asks ++ adds) ≤ length empty
        fits = let a = length-append asks adds in let b = asks_long in let e = adds_long in let f = count draft h in omega arith

        abbrev rest : List ℕ
        rest = unused (slots g) ((asks ++ adds) ++ used draft kept)

        split : empty ≡ asks ++ (adds ++ rest)
        split = both.lowest (used draft kept) (kept_shown draft h) fits ∙ append_assoc asks adds rest

        asks_is : take asked empty ≡ asks
        asks_is = ap (take asked) split ∙ take_at asks (adds ++ rest) asked asks_long

        adds_is : take (need - length kept) (drop asked empty) ≡ adds
        adds_is = ap (λ (x : List ℕ). take (need - length kept) (drop asked x)) split
            ∙ ap (take (need - length kept)) (drop_at asks (adds ++ rest) asked asks_long)
            ∙ take_at adds rest (need - length kept) (adds_long ∙ sym new_is)

        is_some : need ≡ fives_for (length (free g draft)) → (finish : List ℕ → List Label)
            → settle g (take was c) draft asked finish ≡ some (record { geometry = g; labels = finish asks; chain = take need c' })
        is_some e finish =
            settle_some g (take was c) draft asked finish need e (let n = count draft h in let m = new_is in omega arith) asks (take need c') asks_is
            (ap (λ (x : List ℕ). kept ++ x) adds_is ∙ sym chain_is)

        all_shown : (k : ℕ) → k < slots g → free_bit s₃ k + (tally k (used draft (take need c')) + tally k asks) ≡ 1
        all_shown k u =
            let x = shows_tally s₃ (slots g) ((asks ++ adds) ++ used draft kept) (both.shown (used draft kept) (kept_shown draft h) fits) k u in
            let a = tally_append k (asks ++ adds) (used draft kept) in
            let b = tally_append k asks adds in
            let e = used_tally draft kept k in
            let f = used_tally draft (take need c') k in
            let i = ap (tally k) chain_is ∙ tally_append k kept adds in
            omega arith

        new_inside : All (λ k. k < slots g) (asks ++ (adds ++ rest))
        new_inside = subst (All (λ k. k < slots g)) split (unused_below (slots g) (used draft kept))

        all_inside : All (λ k. k < slots g) (take need c')
        all_inside =
            subst (All (λ k. k < slots g)) (sym chain_is)
            (All_append (λ k. k < slots g) kept adds (All_take (λ k. k < slots g) need (take was c) low)
            (All_left (λ k. k < slots g) adds rest (All_right (λ k. k < slots g) asks (adds ++ rest) new_inside)))

        -- those that are neither asked for nor added
        rest_left : total (free_from s₁ (slots g) 0) - (asked + (need - was)) ≡ total (free_from s₃ (slots g) 0)
        rest_left =
            let a = count_law s₃ (slots g) ((asks ++ adds) ++ used draft kept) (both.shown (used draft kept) (kept_shown draft h) fits) in
            let b = count draft h in
            let e = ap length split in
            let f = length-append asks (adds ++ rest) in
            let i = length-append adds rest in
            let j = asks_long in
            let k = adds_long in
            omega arith

      pub settled_yes : Settles g s s₃ c c' asks was need asked (total (free_from s₁ (slots g) 0) - (asked + (need - was)))
      settled_yes =
          record {
            long_map = both.long ∙ back.long;
            long_chain = z.long;
            long_given = asks_long;
            tail = z.none;
            first = z.first;
            most = most;
            done = λ draft e h finish. is_some draft h e finish;
            shown = all_shown;
            inside = all_inside;
            inside_given = λ draft h. All_left (λ k. k < slots g) asks (adds ++ rest draft h) (new_inside draft h);
            left_most = omega arith;
            left_is = rest_left;
          }

-- ---- the same for any geometry of n slots: the returns of `settle`

pub give_low : (n m need was : ℕ) (c : List ℕ) → n ≤ 64 * m → All (λ k. k < n) (take was c) → All (λ k. k < 64 * m) (slice need was c)
give_low n m need was c h a = All_map (λ k. k < n) (λ k. k < 64 * m) (λ k u. omega arith) (slice need was c) (All_drop (λ k. k < n) need (take was c) a)

module _ (n : ℕ) (s c : List ℕ) (was need asked : ℕ) (long : was ≤ length c) (low : All (λ k. k < n) (take was c)) where
  low_in_lem : (g : Geometry) → slots g ≡ n → All (λ k. k < slots g) (take was c)
  low_in_lem g e = subst (λ (m : ℕ). All (λ k. k < m) (take was c)) (sym e) low

  pub over_in : (ks : List ℕ) → length ks ≡ asked → n < need → SettlesIn n s s c c ks was need asked None
  over_in ks many u g e = (settled_over g s c was need asked long (low_in_lem g e) (omega arith), many)

  module _ (s₁ : List ℕ) (back : Gave s s₁ (slice need was c)) where
    count_in : (g : Geometry) → slots g ≡ n → total (free_from s₁ (slots g) 0) ≡ total (free_from s₁ n 0)
    count_in g e = ap (λ (m : ℕ). total (free_from s₁ m 0)) e

    pub full_in : (ks : List ℕ) → length ks ≡ asked → total (free_from s₁ n 0) < asked + (need - was) → SettlesIn n s s₁ c c ks was need asked None
    full_in ks many u g e = (settled_full g s c was need asked long (low_in_lem g e) s₁ back (let q = count_in g e in omega arith), many)

    pub yes_in : (s₂ s₃ c' ks : List ℕ) → Lowest n s₁ s₂ ks → length ks ≡ asked → Filled n s₂ s₃ c c' was need → need ≤ length c → need ≤ n
        → (count more : ℕ) → count ≡ total (free_from s₁ n 0) → count ≤ n → more ≡ asked + (need - was) → more ≤ count
        → SettlesIn n s s₃ c c' ks was need asked (Some (count - more))
    yes_in s₂ s₃ c' ks y many z room most count more ec few em enough g e =
        let q = count_in g e in
        subst (λ (left : ℕ). Settles g s s₃ c c' ks was need asked left) (ap₂ (λ (i j : ℕ). i - j) (q ∙ sym ec) (sym em))
        (settled_yes g s c was need asked long (low_in_lem g e) s₁ back s₂ s₃ c' ks
        (subst (λ (m : ℕ). Lowest m s₁ s₂ ks) (sym e) y) many (subst (λ (m : ℕ). Filled m s₂ s₃ c c' was need) (sym e) z)
        room (omega arith) (omega arith) (omega arith))
