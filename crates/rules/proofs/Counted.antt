-- How many slots are unused: all but those used. Assumes nothing.
use mathlib.Core.Path.{◌≡◌, refl, ap, ◌∙◌}
use mathlib.Core.Bool.{Bool}
use mathlib.Core.List.{List, [], ◌∷◌}
use Prim.Native.Nat.{ℕ, zero, suc, ◌+◌, ◌≤◌, ◌<◌}
use native.Mathlib.Nat.{lt_of_not-le}
use native.Mathlib.Decide.{ℕ_discrete, dec_le}
use native.Mathlib.Omega.{arith}
use lib.ListN.{length, length-append}
use lib.Dec.{eqb}
use borrow.Author.Tests.{eq-eqb, ne_eqb}
use Rattle.model.specs.Basics.{bit, filter, flat, sum_of, up_from}
use Rattle.model.specs.Model.{Label, slots_of, tally, unused, used}
use Rattle.model.proofs.Lists.{by, length_up_from}
use Rattle.model.specs.Predicates.{All}
use Rattle.rules.proofs.Keyed.{sum_both}

filter_length : {A : Type 0} (p : A → Bool) (xs : List A) → length (filter p xs) ≡ sum_of (λ x. bit (p x)) xs
filter_length p [] = refl
filter_length p (x ∷ xs) = let i = filter_length p xs in by (p x) (λ h. rw h (omega arith)) (λ h. rw h (omega arith))

-- ---- each number of a range is met once, by itself

none_below : (x a n : ℕ) → x < a → sum_of (λ k. bit (eqb x k)) (up_from a n) ≡ 0
none_below x a zero h = refl
none_below x a (suc n) h = let i = none_below x (suc a) n (omega arith) in let e = ap bit (ne_eqb x a (omega arith)) in omega arith

one_in : (x a n : ℕ) → a ≤ x → x < a + n → sum_of (λ k. bit (eqb x k)) (up_from a n) ≡ 1
one_in x a zero h u = absurd (omega arith)
one_in x a (suc n) h u =
    elim (ℕ_discrete x a) [
      | yes q ↦ let e = ap bit (eq-eqb x a q) in let z = none_below x (suc a) n (omega arith) in omega arith
      | no q ↦ let e = ap bit (ne_eqb x a q) in let i = one_in x (suc a) n (omega (arith, q)) (omega arith) in omega arith
    ]

-- so the numbers of us, all below n, are counted one by one
tally_range : (n : ℕ) (us : List ℕ) → All (λ u. u < n) us → sum_of (λ k. tally k us) (up_from 0 n) ≡ length us
tally_range n [] a = zeroes (up_from 0 n)
  where
    zeroes : (ks : List ℕ) → sum_of (λ k. 0) ks ≡ 0
    zeroes [] = refl
    zeroes (k ∷ ks) = let i = zeroes ks in omega arith
tally_range n (u ∷ us) a =
    let i = tally_range n us a.1 in
    let o = one_in u 0 n (omega arith) (omega (arith, a.0)) in
    let s = sum_both (λ k. bit (eqb u k)) (λ k. tally k us) (up_from 0 n) in
    omega arith

in_range_lem : (n : ℕ) (us : List ℕ) → ((k : ℕ) → n ≤ k → tally k us ≡ 0) → All (λ u. u < n) us
in_range_lem n [] h = tt
in_range_lem n (u ∷ us) h =
    let e = ap bit (eq-eqb u u refl) in (
      elim (dec_le n u) [ no k ↦ lt_of_not-le k | yes k ↦ absurd (let x = h u k in omega arith) ],
      in_range_lem n us (λ k q. let x = h k q in omega arith),
    )

-- each number is unused or used once
each_one : (us ks : List ℕ) → ((k : ℕ) → tally k us ≤ 1)
    → sum_of (λ k. bit (eqb (tally k us) 0)) ks + sum_of (λ k. tally k us) ks ≡ length ks
each_one us [] h = refl
each_one us (k ∷ ks) h =
    let i = each_one us ks h in
    let x = h k in
    elim (ℕ_discrete (tally k us) 0) [
      | yes q ↦ let e = ap bit (eq-eqb (tally k us) 0 q) in omega arith
      | no q ↦ let e = ap bit (ne_eqb (tally k us) 0 q) in omega (arith, q)
    ]

pub unused_length : (n : ℕ) (us : List ℕ) → ((k : ℕ) → tally k us ≤ 1) → ((k : ℕ) → n ≤ k → tally k us ≡ 0)
    → length (unused n us) + length us ≡ n
unfolding unused
unused_length n us once inside =
    let a = filter_length (λ k. eqb (tally k us) 0) (up_from 0 n) in
    let b = tally_range n us (in_range_lem n us inside) in
    let c = each_one us (up_from 0 n) once in
    let d = length_up_from 0 n in
    omega arith

-- ---- the used ones: the format 4, the chain, and the labels' own

abbrev pub slots_in : List Label → ℕ
slots_in ls = sum_of (λ l. length (slots_of l)) ls

flat_length : (ls : List Label) → length (flat slots_of ls) ≡ slots_in ls
flat_length [] = refl
flat_length (l ∷ ls) = length-append (slots_of l) (flat slots_of ls) ∙ (let i = flat_length ls in omega arith)

pub used_length : (ls : List Label) (chain : List ℕ) → length (used ls chain) ≡ 1 + (length chain + slots_in ls)
unfolding used
used_length ls chain = let a = length-append chain (flat slots_of ls) in let b = flat_length ls in omega arith
