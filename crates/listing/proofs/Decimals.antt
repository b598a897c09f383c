-- A number written digit by digit. Assumes nothing.
use mathlib.Core.Path.{◌≡◌, refl, sym, ap, ◌∙◌, subst}
use mathlib.Core.List.{List, [], ◌∷◌, ◌++◌, append_assoc, append-nil}
use Prim.Native.Nat.{ℕ, ◌+◌, ◌/◌, ◌%◌, ◌≤◌, ◌<◌}
use native.Mathlib.Omega.{arith}
use native.Mathlib.Nat.{lt_of_not-le}
use native.Mathlib.Decide.{dec_le}
use borrow.Author.Tests.{lt-ltb, le-ltb}
use lib.ListN.{length, take}
use lib.Seq.{take_all}
use Rattle.model.specs.Basics.{flat}
use Rattle.rules.specs.Listing.{decimal}
use Rattle.rows.specs.Text.{Written}
use Rattle.rows.proofs.Text.{then}
use Rattle.listing.specs.Text.{digit}

pub digit_none : (u v : ℕ) → v < u → digit u v ≡ []
unfolding digit
digit_none u v h = rw (lt-ltb v u h)

pub digit_one : (u v : ℕ) → u ≤ v → digit u v ≡ (0x30 + v / u % 10) ∷ []
unfolding digit
digit_one u v h = rw (le-ltb v u h)

-- five digits at most, those of the units that are not above v
pub digits : (v : ℕ) → v < 100000 → digit 10000 v ++ (digit 1000 v ++ (digit 100 v ++ (digit 10 v ++ ((0x30 + v % 10) ∷ [])))) ≡ decimal v
digits v h =
    let a : v / 10 / 10 ≡ v / 100 = omega arith in
    let b : v / 100 / 10 ≡ v / 1000 = omega arith in
    let d : v / 1000 / 10 ≡ v / 10000 = omega arith in
    rw (a, b, d)
    (elim (dec_le 10 v) [
      | no k ↦
          let x : v < 10 = lt_of_not-le k in
          rw (digit_none 10000 v (omega arith), digit_none 1000 v (omega arith), digit_none 100 v (omega arith), digit_none 10 v x, lt-ltb v 10 x)
      | yes k ↦ rw (digit_one 10 v k, le-ltb v 10 k)
          (elim (dec_le 100 v) [
            | no l ↦
                let x : v < 100 = lt_of_not-le l in
                rw (digit_none 10000 v (omega arith), digit_none 1000 v (omega arith), digit_none 100 v x, lt-ltb (v / 10) 10 (omega arith))
            | yes l ↦ rw (digit_one 100 v l, le-ltb (v / 10) 10 (omega arith))
                (elim (dec_le 1000 v) [
                  | no m ↦
                      let x : v < 1000 = lt_of_not-le m in
                      rw (digit_none 10000 v (omega arith), digit_none 1000 v x, lt-ltb (v / 100) 10 (omega arith))
                  | yes m ↦ rw (digit_one 1000 v m, le-ltb (v / 100) 10 (omega arith))
                      (elim (dec_le 10000 v) [
                        | no n ↦ let x : v < 10000 = lt_of_not-le n in rw (digit_none 10000 v x, lt-ltb (v / 1000) 10 (omega arith))
                        | yes n ↦ rw (digit_one 10000 v n, le-ltb (v / 1000) 10 (omega arith), lt-ltb (v / 10000) 10 (omega arith))
                      ])
                ])
          ])
    ])

-- the units of the digits that may be missing
abbrev pub units : List ℕ
units = 10000 ∷ 1000 ∷ 100 ∷ 10 ∷ []

-- the digits that count these units
abbrev pub digits_of : ℕ → List ℕ → List ℕ
digits_of v us = flat (λ u. digit u v) us

digits_append : (v : ℕ) (xs ys : List ℕ) → digits_of v (xs ++ ys) ≡ digits_of v xs ++ digits_of v ys
digits_append v [] ys = refl
digits_append v (x ∷ xs) ys = ap (λ (t : List ℕ). digit x v ++ t) (digits_append v xs ys) ∙ sym (append_assoc (digit x v) (digits_of v xs) (digits_of v ys))

pub all_digits : {i p r : ℕ} {o₀ o₁ o₂ : List ℕ} (v : ℕ) (us : List ℕ) (k : ℕ) → v < 100000 → us ≡ units → k ≤ length us → length us ≤ k
    → Written i (digits_of v (take k us)) k o₀ o₁ p → Written p ((0x30 + v % 10) ∷ []) 1 o₁ o₂ r → Written i (decimal v) 5 o₀ o₂ r
all_digits {i} {p} {r} {o₀} {o₁} {o₂} v us k h e l m a b =
    let q : length us ≡ 4 = ap length e in
    let n : k ≡ 4 = omega arith in
    let t : digits_of v (take k us) ≡ digits_of v units = ap (digits_of v) (take_all k us m ∙ e) in
    let d : digits_of v (take k us) ++ ((0x30 + v % 10) ∷ []) ≡ decimal v = ap (λ (x : List ℕ). x ++ ((0x30 + v % 10) ∷ [])) t ∙ regroup ∙ digits v h in
    let w : Written i (digits_of v (take k us) ++ ((0x30 + v % 10) ∷ [])) 5 o₀ o₂ r = subst (λ (m : ℕ). Written i (digits_of v (take k us) ++ ((0x30 + v % 10) ∷ [])) m o₀ o₂ r) (let s : k + 1 ≡ 5 = omega arith in s) (then a b) in
    subst (λ (x : List ℕ). Written i x 5 o₀ o₂ r) d w
  where
    regroup : digits_of v units ++ ((0x30 + v % 10) ∷ []) ≡ digit 10000 v ++ (digit 1000 v ++ (digit 100 v ++ (digit 10 v ++ ((0x30 + v % 10) ∷ []))))
    regroup = simp (append_assoc, append-nil)
