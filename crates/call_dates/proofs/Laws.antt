-- The conversions of dates as a whole, both in one: c converts to o, if that is a date. Assumes nothing.
use mathlib.Core.Path.{◌≡◌, refl, sym, ap, ap₂, ◌∙◌}
use mathlib.Core.Bool.{Bool, true, false, ◌&&◌}
use mathlib.Core.Option.{Option, none, some}
use mathlib.Core.List.{List, []}
use Prim.Native.Nat.{ℕ}
use borrow.Author.Tests.{eq-eqb, ne_eqb}
use lib.Dec.{eqb}
use lib.ListN.{length}
use Rattle.rules.specs.Calls.{DateCall, Outcome, answer, date_bytes, date_outcome, given, tell, unless}
use Rattle.rules.specs.Promises.{ConvertsDate}
use Rattle.rules.specs.Entries.{convert_date, date_lengths, lent, result_of, written}

module _ (c : DateCall) (o : Option (List ℕ)) (rules : date_outcome c ≡ given o 14 (λ bs. tell (date_bytes bs))) (a : List ℕ) where
  by_lengths : (long right : Bool) → eqb (length a) 24 ≡ long → date_lengths c ≡ right
      → convert_date c (lent [] a []) ≡ written (lent [] a []) (unless (long && right) 2 (given o 14 (λ bs. tell (date_bytes bs))))
  unfolding convert_date
  by_lengths long right l d =
      ap₂ (λ (b : Bool) (u : Outcome). written (lent [] a []) (unless b 2 u)) (ap₂ ◌&&◌ l d) rules

  pub answer_short : (length a ≡ 24 → ⊥) → ConvertsDate c [] a [] 2 [] a []
  answer_short h = sym (by_lengths false (date_lengths c) (ne_eqb (length a) 24 h) refl)

  module _ (l : length a ≡ 24) where
    pub date_short : date_lengths c ≡ false → ConvertsDate c [] a [] 2 [] a []
    date_short d = sym (by_lengths true false (eq-eqb (length a) 24 l) d)

    module _ (d : date_lengths c ≡ true) where
      pub no_date_lem : o ≡ none → ConvertsDate c [] a [] 14 [] a []
      no_date_lem n =
          sym (by_lengths true true (eq-eqb (length a) 24 l) d ∙ ap (λ (u : Option (List ℕ)). written (lent [] a []) (given u 14 (λ bs. tell (date_bytes bs)))) n)

      pub told : (bs : List ℕ) → o ≡ some bs → (a' : List ℕ) → a' ≡ answer (date_bytes bs) → ConvertsDate c [] a [] 0 [] a' []
      told bs n a' e =
          ap (λ (x : List ℕ). result_of 0 (lent [] x [])) e
          ∙ sym (by_lengths true true (eq-eqb (length a) 24 l) d ∙ ap (λ (u : Option (List ℕ)). written (lent [] a []) (given u 14 (λ bs. tell (date_bytes bs)))) n)
