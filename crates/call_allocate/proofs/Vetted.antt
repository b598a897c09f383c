-- A request that is vetted: the rule, as far as that goes. Assumes nothing.
use mathlib.Core.Path.{◌≡◌, sym, ap, ap₂, ◌∙◌, subst}
use mathlib.Core.Bool.{Bool, true, false, not}
use mathlib.Core.Option.{Option, some}
use mathlib.Core.List.{List}
use Prim.Native.Nat.{ℕ}
use lib.Dec.{T}
use Rattle.model.specs.Basics.{any}
use Rattle.model.specs.Choice.{SpaceOption}
use Rattle.model.specs.Model.{Geometry, slots}
use Rattle.rules.specs.Calls.{Amount, Outcome, Request, allocate_amount, allocate_by, amount_of, given, in_range, option_for, refuse, request}
use Rattle.rules.specs.Reading.{read}
use Rattle.rules.specs.Table.{named, taken}
use Rattle.names.specs.Find.{find_slot, is_nothing}
use Rattle.open_table.proofs.Lookup.{on_volume_is}
use Rattle.choose_pieces.specs.Options.{to_option}
use Rattle.refusals.proofs.Laws.{not_both, same_refusal, same_value}
use Rattle.refusals.specs.Numbers.{number}
use Rattle.refusals.specs.declared.Refusal.{Refusal}
use Rattle.refusals.specs.declared.Refusal.TheVariants as Refused
use Rattle.std.specs.Prelude.{Ok, Err}
use Rattle.request.specs.declared.Request.{Request as Asked}
use Rattle.request.specs.Request.{is_known, to_amount}
use Rattle.request.proofs.Laws.{unknown_asked}
use Rattle.grant_space.specs.Asking.{choice}
use Rattle.call_allocate.specs.Vetting.{VettedAs, Vets, rule_of}

-- refused with e
refuses : (t name : List ℕ) (kind start amount sec option : ℕ) (e : Refusal) → ((at x : List ℕ) → rule_of t name at kind start amount sec option x ≡ refuse (number e))
    → Vets t name kind start amount sec option (Err e)
refuses t name kind start amount sec option e h =
    record { refused = λ d p at x. h at x ∙ ap (λ (i : Refusal). refuse (number i)) (same_refusal p); vetted = λ q p. absurd (not_both (sym p)) }

module _ (t name : List ℕ) (kind start amount sec option : ℕ) where
  pub unknown : is_known kind option ≡ false → Vets t name kind start amount sec option (Err Refused.Amount)
  unknown h = refuses t name kind start amount sec option Refused.Amount (λ at e. unknown_asked kind start amount option (allocate_by (read t) (request name at kind start amount sec option e)) h)

  -- the request that the numbers tell
  module _ (q : Asked) (told : some (to_amount q.amount) ≡ amount_of kind start amount) (by-told : some (to_option q.option) ≡ option_for (to_amount q.amount) option)
      (same : q.secondary ≡ sec) where
    abbrev asked : (at expiry : List ℕ) → Request
    asked at e = request name at kind start amount q.secondary option e

    abbrev by_amount : (at expiry : List ℕ) → Outcome
    by_amount at e = allocate_by (read t) (asked at e) (to_amount q.amount) (to_option q.option)

    pub amount_is_lem : (at e : List ℕ) → rule_of t name at kind start amount sec option e ≡ by_amount at e
    amount_is_lem at e =
        ap₂ (λ (p : Option Amount) (k : ℕ). given p 7 (allocate_amount (read t) (request name at kind start amount k option e))) (sym told) (sym same)
        ∙ ap (λ (p : Option SpaceOption). given p 7 (allocate_by (read t) (asked at e) (to_amount q.amount))) (sym by-told)

    module _ (g : Geometry) (is_taken : T (taken t)) (geometry_is : g ≡ (read t).geometry) where
      range_is : in_range (read t).geometry q.secondary (to_amount q.amount) ≡ in_range g q.secondary (to_amount q.amount)
      range_is = ap (λ (y : Geometry). in_range y q.secondary (to_amount q.amount)) (sym geometry_is)

      rule_7 : (at e : List ℕ) → in_range g q.secondary (to_amount q.amount) ≡ false → by_amount at e ≡ refuse 7
      rule_7 at e h = rw (range_is, h)

      pub out_of_range : in_range g q.secondary (to_amount q.amount) ≡ false → Vets t name kind start amount sec option (Err Refused.Amount)
      out_of_range h = refuses t name kind start amount sec option Refused.Amount (λ at e. amount_is_lem at e ∙ rule_7 at e h)

      module _ (inside : in_range g q.secondary (to_amount q.amount) ≡ true) (there : Bool) (d : there ≡ not (is_nothing (find_slot t name (slots g)))) where
        any_so : any (named name) (read t).labels ≡ there
        any_so = on_volume_is t is_taken g geometry_is name there d

        rule_6 : (at e : List ℕ) → there ≡ true → by_amount at e ≡ refuse 6
        rule_6 at e p = rw (range_is, inside, any_so, p)

        pub duplicate : there ≡ true → Vets t name kind start amount sec option (Err Refused.Duplicate)
        duplicate p = refuses t name kind start amount sec option Refused.Duplicate (λ at e. amount_is_lem at e ∙ rule_6 at e p)

        pub vetted : there ≡ false → Vets t name kind start amount sec option (Ok q)
        vetted p =
            record {
              refused = λ e y. absurd (not_both y);
              vetted = λ r y.
                  subst (VettedAs t name kind start amount sec option) (same_value y)
                  (record { amount_told = told; option_told = by-told; same = same; ranges = range_is ∙ inside; new = any_so ∙ p });
            }

  -- ---- vetted: the rule goes on with the choice of pieces

  module _ {q : Asked} (x : VettedAs t name kind start amount sec option q) where
    goes_on : (at e : List ℕ) → by_amount q x.amount_told x.option_told x.same at e ≡ choice t name at (to_option q.option) (to_amount q.amount) q.secondary
    goes_on at e = let a = x.ranges in let b = x.new in rw (a, b)

    pub choice_is : (at e : List ℕ) → rule_of t name at kind start amount sec option e ≡ choice t name at (to_option q.option) (to_amount q.amount) q.secondary
    choice_is at e = amount_is_lem q x.amount_told x.option_told x.same at e ∙ goes_on at e
