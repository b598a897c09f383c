-- A request that is vetted: what refuses it before its pieces are chosen. Assumes nothing.
use Rattle.std.specs.Prelude.{◌≡◌, ℕ, true, false, List, Result, Ok, Err}
use Rattle.std.proofs.Math.Option.{some}
use Rattle.model.specs.Basics.{any}
use Rattle.rules.specs.Calls.{Outcome, allocate_stored, amount_of, in_range, option_for, refuse, request}
use Rattle.rules.specs.Reading.{read}
use Rattle.rules.specs.Table.{named}
use Rattle.choose_pieces.specs.Options.{to_option}
use Rattle.refusals.specs.Numbers.{number}
use Rattle.refusals.specs.declared.Refusal.{Refusal}
use Rattle.request.specs.declared.Request.{Request as Asked}
use Rattle.request.specs.Request.{to_amount}

-- what the rule says of a request on table t behind the checks of its name and its date, once the date stands among the attributes
abbrev pub rule_of : (t name at : List ℕ) (kind start amount secondary option : ℕ) (expiry : List ℕ) → Outcome
rule_of t name at kind start amount secondary option expiry = allocate_stored (read t) (request name at kind start amount secondary option expiry)

-- the numbers made the request q: kind and option are known, the numbers lie in their ranges and the name is new
pub record VettedAs (t name : List ℕ) (kind start amount secondary option : ℕ) (q : Asked) : Type 0 where
  pub amount_told : some (to_amount q.amount) ≡ amount_of kind start amount
  pub option_told : some (to_option q.option) ≡ option_for (to_amount q.amount) option
  pub same : q.secondary ≡ secondary
  pub ranges : in_range (read t).geometry q.secondary (to_amount q.amount) ≡ true
  pub new : any (named name) (read t).labels ≡ false

-- it is refused, whatever its attributes and its date are; or it is as the numbers tell
pub record Vets (t name : List ℕ) (kind start amount secondary option : ℕ) (r : Result Asked Refusal) : Type 0 where
  pub refused : (e : Refusal) → r ≡ Err e → (at expiry : List ℕ) → rule_of t name at kind start amount secondary option expiry ≡ refuse (number e)
  pub vetted : (q : Asked) → r ≡ Ok q → VettedAs t name kind start amount secondary option q
