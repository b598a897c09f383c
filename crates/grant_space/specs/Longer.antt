-- A data set that is found and is to be extended. Assumes nothing.
use Rattle.std.specs.Prelude.{◌≡◌, cond, ℕ, ◌*◌, ◌≤◌, List, [], T, eqb, get_or, length}
use Rattle.std.specs.Prelude.{Result, Ok, Err}
use Rattle.refusals.specs.Numbers.{number}
use Rattle.refusals.specs.declared.Refusal.{Refusal}
use Rattle.request.specs.declared.Request.{Request as Asked}
use Rattle.choose_pieces.specs.Options.{to_option}
use Rattle.model.specs.Choice.{no_option}
use Rattle.request.specs.Request.{to_amount}
use Rattle.model.specs.Basics.{get3}
use Rattle.model.specs.Model.{Geometry, tracks}
use Rattle.rules.specs.Calls.{extend_set, in_cylinders, in_tracks, on_copy}
use Rattle.rules.specs.Entries.{lent, result_of, written}
use Rattle.rules.specs.Reading.{read}
use Rattle.rules.specs.Table.{taken}
use Rattle.check_table.specs.Check.{Shown}
use Rattle.open_table.specs.Opening.{FoundAt}

-- it is in slot k; m and s are the maps of free tracks and of free slots, a is the answer before the call
pub record Longer (t m s a : List ℕ) (g : Geometry) (k : ℕ) : Type 0 where
  pub name : List ℕ
  pub is_taken : T (taken t)
  pub geometry_is : g ≡ (read t).geometry
  pub shown : Shown (read t) m s
  pub map_fits : tracks g ≤ 64 * length m
  pub long_slots : length s ≡ 8
  pub long_answer : length a ≡ 24
  pub there : FoundAt t (read t) name k

-- the result, the table and the answer are those of the rule
abbrev pub Extended : {t m s a : List ℕ} {g : Geometry} {k : ℕ} → Longer t m s a g k → (r : ℕ) (t' a' : List ℕ) → Type 0
Extended {t = t} {a = a} d r t' a' =
    result_of r (lent t' a' []) ≡ written (lent t a []) (extend_set (read t) d.name d.there.label)

-- the same on a copy
abbrev pub ExtendForeseen : {t m s a : List ℕ} {g : Geometry} {k : ℕ} → Longer t m s a g k → (r : ℕ) (a' : List ℕ) → Type 0
ExtendForeseen {t = t} {a = a} d r a' =
    result_of r (lent t a' []) ≡ written (lent t a []) (on_copy (read t) (extend_set (read t) d.name d.there.label))

-- what a format 1 says of the secondary amount: refused with 8 where it is 0, else the amount, in the unit of the set and without an option
pub record AsksMore (f1 : List ℕ) (r : Result Asked Refusal) : Type 0 where
  pub none : (e : Refusal) → r ≡ Err e → (number e ≡ 8) × (get3 f1 95 ≡ 0)
  pub some : (q : Asked) → r ≡ Ok q → 1 ≤ get3 f1 95
  pub option_is : (q : Asked) → r ≡ Ok q → to_option q.option ≡ no_option
  pub amount_is : (q : Asked) → r ≡ Ok q → to_amount q.amount ≡ cond (eqb (get_or f1 94 0) 0xC0) (in_cylinders (get3 f1 95)) (in_tracks (get3 f1 95))
