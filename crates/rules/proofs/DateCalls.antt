-- The calls that convert dates look at no table and write none. Assumes nothing.
use mathlib.Core.Path.{◌≡◌, refl, sym, ap, ◌∙◌}
use mathlib.Core.Bool.{Bool, true, false, ◌&&◌}
use mathlib.Core.Option.{Option, none, some}
use mathlib.Core.List.{List, []}
use Prim.Native.Nat.{ℕ}
use lib.Dec.{eqb}
use lib.ListN.{length}
use Rattle.rules.specs.Calls.{DateCall, Outcome, accept, date_outcome, date_bytes, date_to_packed, date_to_stored, given, refuse, tell, unless}
use Rattle.rules.specs.Promises.{ConvertsDate}
use Rattle.rules.specs.Dates.{to_packed, to_stored}
use Rattle.rules.specs.Entries.{Lent, Result, convert_date, date_lengths, lent, result_of, date_due, written}

-- a refusal, or a date told
abbrev pub Told : Outcome → Type 0
Told (refuse n) = Unit {0}
Told (accept r w) = ⊥
Told (tell r) = (bs : List ℕ) × (r ≡ date_bytes bs)

told_given : (o : Option (List ℕ)) → Told (given o 14 (λ bs. tell (date_bytes bs)))
told_given none = tt
told_given (some bs) = (bs, refl)

told_unless : (b : Bool) (o : Outcome) → Told o → Told (unless b 2 o)
told_unless true o h = h
told_unless false o h = tt

told : (c : DateCall) → Told (date_outcome c)
told (date_to_stored p) = told_given (to_stored p)
told (date_to_packed s) = told_given (to_packed s)

pub due_told : (c : DateCall) (answer : ℕ) → Told (date_due c answer)
due_told c answer = told_unless (eqb answer 24 && date_lengths c) (date_outcome c) (told c)

-- what is told is the same whatever table and labels stand beside it, and these stay
written_told : (o : Outcome) → Told o → (t a x : List ℕ) → written (lent t a x) o ≡ result_of (written (lent [] a []) o).number (lent t (written (lent [] a []) o).after.answer x)
written_told (refuse n) h t a x = refl
written_told (accept r w) h t a x = absurd h
written_told (tell r) h t a x = rw h.1

pub table_stays : (o : Outcome) → Told o → (b : Lent) → (written b o).after.table ≡ b.table
table_stays (refuse n) h b = refl
table_stays (accept r w) h b = absurd h
table_stays (tell r) h b = refl

-- WHAT AN ENTRY POINT ENSURES holds beside any table and labels, which it is not lent: so it is a deed of demand 3
pub beside_any_table : (c : DateCall) (a : List ℕ) (r : ℕ) (a' : List ℕ) → ConvertsDate c [] a [] r [] a' [] → (t x : List ℕ) → ConvertsDate c t a x r t a' x
unfolding convert_date
beside_any_table c a r a' e t x =
    ap (λ (p : Result). result_of p.number (lent t p.after.answer x)) e ∙ sym (written_told (date_due c (length a)) (due_told c (length a)) t a x)
