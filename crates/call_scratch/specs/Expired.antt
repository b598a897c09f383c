-- A scratch as far as it only reads: the table opened, today's date read, the data set found, its date compared. Assumes nothing.
use Rattle.std.specs.Prelude.{◌≡◌, ℕ, Bool, false, ◌&&◌, List, [], eqb, length, Result, Ok, Err}
use Rattle.std.proofs.Math.Option.{some}
use Rattle.check_table.specs.declared.Verdict.{Verdict}
use Rattle.open_table.specs.declared.SetOpening.{SetOpening}
use Rattle.refusals.specs.Numbers.{number}
use Rattle.refusals.specs.declared.Refusal.{Refusal}
use Rattle.rules.specs.Calls.{scratch}
use Rattle.rules.specs.Dates.{to_stored, unexpired}
use Rattle.rules.specs.Entries.{lent, perform, result_of}
use Rattle.rules.specs.Table.{good_name}
use Rattle.open_table.specs.Opening.{KnownAt, OpenedAs}

-- `ok` tells whether the buffers but the table have their lengths; a is the answer before the call
abbrev pub Lengths : (name today a : List ℕ) → Bool → Type 0
Lengths name today a ok = ok ≡ (eqb (length a) 24 && (eqb (length name) 44 && eqb (length today) 4))

-- NOTHING HAS REFUSED the scratch: the data set is where r tells, and its date lets it go; m and s are the maps
pub record MayGo (t name today : List ℕ) (override : ℕ) (ok : Bool) (m s : List ℕ) (r : SetOpening) : Type 0 where
  pub opening : Verdict
  pub opened : OpenedAs t ok (good_name name) opening
  pub known : KnownAt t name m s r
  pub stored : List ℕ
  pub date : to_stored today ≡ some stored
  pub expired : unexpired known.it.label.attributes stored override ≡ false

-- refused so, or not refused; with any answer of a length that `ok` was told of
pub record OpensExpired (t name today : List ℕ) (override : ℕ) (ok : Bool) (m s : List ℕ) (r : Result SetOpening Refusal) : Type 0 where
  pub refused : (e : Refusal) → r ≡ Err e → (a : List ℕ) → Lengths name today a ok
      → result_of (number e) (lent t a []) ≡ perform (lent t a []) (scratch name today override)
  pub goes : (x : SetOpening) → r ≡ Ok x → MayGo t name today override ok m s x
