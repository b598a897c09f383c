-- Document 02, [5]: what is promised of a data set with an expiry date. The statements; proofs/Expiry has their proofs. Assumes nothing.
use Rattle.std.specs.Prelude.{◌≡◌, ℕ, ◌&&◌, List, T, eqb, ltb}
use Rattle.std.proofs.Math.Option.{some}
use Rattle.model.specs.Basics.{part, zeros}
use Rattle.model.specs.Model.{Geometry, Label, Volume}
use Rattle.rules.specs.Calls.{Outcome, Reply, Request, accept, allocate, refuse, rule, scratch}
use Rattle.rules.specs.Dates.{Date, day_number, expiry_from, expiry_of, good_date, packed_form, with_expiry}
use Rattle.rules.specs.Entries.{call_lengths}
use Rattle.rules.specs.Full.{RefusedExactly}
use Rattle.rules.specs.Layout.{format1}
use Rattle.rules.specs.Predicates.{GoodLabel, Valid}
use Rattle.rules.specs.Slots.{found}

-- "Bytes 56–58 of a format 1 hold the expiry date"
abbrev pub InRecord : Type 0
InRecord = (g : Geometry) (l : Label) → GoodLabel g l → part 56 3 (format1 g l) ≡ expiry_of l.attributes

-- an allocate that is accepted, of q on volume v, and the volume w after it
pub record Accepts (v : Volume) (q : Request) (w : Volume) : Type 0 where
  pub valid : Valid v
  pub lengths : T (call_lengths (allocate q) 0)
  pub reply : Reply
  pub accepted : rule v (allocate q) ≡ accept reply w

-- then its data set has the attributes that were handed in, with the date in its place
pub record HasDate (q : Request) (w : Volume) : Type 0 where
  pub stored : List ℕ
  pub date : expiry_from q.expiry ≡ some stored
  pub label : Label
  pub there : found w q.name ≡ some label
  pub attributes : label.attributes ≡ with_expiry stored q.attributes

abbrev pub DateIsStored : Type 0
DateIsStored = (v : Volume) (q : Request) (w : Volume) → Accepts v q w → HasDate q w

-- what a scratch of it is told on day b
abbrev pub scratched_on : Date → (override : ℕ) → Request → Volume → Outcome
scratched_on b override q w = rule w (scratch q.name (packed_form b) override)

-- allocated until day a it is refused 13 exactly on the days before a, and without an override
abbrev pub KeptUntil : Type 0
KeptUntil =
    (v : Volume) (q : Request) (w : Volume) → Accepts v q w → (a b : Date) → T (good_date a) → T (good_date b) → q.expiry ≡ packed_form a
    → (override : ℕ) → RefusedExactly (scratched_on b override q w) 13 (ltb (day_number b) (day_number a) && eqb override 0)

-- allocated with none it is never refused 13
abbrev pub NeverKept : Type 0
NeverKept =
    (v : Volume) (q : Request) (w : Volume) → Accepts v q w → q.expiry ≡ zeros 4
    → (b : Date) → T (good_date b) → (override : ℕ) → scratched_on b override q w ≡ refuse 13 → ⊥
