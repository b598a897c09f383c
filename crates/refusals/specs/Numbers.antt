-- The numbers of the refusals, as documents and hosts know them. Assumes nothing.
use Rattle.std.specs.Prelude.{ℕ, Result, Ok, Err}
use Rattle.refusals.specs.declared.Refusal.{Refusal}
use Rattle.refusals.specs.declared.Refusal.TheVariants.{Amount, Date, Duplicate, Extents, Geometry, Length, Name, NoSecondary, NoSpace, NotFound, Ttr, Unexpired, Unsound, VtocFull}

abbrev pub number : Refusal → ℕ
number Geometry = 1
number Length = 2
number Unsound = 3
number Name = 4
number NotFound = 5
number Duplicate = 6
number Amount = 7
number NoSecondary = 8
number NoSpace = 9
number Extents = 10
number VtocFull = 11
number Ttr = 12
number Unexpired = 13
number Date = 14

-- what a call answers: 0, or the number of its refusal
abbrev pub number_of : {A : Type 0} → Result A Refusal → ℕ
number_of (Ok _) = 0
number_of (Err refusal) = number refusal
