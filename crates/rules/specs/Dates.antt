-- Dates, document 02, [5]: the calendar, the packed and the stored form, conversion both ways, and the expiry date of a data set.
-- Assumes nothing.
use Rattle.std.specs.Prelude.{ℕ, ◌+◌, ◌-◌, ◌*◌, ◌/◌, ◌%◌, ◌≡◌, Bool, true, false, not, cond, ◌&&◌, ◌||◌, List, [], ◌∷◌, ◌++◌, get_or, length, T, ltb, eqb}
use Rattle.std.proofs.Math.Option.{Option, none, some}
use Rattle.model.specs.Basics.{be2, bit, flat, get2, map_option, part, same, sum_of, up_from, within, zeros}

-- a year, and a day of it
pub record Date : Type 0 where
  pub year : ℕ
  pub day : ℕ

abbrev pub date : (year day : ℕ) → Date
date y d = record { year = y; day = d }

-- ---- the calendar

-- "leap years .. (1900 isn't one)": every fourth year; of those that end a century, every fourth
abbrev pub leap : ℕ → Bool
leap y = eqb (y % 4) 0 && (not (eqb (y % 100) 0) || eqb (y % 400) 0)

abbrev pub days_in : ℕ → ℕ
days_in y = 365 + bit (leap y)

-- "for 1900 to 2099, days from 1, day 366 in leap years only"
abbrev pub good_date : Date → Bool
good_date d = within 1900 2099 d.year && within 1 (days_in d.year) d.day

-- ---- the two forms

-- "Bytes 56–58 of a format 1 hold the expiry date as year less 1900 (1 byte) and day (2 bytes)"
abbrev pub stored_form : Date → List ℕ
stored_form d = (d.year - 1900) ∷ be2 d.day

-- "digits 0, C, Y, Y, D, D, D and sign F, a half byte each, with C 0 for 1900 and 1 for 2000"
abbrev pub half_bytes_of : Date → List ℕ
half_bytes_of d =
    let y : ℕ = d.year - 1900 in
    0 ∷ y / 100 ∷ y / 10 % 10 ∷ y % 10 ∷ d.day / 100 ∷ d.day / 10 % 10 ∷ d.day % 10 ∷ 0xF ∷ []

-- two half bytes in a byte, the first one higher
abbrev pub pack_halves : List ℕ → List ℕ
pack_halves [] = []
pack_halves (h ∷ []) = []
pack_halves (h ∷ l ∷ hs) = (h * 16 + l) ∷ pack_halves hs

abbrev pub packed_form : Date → List ℕ
packed_form d = pack_halves (half_bytes_of d)

-- ---- conversion, of any bytes

abbrev pub half_bytes_in : List ℕ → List ℕ
half_bytes_in bs = flat (λ b. b / 16 ∷ b % 16 ∷ []) bs

-- year and day as the bytes have them in their form, whether that is a date or not
abbrev pub from_packed : List ℕ → Date
from_packed p =
    let h : ℕ → ℕ = λ i. get_or (half_bytes_in p) i 0 in
    date (1900 + 100 * h 1 + 10 * h 2 + h 3) (100 * h 4 + 10 * h 5 + h 6)

abbrev pub from_stored : List ℕ → Date
from_stored s = date (1900 + get_or s 0 0) (get2 s 1)

-- d, if it is a date and its form is just these bytes; else 14: "not such a date in the form handed over, packed or stored"
abbrev pub date_in : (form : Date → List ℕ) → Date → List ℕ → Option Date
date_in form d bs = cond (good_date d && same (form d) bs) (some d) none

-- "conversion both ways"
unfoldable pub to_stored : (packed : List ℕ) → Option (List ℕ)
to_stored p = map_option stored_form (date_in packed_form (from_packed p) p)

unfoldable pub to_packed : (stored : List ℕ) → Option (List ℕ)
to_packed s = map_option packed_form (date_in stored_form (from_stored s) s)

-- ---- the expiry date of a data set

-- what allocate stores: "an expiry date .. or four zero bytes for none, stored as zeros"
unfoldable pub expiry_from : (expiry : List ℕ) → Option (List ℕ)
expiry_from e = cond (same e (zeros 4)) (some (zeros 3)) (to_stored e)

-- "which replaces attribute bytes 56–58": the first attribute is byte 45 of the format 1
unfoldable pub with_expiry : (stored attributes : List ℕ) → List ℕ
with_expiry s at = part 0 11 at ++ (s ++ part 14 38 at)

abbrev pub expiry_of : (attributes : List ℕ) → List ℕ
expiry_of at = part 11 3 at

-- "A stored date is later if its year byte is higher, or at equal years its day is": of any three bytes
abbrev pub later : (stored today : List ℕ) → Bool
later s t = ltb (get_or t 0 0) (get_or s 0 0) || (eqb (get_or s 0 0) (get_or t 0 0) && ltb (get2 t 1) (get2 s 1))

-- "13 unexpired, the stored date is later than today and no override was given"; "an override (0 is none, any other number is one)"
abbrev pub unexpired : (attributes today : List ℕ) (override : ℕ) → Bool
unexpired at today override = later (expiry_of at) today && eqb override 0

-- ---- what is promised of them; proofs/Dates has the proofs

-- one date of the calendar, packed and stored
abbrev pub SameDate : (packed stored : List ℕ) → Type 0
SameDate p s = (d : Date) × T (good_date d) × (packed_form d ≡ p) × (stored_form d ≡ s)

-- each conversion answers exactly on the forms of dates, and with the other form of the same date
pub record Converting (p s : List ℕ) : Type 0 where
  pub stored_right : to_stored p ≡ some s → SameDate p s
  pub stored_always : SameDate p s → to_stored p ≡ some s
  pub packed_right : to_packed s ≡ some p → SameDate p s
  pub packed_always : SameDate p s → to_packed s ≡ some p

abbrev pub EachConverts : Type 0
EachConverts = (p s : List ℕ) → Converting p s

-- so that each undoes the other
abbrev pub Inverse : Type 0
Inverse = (p s : List ℕ) → (to_stored p ≡ some s → to_packed s ≡ some p) × (to_packed s ≡ some p → to_stored p ≡ some s)

-- the days from the first of 1900 to a date, both counted
abbrev pub day_number : Date → ℕ
day_number d = sum_of days_in (up_from 1900 (d.year - 1900)) + d.day

-- of two dates in stored form the later one has the higher day number
abbrev pub CalendarOrder : Type 0
CalendarOrder =
    (a b : Date) → T (good_date a) → T (good_date b) → later (stored_form a) (stored_form b) ≡ ltb (day_number b) (day_number a)

-- bytes that are no date, beside any date t: those of a set without an expiry date are never later, X'FFFFFF' always is
pub record BesideDates (t : List ℕ) : Type 0 where
  pub none : later (zeros 3) t ≡ false
  pub itself : later t t ≡ false
  pub never : later (0xFF ∷ 0xFF ∷ 0xFF ∷ []) t ≡ true

abbrev pub AnyToday : Type 0
AnyToday = (p t : List ℕ) → to_stored p ≡ some t → BesideDates t

-- "none is for allocate only"
abbrev pub NoneIsNoDate : Type 0
NoneIsNoDate = (to_stored (zeros 4) ≡ none) × (to_packed (zeros 3) ≡ none)

-- the attributes of a data set that was allocated with this date: three are the date's, the others those handed in
pub record Stores (s at : List ℕ) : Type 0 where
  pub long : length (with_expiry s at) ≡ 52
  pub expiry : expiry_of (with_expiry s at) ≡ s
  pub before : part 0 11 (with_expiry s at) ≡ part 0 11 at
  pub behind : part 14 38 (with_expiry s at) ≡ part 14 38 at

abbrev pub EachStored : Type 0
EachStored = (e s at : List ℕ) → expiry_from e ≡ some s → length at ≡ 52 → Stores s at
