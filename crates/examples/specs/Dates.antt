-- Document 02, [5]: dates in both forms, what is no date, and data sets with an expiry date on Volume A. Assumes nothing.
use Rattle.std.specs.Prelude.{Bool, true, false, ◌&&◌, List, [], ◌∷◌, ℕ, replicate, T, eqb}
use Rattle.std.proofs.Math.Option.{Option, none, some}
use Rattle.model.specs.Basics.{all, same, zeros}
use Rattle.model.specs.Choice.{choose}
use Rattle.model.specs.Model.{format0s, free, gaps, held, run, unused, used}
use Rattle.rules.specs.Calls.{Call, allocate, given_back, grant, granted, nothing, preview, request, rule, scratch}
use Rattle.rules.specs.Dates.{date, day_number, expiry_from, to_packed, to_stored, with_expiry}
use Rattle.rules.specs.Entries.{good_lengths, initialise, perform}
use Rattle.rules.specs.Layout.{encode, extent_part, format1, format3, format4, format5, records}
use Rattle.rules.specs.Reading.{read, read_extents, read_geometry, read_label, read_records}
use Rattle.rules.specs.Slots.{settle}
use Rattle.rules.specs.Table.{good_label, good_length, good_name, limits, taken, valid}
use Rattle.examples.specs.Steps.{Step, asked_until, aside, flt, shown, step, step_right}
use Rattle.examples.specs.VolumeA.{started_a}

-- ---- the forms

abbrev pub is : List ℕ → Option (List ℕ) → Bool
is bs none = false
is bs (some cs) = same bs cs

abbrev pub is_none : Option (List ℕ) → Bool
is_none none = true
is_none (some bs) = false

-- one date, packed and stored
abbrev pub both_forms : List (List ℕ × List ℕ)
both_forms =
    -- day 1 and day 365 of 1900
    ((0x00 ∷ 0x00 ∷ 0x00 ∷ 0x1F ∷ []), (0 ∷ 0 ∷ 1 ∷ []))
    ∷ ((0x00 ∷ 0x00 ∷ 0x36 ∷ 0x5F ∷ []), (0 ∷ 1 ∷ 109 ∷ []))
    -- day 366 of 1904 and of 2000, leap years; of 2096, the last one
    ∷ ((0x00 ∷ 0x04 ∷ 0x36 ∷ 0x6F ∷ []), (4 ∷ 1 ∷ 110 ∷ []))
    ∷ ((0x01 ∷ 0x00 ∷ 0x36 ∷ 0x6F ∷ []), (100 ∷ 1 ∷ 110 ∷ []))
    ∷ ((0x01 ∷ 0x96 ∷ 0x36 ∷ 0x6F ∷ []), (196 ∷ 1 ∷ 110 ∷ []))
    -- days 255 and 256 of 1979
    ∷ ((0x00 ∷ 0x79 ∷ 0x25 ∷ 0x5F ∷ []), (79 ∷ 0 ∷ 255 ∷ []))
    ∷ ((0x00 ∷ 0x79 ∷ 0x25 ∷ 0x6F ∷ []), (79 ∷ 1 ∷ 0 ∷ []))
    -- day 365 of 2099
    ∷ ((0x01 ∷ 0x99 ∷ 0x36 ∷ 0x5F ∷ []), (199 ∷ 1 ∷ 109 ∷ []))
    ∷ []

abbrev pub no_packed : List (List ℕ)
no_packed =
    -- day 366 of 1900 and of 1979, no leap years; day 367; day 0; none
    (0x00 ∷ 0x00 ∷ 0x36 ∷ 0x6F ∷ [])
    ∷ (0x00 ∷ 0x79 ∷ 0x36 ∷ 0x6F ∷ [])
    ∷ (0x01 ∷ 0x00 ∷ 0x36 ∷ 0x7F ∷ [])
    ∷ (0x00 ∷ 0x79 ∷ 0x00 ∷ 0x0F ∷ [])
    ∷ (0x00 ∷ 0x00 ∷ 0x00 ∷ 0x00 ∷ [])
    -- first digit 1; C 2; half bytes that are no digits, though they would tell a year or a day; sign C
    ∷ (0x10 ∷ 0x79 ∷ 0x00 ∷ 0x1F ∷ [])
    ∷ (0x02 ∷ 0x00 ∷ 0x00 ∷ 0x1F ∷ [])
    ∷ (0x00 ∷ 0x7A ∷ 0x00 ∷ 0x1F ∷ [])
    ∷ (0x00 ∷ 0x79 ∷ 0x0A ∷ 0x1F ∷ [])
    ∷ (0x00 ∷ 0x79 ∷ 0x00 ∷ 0x1C ∷ [])
    -- three bytes, five bytes
    ∷ (0x00 ∷ 0x79 ∷ 0x00 ∷ [])
    ∷ (0x00 ∷ 0x79 ∷ 0x00 ∷ 0x1F ∷ 0x00 ∷ [])
    ∷ []

abbrev pub no_stored : List (List ℕ)
no_stored =
    -- day 366 of 1900; day 0; day 367 of 2000; year 2100; two bytes
    (0 ∷ 1 ∷ 110 ∷ [])
    ∷ (79 ∷ 0 ∷ 0 ∷ [])
    ∷ (100 ∷ 1 ∷ 111 ∷ [])
    ∷ (200 ∷ 0 ∷ 1 ∷ [])
    ∷ (79 ∷ 1 ∷ [])
    ∷ []

abbrev pub forms_hold : Bool
forms_hold =
    all (λ e. is e.1 (to_stored e.0) && is e.0 (to_packed e.1)) both_forms
    && all (λ p. is_none (to_stored p)) no_packed
    && all (λ s. is_none (to_packed s)) no_stored

pub forms : T forms_hold
unfolding to_stored to_packed
forms = tt

-- "leap years .. (1900 isn't one)": 49 of them from 1900 to 2099
abbrev pub calendar_holds : Bool
calendar_holds = eqb (day_number (date 1901 1)) 366 && eqb (day_number (date 2000 1)) 36525 && eqb (day_number (date 2099 365)) 73049

pub calendar : T calendar_holds
calendar = tt

-- ---- on Volume A

-- four tracks until a day of 1980, in three digits: 0x20 0x0F is day 200. The attributes handed in are X'FF'
abbrev pub until : (c tens last : ℕ) → Call
until c tens last = allocate (request (flt c) (replicate 52 0xFF) 0 0 4 0 0 (0x00 ∷ 0x80 ∷ tens ∷ last ∷ []))

abbrev pub on_day : (c tens last override : ℕ) → Call
on_day c tens last override = scratch (flt c) (0x00 ∷ 0x80 ∷ tens ∷ last ∷ []) override

abbrev pub date_steps : List Step
date_steps =
    -- "which replaces attribute bytes 56–58"; "or four zero bytes for none, stored as zeros"
    step (until 0xC1 0x20 0x0F) 0 (granted (run 3 4 ∷ [])) (run 7 13 ∷ []) 5 (shown 2 55 (0xFF ∷ 80 ∷ 0 ∷ 200 ∷ 1 ∷ []) ∷ [])
    ∷ step (allocate (request (flt 0xC2) (replicate 52 0xFF) 0 0 4 0 0 (zeros 4))) 0 (granted (run 7 4 ∷ [])) (run 11 9 ∷ []) 4
    (shown 3 55 (0xFF ∷ 0 ∷ 0 ∷ 0 ∷ 1 ∷ []) ∷ [])
    -- "14 date, .. right after 4": before 7, an unknown kind, and 6; behind 4, a name of zeros
    ∷ step (until 0xC3 0x36 0x7F) 14 nothing (run 11 9 ∷ []) 4 []
    ∷ step (preview (until 0xC1 0x00 0x0F)) 14 nothing (run 11 9 ∷ []) 4 []
    ∷ step (asked_until (0 ∷ 0 ∷ 0 ∷ 0x0F ∷ []) 9 0xC1 9 0 0 0) 14 nothing (run 11 9 ∷ []) 4 []
    ∷ step (allocate (request (zeros 44) (zeros 52) 0 0 4 0 0 (replicate 4 0xFF))) 4 nothing (run 11 9 ∷ []) 4 []
    -- "13 unexpired, the stored date is later than today and no override was given"
    ∷ step (on_day 0xC1 0x19 0x9F 0) 13 nothing (run 11 9 ∷ []) 4 []
    ∷ step (preview (on_day 0xC1 0x19 0x9F 0)) 13 nothing (run 11 9 ∷ []) 4 []
    ∷ aside (on_day 0xC1 0x19 0x9F 1) 0 (given_back 4) (run 3 4 ∷ run 11 9 ∷ []) 5
    -- on its day it is expired
    ∷ step (preview (on_day 0xC1 0x20 0x0F 0)) 0 (given_back 4) (run 11 9 ∷ []) 4 []
    ∷ aside (on_day 0xC1 0x20 0x0F 0) 0 (given_back 4) (run 3 4 ∷ run 11 9 ∷ []) 5
    -- "14 date": with an override too, and of a set that is not there; "none is for allocate only"; "13 .. right after 5"
    ∷ step (on_day 0xC1 0x20 0x0C 1) 14 nothing (run 11 9 ∷ []) 4 []
    ∷ step (on_day 0xC4 0x00 0x0F 0) 14 nothing (run 11 9 ∷ []) 4 []
    ∷ step (scratch (flt 0xC2) (zeros 4) 1) 14 nothing (run 11 9 ∷ []) 4 []
    ∷ step (on_day 0xC4 0x00 0x1F 0) 5 nothing (run 11 9 ∷ []) 4 []
    -- a set without an expiry date goes on any day
    ∷ step (on_day 0xC2 0x00 0x1F 0) 0 (given_back 4) (run 7 13 ∷ []) 5 []
    ∷ []

abbrev pub dates_hold : Bool
dates_hold = step_right started_a.after.table date_steps

pub dates : T dates_hold
unfolding held gaps free used unused format0s choose extent_part format4 format5 format1 format3 records encode read_geometry read_extents read_label read_records read good_name limits good_label valid taken good_length settle grant to_stored expiry_from with_expiry rule good_lengths perform initialise
dates = tt
