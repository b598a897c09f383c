-- Document 02, [1], on Volume A after its step 2, worked out by hand: free 7–9 and 15–19, H 5. Each row is tried and taken back.
-- Assumes nothing.
use Rattle.std.specs.Prelude.{ℕ, Bool, List, [], ◌∷◌, T}
use Rattle.model.specs.Choice.{choose}
use Rattle.model.specs.Model.{Run, format0s, free, gaps, held, run, unused, used}
use Rattle.rules.specs.Calls.{grant, granted, nothing, rule}
use Rattle.rules.specs.Dates.{expiry_from, to_stored, with_expiry}
use Rattle.rules.specs.Entries.{good_lengths, initialise, perform}
use Rattle.rules.specs.Layout.{encode, extent_part, format1, format3, format4, format5, records}
use Rattle.rules.specs.Reading.{read, read_extents, read_geometry, read_label, read_records}
use Rattle.rules.specs.Slots.{settle}
use Rattle.rules.specs.Table.{good_label, good_length, good_name, limits, taken, valid}
use Rattle.examples.specs.Steps.{Step, asked_by, aside, cylinders_for, step, step_right, tracks_for}
use Rattle.examples.specs.VolumeA.{started_a}

-- a request that is refused, and leaves what was free
abbrev refused_by : (option kind start amount number : ℕ) → Step
refused_by option kind start amount number = aside (asked_by option 0xC3 kind start amount 0) number nothing (run 7 3 ∷ run 15 5 ∷ []) 4

-- one that is granted these pieces, and leaves these free extents
abbrev granted_by : (option kind amount : ℕ) → (pieces left : List Run) → Step
granted_by option kind amount pieces left = aside (asked_by option 0xC3 kind 0 amount 0) 0 (granted pieces) left 3

abbrev pub option_steps : List Step
option_steps =
    step (tracks_for 0xC1 4) 0 (granted (run 3 4 ∷ [])) (run 7 13 ∷ []) 5 []
    ∷ step (cylinders_for 0xC2 1) 0 (granted (run 10 5 ∷ [])) (run 7 3 ∷ run 15 5 ∷ []) 4 []
    -- no option: one piece, or two
    ∷ granted_by 0 0 2 (run 7 2 ∷ []) (run 9 1 ∷ run 15 5 ∷ [])
    ∷ granted_by 0 0 7 (run 15 5 ∷ run 7 2 ∷ []) (run 9 1 ∷ [])
    -- CONTIG: the same piece, but no two
    ∷ granted_by 1 0 2 (run 7 2 ∷ []) (run 9 1 ∷ run 15 5 ∷ [])
    ∷ granted_by 1 0 4 (run 15 4 ∷ []) (run 7 3 ∷ run 19 1 ∷ [])
    ∷ refused_by 1 0 0 7 9
    -- MXIG: the longest whole, where it has the amount
    ∷ granted_by 2 0 2 (run 15 5 ∷ []) (run 7 3 ∷ [])
    ∷ granted_by 2 0 5 (run 15 5 ∷ []) (run 7 3 ∷ [])
    ∷ refused_by 2 0 0 6 9
    -- ALX: all that have the amount, longest first
    ∷ granted_by 3 0 3 (run 15 5 ∷ run 7 3 ∷ []) []
    ∷ granted_by 3 0 4 (run 15 5 ∷ []) (run 7 3 ∷ [])
    ∷ refused_by 3 0 0 6 9
    -- cylinders: 15–19 is one, and 7–9 has none
    ∷ granted_by 3 1 1 (run 15 5 ∷ []) (run 7 3 ∷ [])
    ∷ refused_by 1 1 0 2 9
    -- 7: an unknown option, with any kind, and one on an absolute request; 0 is right there
    ∷ refused_by 4 0 0 2 7
    ∷ refused_by 4 1 0 1 7
    ∷ refused_by 4 2 7 1 7
    ∷ refused_by 1 2 7 1 7
    ∷ refused_by 3 2 7 1 7
    ∷ aside (asked_by 0 0xC3 2 7 1 0) 0 (granted (run 7 1 ∷ [])) (run 8 2 ∷ run 15 5 ∷ []) 3
    ∷ []

abbrev pub options_hold : Bool
options_hold = step_right started_a.after.table option_steps

pub options : T options_hold
unfolding held gaps free used unused format0s choose extent_part format4 format5 format1 format3 records encode read_geometry read_extents read_label read_records read good_name limits good_label valid taken good_length settle grant to_stored expiry_from with_expiry rule good_lengths perform initialise
options = tt
