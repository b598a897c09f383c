-- Document 02, [3], on Volume A of document 01: what previews of its steps say, and that they leave the table as it was. Assumes
-- nothing.
use Rattle.std.specs.Prelude.{◌+◌, ◌*◌, Bool, List, [], ◌∷◌, T}
use Rattle.model.specs.Choice.{choose}
use Rattle.model.specs.Model.{format0s, free, gaps, held, run, unused, used}
use Rattle.model.specs.Tracks.{tracks_kept}
use Rattle.rules.specs.Calls.{extend, given_back, grant, granted, nothing, preview, release, rule}
use Rattle.rules.specs.Dates.{expiry_from, to_stored, with_expiry}
use Rattle.rules.specs.Entries.{good_lengths, initialise, perform}
use Rattle.rules.specs.Layout.{encode, extent_part, format1, format3, format4, format5, records}
use Rattle.rules.specs.Reading.{read, read_extents, read_geometry, read_label, read_records}
use Rattle.rules.specs.Slots.{settle}
use Rattle.rules.specs.Table.{good_label, good_length, good_name, limits, taken, valid}
use Rattle.examples.specs.Steps.{Step, absolute_for, cylinders_for, flt, scratch_of, step, step_right, tracks_for}
use Rattle.examples.specs.VolumeA.{started_a}

-- of each step: the free extents and the number of format 0s after it
abbrev pub preview_steps : List Step
preview_steps =
    step (tracks_for 0xC1 4) 0 (granted (run 3 4 ∷ [])) (run 7 13 ∷ []) 5 []
    ∷ step (cylinders_for 0xC2 1) 0 (granted (run 10 5 ∷ [])) (run 7 3 ∷ run 15 5 ∷ []) 4 []
    -- 3. "Here 3 tracks would be 7–9. FLT.C, 7 tracks: 15–19 then 7–8"
    ∷ step (preview (tracks_for 0xC3 3)) 0 (granted (run 7 3 ∷ [])) (run 7 3 ∷ run 15 5 ∷ []) 4 []
    ∷ step (preview (tracks_for 0xC3 7)) 0 (granted (run 15 5 ∷ run 7 2 ∷ [])) (run 7 3 ∷ run 15 5 ∷ []) 4 []
    ∷ step (tracks_for 0xC3 7) 0 (granted (run 15 5 ∷ run 7 2 ∷ [])) (run 9 1 ∷ []) 3 []
    ∷ step (preview (tracks_for 0xC3 7)) 6 nothing (run 9 1 ∷ []) 3 []
    -- 4. "FLT.D, 2 tracks: 9. Absolute 19 for 2: 7. Absolute 6 for 1: 9"
    ∷ step (preview (tracks_for 0xC4 2)) 9 nothing (run 9 1 ∷ []) 3 []
    ∷ step (preview (absolute_for 0xC4 19 2)) 7 nothing (run 9 1 ∷ []) 3 []
    ∷ step (preview (absolute_for 0xC4 6 1)) 9 nothing (run 9 1 ∷ []) 3 []
    -- 5. "Scratch FLT.B: 5 back"
    ∷ step (preview (scratch_of 0xC2)) 0 (given_back 5) (run 9 1 ∷ []) 3 []
    ∷ step (scratch_of 0xC2) 0 (given_back 5) (run 9 6 ∷ []) 4 []
    ∷ step (preview (scratch_of 0xC2)) 5 nothing (run 9 6 ∷ []) 4 []
    -- 6. "Release FLT.C at TT 7: 12. At TT 4, R 1: 2 back"; it has no secondary amount, 8
    ∷ step (preview (release (flt 0xC3) (7 * 256 + 1))) 12 nothing (run 9 6 ∷ []) 4 []
    ∷ step (preview (release (flt 0xC3) (4 * 256 + 1))) 0 (given_back 2) (run 9 6 ∷ []) 4 []
    ∷ step (preview (extend (flt 0xC3))) 8 nothing (run 9 6 ∷ []) 4 []
    ∷ step (release (flt 0xC3) (4 * 256 + 1)) 0 (given_back 2) (run 7 8 ∷ []) 4 []
    ∷ []

abbrev pub previews_hold : Bool
previews_hold = step_right started_a.after.table preview_steps

pub previews : T previews_hold
unfolding held gaps free used unused format0s choose extent_part format4 format5 format1 format3 records encode read_geometry read_extents read_label read_records read good_name limits good_label valid taken good_length settle grant tracks_kept to_stored expiry_from with_expiry rule good_lengths perform initialise
previews = tt
