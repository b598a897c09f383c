-- Document 02, [2], on a table from elsewhere, worked out by hand: H 5, so that cylinders are 5–9, 10–14 and on. Assumes nothing.
use Rattle.std.specs.Prelude.{ℕ, ◌+◌, ◌*◌, Bool, List, [], ◌∷◌, replicate, T}
use Rattle.model.specs.Choice.{choose}
use Rattle.model.specs.Model.{Extent, Label, Run, Volume, extent, format0s, free, gaps, held, label, run, unused, used, volume}
use Rattle.model.specs.Tracks.{tracks_kept}
use Rattle.rules.specs.Calls.{given_back, grant, nothing, release, rule}
use Rattle.rules.specs.Dates.{expiry_from, to_stored, with_expiry}
use Rattle.rules.specs.Entries.{good_lengths, initialise, perform}
use Rattle.rules.specs.Layout.{encode, extent_part, format1, format3, format4, format5, records}
use Rattle.rules.specs.Reading.{read, read_extents, read_geometry, read_label, read_records}
use Rattle.rules.specs.Slots.{settle}
use Rattle.rules.specs.Table.{good_label, good_length, good_name, limits, taken, valid}
use Rattle.examples.specs.Blunders.{volume_b}
use Rattle.examples.specs.Steps.{Step, aside, flt, shown, step, step_right}

abbrev data_set : (c slot unit : ℕ) → List Extent → Label
data_set c slot unit es = label slot (flt c) (replicate 52 0) unit 0 0 es 0

-- FLT.A is the paper's example, 11–12, 13, 10; FLT.B has two extents that follow on, over a cylinder's end; FLT.C is a tracks file with
-- whole cylinders; FLT.D has a cylinder in two extents. Free are 3–9 and 14
abbrev pub plots : Volume
plots =
    volume volume_b
    (data_set 0xC1 2 0xC0 (extent 0x01 (run 11 2) ∷ extent 0x01 (run 13 1) ∷ extent 0x01 (run 10 1) ∷ [])
    ∷ data_set 0xC2 3 0xC0 (extent 0x81 (run 15 5) ∷ extent 0x81 (run 20 10) ∷ [])
    ∷ data_set 0xC3 4 0x80 (extent 0x81 (run 30 15) ∷ [])
    ∷ data_set 0xC4 5 0xC0 (extent 0x01 (run 45 3) ∷ extent 0x01 (run 48 2) ∷ [])
    ∷ [])
    (1 ∷ [])

-- a release at TT, R 1 that gives back so many tracks, and leaves these free extents
abbrev gives : (c tt tracks : ℕ) → List Run → Step
gives c tt tracks left = aside (release (flt c) (tt * 256 + 1)) 0 (given_back tracks) left 2

abbrev pub plot_steps : List Step
plot_steps =
    -- 11, and after it 12 and 13; 10 is not the next on the volume
    gives 0xC1 0 1 (run 3 8 ∷ run 14 1 ∷ [])
    ∷ gives 0xC1 2 1 (run 3 8 ∷ run 14 1 ∷ [])
    ∷ gives 0xC1 3 0 (run 3 7 ∷ run 14 1 ∷ [])
    -- 15–19; 20 is the next, but in another cylinder
    ∷ gives 0xC2 0 10 (run 3 7 ∷ run 14 1 ∷ run 20 10 ∷ [])
    ∷ gives 0xC2 4 10 (run 3 7 ∷ run 14 1 ∷ run 20 10 ∷ [])
    ∷ gives 0xC2 5 5 (run 3 7 ∷ run 14 1 ∷ run 25 5 ∷ [])
    -- a tracks file: the first TT + 1 alone
    ∷ gives 0xC3 0 14 (run 3 7 ∷ run 14 1 ∷ run 31 14 ∷ [])
    ∷ gives 0xC3 4 10 (run 3 7 ∷ run 14 1 ∷ run 35 10 ∷ [])
    -- from extent to extent, to the volume's last track
    ∷ gives 0xC4 0 0 (run 3 7 ∷ run 14 1 ∷ [])
    ∷ gives 0xC4 3 0 (run 3 7 ∷ run 14 1 ∷ [])
    -- 12 looks at TT + 1 alone
    ∷ aside (release (flt 0xC4) (5 * 256 + 1)) 12 nothing (run 3 7 ∷ run 14 1 ∷ []) 2
    -- X'81' stays in a cylinder file that is cut, and the TTR is stored as it was given; a tracks file has X'01' then, and what is not
    -- cut stays as it is
    ∷ step (release (flt 0xC2) (7 * 256 + 9)) 0 (given_back 5) (run 3 7 ∷ run 14 1 ∷ run 25 5 ∷ []) 2
    (shown 3 98 (0x00 ∷ 0x07 ∷ 0x09 ∷ [])
    ∷ shown 3 115 (0x81 ∷ 0x01 ∷ 0x00 ∷ 0x04 ∷ 0x00 ∷ 0x00 ∷ 0x00 ∷ 0x04 ∷ 0x00 ∷ 0x04 ∷ [])
    ∷ [])
    ∷ step (release (flt 0xC3) (14 * 256 + 1)) 0 (given_back 0) (run 3 7 ∷ run 14 1 ∷ run 25 5 ∷ []) 2 (shown 4 105 (0x81 ∷ []) ∷ [])
    ∷ step (release (flt 0xC3) (9 * 256 + 1)) 0 (given_back 5) (run 3 7 ∷ run 14 1 ∷ run 25 5 ∷ run 40 5 ∷ []) 2
    (shown 4 105 (0x01 ∷ 0x00 ∷ 0x00 ∷ 0x06 ∷ 0x00 ∷ 0x00 ∷ 0x00 ∷ 0x07 ∷ 0x00 ∷ 0x04 ∷ []) ∷ [])
    ∷ []

abbrev pub cylinders_hold : Bool
cylinders_hold = step_right (encode plots) plot_steps

pub cylinders : T cylinders_hold
unfolding held gaps free used unused format0s choose extent_part format4 format5 format1 format3 records encode read_geometry read_extents read_label read_records read good_name limits good_label valid taken good_length settle grant tracks_kept to_stored expiry_from with_expiry rule good_lengths perform initialise
cylinders = tt
