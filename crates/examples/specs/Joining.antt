-- Document 02, [6], on a table from elsewhere, worked out by hand: H 5, so that cylinders are 5–9, 10–14 and on. Assumes nothing.
use Rattle.std.specs.Prelude.{ℕ, Bool, List, [], ◌∷◌, replicate, T}
use Rattle.model.specs.Choice.{choose}
use Rattle.model.specs.Model.{Extent, Label, Run, Volume, extent, format0s, free, gaps, held, label, run, unused, used, volume}
use Rattle.rules.specs.Calls.{extend, grant, granted, nothing, rule}
use Rattle.rules.specs.Entries.{good_lengths, initialise, perform}
use Rattle.rules.specs.Layout.{encode, extent_part, format1, format3, format4, format5, records}
use Rattle.rules.specs.Reading.{read, read_extents, read_geometry, read_label, read_records}
use Rattle.rules.specs.Slots.{settle}
use Rattle.rules.specs.Table.{good_label, good_length, good_name, limits, taken, valid}
use Rattle.examples.specs.Blunders.{volume_b}
use Rattle.examples.specs.Steps.{Step, flt, shown, step, step_right}

abbrev data_set : (c slot unit secondary : ℕ) → List Extent → Label
data_set c slot unit secondary es = label slot (flt c) (replicate 52 0) unit secondary 0 es 0

-- FLT.A has its highest track, 31, before its last, 6; FLT.B and FLT.D are cylinder files, the extent of FLT.D has type X'01'; FLT.C is a
-- tracks file with a whole cylinder. Free are 3–4, 7–9, 15–19, 25–29, 32–34 and 40–49
abbrev pub strips : Volume
strips =
    volume volume_b
    (data_set 0xC1 2 0x80 3 (extent 0x01 (run 30 2) ∷ extent 0x01 (run 5 2) ∷ [])
    ∷ data_set 0xC2 3 0xC0 1 (extent 0x81 (run 10 5) ∷ [])
    ∷ data_set 0xC3 4 0x80 5 (extent 0x81 (run 20 5) ∷ [])
    ∷ data_set 0xC4 5 0xC0 1 (extent 0x01 (run 35 5) ∷ [])
    ∷ [])
    (1 ∷ [])

-- an extend that is granted one piece and leaves these free extents; then bytes 59 and `at` of the record in this slot are so
abbrev extends : (c : ℕ) → Run → List Run → (slot extents at : ℕ) → List ℕ → Step
extends c piece left slot extents at bytes =
    step (extend (flt c)) 0 (granted (piece ∷ [])) left 2 (shown slot 59 (extents ∷ []) ∷ shown slot at bytes ∷ [])

abbrev pub strip_steps : List Step
strip_steps =
    -- after the last track of the list: 5–9, the second extent still
    extends 0xC1 (run 7 3) (run 3 2 ∷ run 15 5 ∷ run 25 5 ∷ run 32 3 ∷ run 40 10 ∷ []) 2 2 115
    (0x01 ∷ 0x01 ∷ 0x00 ∷ 0x01 ∷ 0x00 ∷ 0x00 ∷ 0x00 ∷ 0x01 ∷ 0x00 ∷ 0x04 ∷ [])
    -- after the highest track: a third extent
    ∷ extends 0xC1 (run 32 3) (run 3 2 ∷ run 15 5 ∷ run 25 5 ∷ run 40 10 ∷ []) 2 3 125
    (0x01 ∷ 0x02 ∷ 0x00 ∷ 0x06 ∷ 0x00 ∷ 0x02 ∷ 0x00 ∷ 0x06 ∷ 0x00 ∷ 0x04 ∷ [])
    -- X'81' and X'81': 10–19 has X'81'
    ∷ extends 0xC2 (run 15 5) (run 3 2 ∷ run 25 5 ∷ run 40 10 ∷ []) 3 1 105
    (0x81 ∷ 0x00 ∷ 0x00 ∷ 0x02 ∷ 0x00 ∷ 0x00 ∷ 0x00 ∷ 0x03 ∷ 0x00 ∷ 0x04 ∷ [])
    -- X'81' and X'01': 20–29 has X'01', though it is two cylinders
    ∷ extends 0xC3 (run 25 5) (run 3 2 ∷ run 40 10 ∷ []) 4 1 105
    (0x01 ∷ 0x00 ∷ 0x00 ∷ 0x04 ∷ 0x00 ∷ 0x00 ∷ 0x00 ∷ 0x05 ∷ 0x00 ∷ 0x04 ∷ [])
    -- X'01' and X'81': 35–44 has X'01' still; and again, to the volume's last track
    ∷ extends 0xC4 (run 40 5) (run 3 2 ∷ run 45 5 ∷ []) 5 1 105
    (0x01 ∷ 0x00 ∷ 0x00 ∷ 0x07 ∷ 0x00 ∷ 0x00 ∷ 0x00 ∷ 0x08 ∷ 0x00 ∷ 0x04 ∷ [])
    ∷ extends 0xC4 (run 45 5) (run 3 2 ∷ []) 5 1 105
    (0x01 ∷ 0x00 ∷ 0x00 ∷ 0x07 ∷ 0x00 ∷ 0x00 ∷ 0x00 ∷ 0x09 ∷ 0x00 ∷ 0x04 ∷ [])
    ∷ step (extend (flt 0xC4)) 9 nothing (run 3 2 ∷ []) 2 []
    ∷ []

abbrev pub joining_holds : Bool
joining_holds = step_right (encode strips) strip_steps

pub joining : T joining_holds
unfolding held gaps free used unused format0s choose extent_part format4 format5 format1 format3 records encode read_geometry read_extents read_label read_records read good_name limits good_label valid taken good_length settle grant rule good_lengths perform initialise
joining = tt
