-- A table on its way from one volume to another: the slots that are still to be written. Assumes nothing.
use Rattle.std.specs.Prelude.{◌≡◌, ℕ, ◌*◌, ◌<◌, List, length, eqb}
use Rattle.model.specs.Model.{Volume, slots, tally, Label}
use Rattle.rules.specs.Layout.{records}
use Rattle.rules.specs.Reading.{record_at}
use Rattle.dscb.specs.Records.{slot_bytes}
use Rattle.model.specs.Basics.{find}

-- the record of slot k in the table that volume w is written as
abbrev pub record_of : Volume → ℕ → List ℕ
record_of w k = record_at (records w) k

-- every slot of the table t, but those in ps, holds what volume w has there
pub record Pending (w : Volume) (ps t : List ℕ) : Type 0 where
  pub long : length t ≡ 140 * slots w.geometry
  pub right : (k : ℕ) → k < slots w.geometry → tally k ps ≡ 0 → slot_bytes t k ≡ record_of w k

-- slot k is of the same label, or of none, in both lists
pub record Alike (k : ℕ) (ls ms : List Label) : Type 0 where
  pub first : find (λ l. eqb l.slot k) ls ≡ find (λ l. eqb l.slot k) ms
  pub third : find (λ l. eqb l.slot3 k) ls ≡ find (λ l. eqb l.slot3 k) ms
