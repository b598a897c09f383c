-- What the writing of a listing needs to know of a table. Assumes nothing.
use Rattle.std.specs.Prelude.{◌≡◌, ℕ, ◌-◌, ◌*◌, ◌≤◌, cond, List, [], length, ltb}
use Rattle.model.specs.Model.{Geometry, Label, format0s, free, run, runs_of, slots, total, tracks}
use Rattle.model.specs.Predicates.{All}
use Rattle.rules.specs.Listing.{free_line}
use Rattle.rules.specs.Reading.{read}
use Rattle.rules.specs.Predicates.{Limits}
use Rattle.bitmap.specs.Map.{free_from}
use Rattle.dscb.specs.Forms.{linked_slot}
use Rattle.dscb.specs.Records.{slot_bytes}
use Rattle.check_table.specs.Labels.{labels_below}
use Rattle.listing.specs.Text.{Proper}
use Rattle.check_table.specs.Check.{volume_at}

-- the line of the free tracks from a up to b, none where there are none
unfoldable pub span_line : ℕ → ℕ → List ℕ
span_line a b = cond (ltb a b) (free_line (run a (b - a))) []

-- a label of the table t whose line can be written
pub record Listable (g : Geometry) (t : List ℕ) (l : Label) : Type 0 where
  pub most : length l.extents ≤ 16
  pub proper : All Proper l.extents
  pub tracks : total (runs_of l) ≤ 65535
  pub linked : linked_slot g (slot_bytes t l.slot) ≡ l.slot3

-- a taken table of this geometry and with so many format 0s, and the map of its free tracks
pub record ReadyToList (g : Geometry) (count : ℕ) (t m : List ℕ) : Type 0 where
  pub limits : Limits g
  pub long : length t ≡ 140 * slots g
  pub volume : read t ≡ volume_at g t
  pub labels : All (Listable g t) (labels_below g t (slots g))
  pub free_tracks : free_from m (tracks g) 0 ≡ free g (labels_below g t (slots g))
  pub count_is : count ≡ length (format0s (volume_at g t))
  pub count_most : count ≤ slots g
