-- A data set as it is read from the slots of a table. Assumes nothing.
use Rattle.std.specs.Prelude.{◌≡◌, ℕ, ◌≤◌, ◌<◌, List, length, get_or}
use Rattle.model.specs.Model.{Geometry, Label, slots}
use Rattle.dscb.specs.Records.{slot_bytes}
use Rattle.check_label.specs.Label.{named_third}
use Rattle.dscb_write.specs.Labels.{Format3}

-- r is the record in slot q; where q is 0, the format 3 of any label with no more than three extents
pub record ThirdIn (t : List ℕ) (q : ℕ) (r : List ℕ) : Type 0 where
  pub long : length r ≡ 140
  pub there : 1 ≤ q → r ≡ slot_bytes t q
  pub none : q ≡ 0 → (g : Geometry) (l : Label) → length l.extents ≤ 3 → Format3 g l r

-- the format 1 in slot k says `count` extents, and its format 3 is in slot `third`
pub record SetAt (g : Geometry) (t : List ℕ) (k : ℕ) (one three : List ℕ) (count third : ℕ) : Type 0 where
  pub first : one ≡ slot_bytes t k
  pub many : count ≡ get_or one 59 0
  pub link : third ≡ named_third g (slot_bytes t k)
  pub inside : third < slots g
  pub other : ThirdIn t third three
