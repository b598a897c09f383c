-- A data set cut behind its last block: planned, and in its records. Assumes nothing.
use Rattle.std.specs.Prelude.{◌≡◌, ℕ, ◌+◌, ◌≤◌, Bool, cond, List, ◌++◌, leb, length, take}
use Rattle.std.specs.Prelude.{Option, Some, None, MatchOption}
use Rattle.free_space.specs.declared.Cut.{Cut}
use Rattle.model.specs.Model.{Extent, Geometry, Label, tracks}
use Rattle.rules.specs.Slots.{asks}
use Rattle.dscb_write.specs.Labels.{with_ttr}
use Rattle.set_extents.specs.declared.Kept.{Kept}
use Rattle.set_extents.specs.Change.{GaveTail, InRecords, Stays, part_of, shortened}
use Rattle.update.specs.declared.Plan.{Plan}
use Rattle.update.specs.Commit.{Planning}
use Rattle.free_space.specs.declared.Measured.{Measured}
use Rattle.free_space.specs.Giving.{FreedSlot, measured_extents}

-- Of the data set x the first n tracks stay, `kept` tells how, and `few` whether that needs no format 3. The others have become free
-- in the map m, which is m' then, and a format 3 that it needs no longer in the map s; and the slots are planned as p, or too few are
-- free.
pub record CutPlans (g : Geometry) (t m m' s s' c : List ℕ) (x : Measured) (n : ℕ) (kept : Kept) (few : Bool)
    (p : Option Plan) : Type 0 where
  pub freed : List ℕ
  pub asked : ℕ
  pub tail : GaveTail n (measured_extents g t x) m m'
  pub stays : Stays x.unit n (measured_extents g t x) (tracks g) kept.whole kept.type_byte kept.start kept.count
  pub few_is : (es : List Extent) → kept.whole ≤ length es
      → few ≡ leb (length (take kept.whole es ++ part_of kept.type_byte kept.start kept.count)) 3
  pub third_freed : FreedSlot (cond few x.slot3 0) s freed
  pub asked_is : asked ≡ asks x.slot + cond few 0 (asks x.slot3)
  pub plan : Planning g t m' freed s' c x.lowest asked p

-- the plan r for the data set x, or none
abbrev pub CutPlanning : (g : Geometry) (t m m' s s' c : List ℕ) (x : Measured) (n : ℕ) → Option Cut → Type 0
CutPlanning g t m m' s s' c x n r =
    MatchOption r ((kept : Kept) × (few : Bool) × CutPlans g t m m' s s' c x n kept few None)
    (λ y. CutPlans g t m m' s s' c x n y.kept y.few (Some y.plan))

-- The records of a label have become those of what stays of it, `whole` extents and `count` tracks of type b from `start`, with the
-- block TTR as its last.
pub record Shortens (g : Geometry) (ttr whole b start count : ℕ) (f1 f3 f1' f3' : List ℕ) : Type 0 where
  pub long : length f1' ≡ 140
  pub records : (l : Label) → whole ≤ length l.extents → InRecords g l f1 f3 → InRecords g (with_ttr ttr (shortened whole b start count l)) f1' f3'
