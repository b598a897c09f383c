-- A data set that is to go: planned, as the code goes. Assumes nothing.
use Rattle.std.specs.Prelude.{ℕ, List, Option, Some, None, MatchOption}
use Rattle.free_space.specs.declared.Leaving.{Leaving}
use Rattle.model.specs.Model.{Geometry, Label}
use Rattle.set_extents.specs.Change.{GaveTail}
use Rattle.update.specs.declared.Plan.{Plan}
use Rattle.update.specs.Commit.{Planning}
use Rattle.free_space.specs.declared.Measured.{Measured}
use Rattle.free_space.specs.Giving.{FreedSlot, Measures, measured_extents}

-- The data set x in slot k, whose label is l: its tracks have become free in the map m, which is m' then, and its slots in the map s;
-- and what is left is planned as p, or too few slots are free.
pub record GoingPlans (g : Geometry) (t m m' s s' c : List ℕ) (k : ℕ) (l : Label) (x : Measured) (p : Option Plan) : Type 0 where
  pub one_freed : List ℕ
  pub both_freed : List ℕ
  pub measured : Measures g t k l x
  pub tail : GaveTail 0 (measured_extents g t x) m m'
  pub first : FreedSlot k s one_freed
  pub third : FreedSlot x.slot3 one_freed both_freed
  pub plan : Planning g t m' both_freed s' c x.lowest 0 p

-- the plan r for the data set in slot k, whose label is l, or none
abbrev pub GoingPlanning : (g : Geometry) (t m m' s s' c : List ℕ) (k : ℕ) (l : Label) → Option Leaving → Type 0
GoingPlanning g t m m' s s' c k l r =
    MatchOption r ((x : Measured) × GoingPlans g t m m' s s' c k l x None) (λ y. GoingPlans g t m m' s s' c k l y.set (Some y.plan))
