-- A format 5 filled from the map of free tracks. Assumes nothing.
use Rattle.std.specs.Prelude.{ℕ, ◌≤◌, ◌≡◌, List, take, drop}
use Rattle.model.specs.Model.{Geometry}
use Rattle.rules.specs.Layout.{format5}
use Rattle.bitmap.specs.Map.{free_from}

-- a format 5 filled from the map m of n tracks, from track `at` on: its first 26 runs, and the link to slot k; from track
-- `next` on go the others
pub record Fills (g : Geometry) (m : List ℕ) (n at k : ℕ) (r : List ℕ) (next : ℕ) : Type 0 where
  pub bytes : r ≡ format5 g (take 26 (free_from m n at)) k
  pub rest : free_from m n next ≡ drop 26 (free_from m n at)
  pub up_to : next ≤ n
