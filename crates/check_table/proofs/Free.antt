-- What the map of a taken table shows: its free extents. Assumes nothing.
use mathlib.Core.Path.{◌≡◌}
use mathlib.Core.List.{List}
use Prim.Native.Nat.{ℕ}
use Rattle.model.specs.Model.{Volume, free, held, tracks}
use Rattle.bitmap.specs.Map.{free_from}
use Rattle.bitmap.proofs.Held.{free_gaps}
use Rattle.check_table.specs.Check.{Shown}

pub free_shown : (v : Volume) (m s : List ℕ) → Shown v m s → free_from m (tracks v.geometry) 0 ≡ free v.geometry v.labels
unfolding free
free_shown v m s x = free_gaps m (tracks v.geometry) (held v.geometry v.labels) x.free_tracks
