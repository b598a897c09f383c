use mathlib.Core.Path.{ap}
use Prim.Native.Nat.{ℕ}
use lib.Dec.{leb}
use Rattle.grant_space.proofs.few.Goals as goal

pub returns : goal.returns
returns c = ap (λ (k : ℕ). leb k 3) c.extents_then.ensures
