use native.Mathlib.Omega.{arith}
use Prim.Native.Nat.{◌+◌, ◌-◌}
use mathlib.Core.Path.{◌≡◌}
use Rattle.rows.proofs.part_is.Goals as goal

pub returns : goal.returns
returns c = let e : c.args.i + c.args.n - c.args.i ≡ c.args.n = omega arith in rw e at c.all_are.ensures
