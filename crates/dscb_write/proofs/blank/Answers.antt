use mathlib.Core.Path.{◌≡◌}
use Prim.Native.Nat.{◌-◌}
use native.Mathlib.Omega.{arith}
use Rattle.dscb_write.specs.Blank.{blank}
use Rattle.dscb_write.specs.Put.{put_at}
use Rattle.dscb_write.proofs.blank.Goals as goal

pub returns : goal.returns
unfolding blank put_at
returns c = let e : c.args.n - 0 ≡ c.args.n = omega arith in rw (c.put_same.ensures, e)
