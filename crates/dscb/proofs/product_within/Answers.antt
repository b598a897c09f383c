use Rattle.dscb.proofs.Stops.{high_past, low_tells}
use Prim.Native.Nat.{◌*◌, ◌/◌}
use native.Mathlib.Omega.{arith}
use borrow.Author.Tests.{lt-leb}
use Rattle.dscb.proofs.product_within.Goals as goal

pub returns-then-high-most : goal.returns-then-high-most
returns-then-high-most c = low_tells c.args.a c.args.b c.args.most (omega arith) c.if-high-most.true

pub returns-else-high-most : goal.returns-else-high-most
returns-else-high-most c = rw (lt-leb (c.args.a / 256 * c.args.b) (c.args.most / 256) c.if-high-most.false) (high_past c.args.a c.args.b c.args.most (omega arith) c.if-high-most.false)
