use native.Mathlib.Nat.{mod-lt}
use native.Mathlib.Omega.{arith}
use Rattle.model.proofs.Cylinders.{room_none, room_some}
use Rattle.set_extents.proofs.in_cylinder.Goals as goal

pub returns-then-past-eq0 : goal.returns-then-past-eq0
returns-then-past-eq0 c = let a = c.args in omega (arith, room_none a.h c.requires a.start c.if-past-eq0.true)

pub overflow_sub-h : goal.overflow_sub-h
overflow_sub-h c = omega (arith, mod-lt c.args.start c.requires)

pub returns : goal.returns
returns c = omega (arith, c.min.ensures, room_some c.args.h c.requires c.args.start c.if-past-eq0.false)
