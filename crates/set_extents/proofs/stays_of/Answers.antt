use native.Mathlib.Omega.{arith}
use Rattle.model.proofs.Cylinders.{stay_all, stay_cut, stay_none}
use Rattle.set_extents.proofs.stays_of.Goals as goal
use Rattle.set_extents.proofs.stays_of.Goals.{else-left-eq0-via-then-left-eq0+else-start-last, else-left-eq0-via-else-left-eq0}

pub returns-then-count-left : goal.returns-then-count-left
returns-then-count-left c =
    let a = c.args in
    stay_all a.h c.requires.0 a.left a.last a.start a.count c.requires.1 c.if-count-left.true

pub returns-then-start-last : goal.returns-then-start-last
returns-then-start-last c =
    let a = c.args in
    stay_none a.h c.requires.0 a.left a.last a.start a.count c.requires.1 c.if-left-eq0.true c.if-start-last.true

pub returns : goal.returns
returns c =
    let a = c.args in
    stay_cut a.h c.requires.0 a.left a.last a.start a.count c.in_cylinder.result (omega (arith, c.if-count-left.false))
    (elim c.else-left-eq0.branch [
      | else-left-eq0-via-then-left-eq0+else-start-last w ↦ λ _. w.if-start-last.false
      | else-left-eq0-via-else-left-eq0 w ↦ λ z. absurd (w.if-left-eq0.false z)
    ])
    c.in_cylinder.ensures
