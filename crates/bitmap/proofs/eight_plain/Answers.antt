use Prim.Native.Nat.{◌+◌, ◌-◌}
use borrow.Author.Tests.{eqb-true}
use native.Mathlib.Omega.{arith}
use Rattle.bitmap.proofs.Words.{alike_turn, lent_long}
use Rattle.bitmap.proofs.eight_plain.Goals as goal

pub loop-word-preserved : goal.loop-word-preserved
loop-word-preserved c =
    let l = c.loop-word in
    let a = c.args in
    alike_turn a.map.now a.plain a.w (a.w + 8 - a.w) l.word-index l.unlike (omega (arith, lent_long a.map.now a.w (a.w + 8 - a.w) (omega arith))) l.invariant

pub returns : goal.returns
returns c =
    let l = c.loop-word in
    let a = c.args in
    λ h i u v. l.invariant (eqb-true l.unlike 0 h) i u (omega (arith, lent_long a.map.now a.w (a.w + 8 - a.w) (omega arith)))
