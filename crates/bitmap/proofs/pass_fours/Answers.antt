use Prim.Native.Nat.{◌+◌, ◌*◌}
use native.Mathlib.Omega.{arith}
use Rattle.bitmap.proofs.Words.{alike_four}
use Rattle.bitmap.proofs.pass_fours.Goals as goal

pub loop-k-preserved : goal.loop-k-preserved
loop-k-preserved c =
    let l = c.loop-k in
    λ i u v. alike_four c.args.map.now _ _ (c.args.w + 4 * l.k) l.invariant c.if-a-b-ne0.false i u (omega arith)
