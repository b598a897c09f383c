use mathlib.Core.Path.{sym, ◌∙◌}
use Prim.Native.Nat.{◌-◌}
use native.Mathlib.Omega.{arith}
use Rattle.check_table.proofs.Unused.{highest_hit, highest_miss, highest_none}
use Rattle.check_table.proofs.highest.Goals as goal

pub returns-then-rec : goal.returns-then-rec
returns-then-rec c =
    let u = c.loop-k-test.true in
    sym (c.loop-k.invariant ∙ highest_hit _ _ c.loop-k.k (c.loop-k.k - 1) (omega arith) c.record_at-rec.ensures.0 c.if-rec.true)

pub loop-k-preserved : goal.loop-k-preserved
loop-k-preserved c =
    let u = c.loop-k-test.true in
    c.loop-k.invariant ∙ highest_miss _ _ c.loop-k.k (c.loop-k.k - 1) (omega arith) c.record_at-rec.ensures.0 c.if-rec.false

pub returns : goal.returns
returns c = sym (c.loop-k.invariant ∙ highest_none _ c.loop-k.k (omega arith))
