use native.Mathlib.Omega.{arith}
use Prim.Native.Nat.{◌+◌, ◌-◌, ◌*◌, ◌<◌}
use mathlib.Core.Path.{◌≡◌}
use Rattle.bitmap.proofs.Counting.{counts_more, few_runs, starts_few}
use Rattle.bitmap.proofs.Words.{lent_long, lent_word}
use Rattle.bitmap.proofs.count_rest.Goals as goal

pub overflow_add-runs : goal.overflow_add-runs
overflow_add-runs c =
    let l = c.loop-word in
    let a = c.args in
    omega (arith, starts_few _ _ _ c.starts.ensures, l.invariant.runs, few_runs a.map.now (64 * (a.w + l.word-index)), lent_long a.map.now a.w (a.e - a.w) (omega arith))

pub loop-word-preserved : goal.loop-word-preserved
loop-word-preserved c =
    let l = c.loop-word in
    let a = c.args in
    let h : l.word-index < a.e - a.w = omega (arith, lent_long a.map.now a.w (a.e - a.w) (omega arith)) in
    let e : a.w + l.word-index + 1 ≡ a.w + (l.word-index + 1) = omega arith in
    rw (← e, lent_word a.map.now a.w (a.e - a.w) l.word-index h)
    (counts_more a.map.now (a.w + l.word-index) l.runs l.last c.starts.result l.invariant (rw (lent_word a.map.now a.w (a.e - a.w) l.word-index h) at c.starts.ensures))
