use mathlib.Core.Path.{◌≡◌}
use Prim.Native.Nat.{◌+◌, ◌*◌}
use native.Mathlib.Omega.{arith}
use Rattle.bitmap.proofs.Counting.{starts_few, starts_more, word_runs}
use Rattle.bitmap.proofs.starts_in_eight.Goals as goal

pub overflow_cast-count : goal.overflow_cast-count
overflow_cast-count c = omega (arith, starts_few _ _ _ c.starts.ensures)

pub loop-i-init : goal.loop-i-init
loop-i-init c =
    let a = c.args in
    (omega (arith, starts_few _ _ _ c.starts.ensures), word_runs a.map.now a.w a.y c.starts.result c.requires.1 c.starts.ensures)

pub overflow_cast-count-in-loop-i : goal.overflow_cast-count-in-loop-i
overflow_cast-count-in-loop-i c = omega (arith, starts_few _ _ _ c.starts-in-loop-i.ensures)

pub overflow_add-count : goal.overflow_add-count
overflow_add-count c = omega (arith, starts_few _ _ _ c.starts-in-loop-i.ensures)

pub loop-i-preserved : goal.loop-i-preserved
loop-i-preserved c =
    let l = c.loop-i in
    let a = c.args in
    (omega (arith, starts_few _ _ _ c.starts-in-loop-i.ensures), starts_more a.map.now a.w l.i l.count c.starts-in-loop-i.result (omega arith) l.invariant.1 c.starts-in-loop-i.ensures)

pub returns : goal.returns
returns c =
    let l = c.loop-i in
    let a = c.args in
    let e : 64 * a.w + 64 * l.i ≡ 64 * a.w + 512 = omega arith in
    rw e at l.invariant.1
