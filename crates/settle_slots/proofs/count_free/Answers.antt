use native.Mathlib.Omega.{arith}
use Rattle.bitmap.proofs.Walk.{goes_on}
use Rattle.check_table.proofs.Unused.{run_total}
use Rattle.settle_slots.proofs.Slots.{counted}
use Rattle.settle_slots.proofs.count_free.Goals as goal

pub loop-at-smaller : goal.loop-at-smaller
loop-at-smaller c =
    let r = c.next_run-free.ensures in
    let h = r.high in
    omega (arith, goes_on r c.loop-at-test.true)

pub loop-at-preserved : goal.loop-at-preserved
loop-at-preserved c =
    let r = c.next_run-free.ensures in
    let f = r.from in
    let l = r.low in
    let h = r.high in
    let e = run_total r in
    (h, omega arith, omega (arith, c.loop-at.invariant.2))

pub returns : goal.returns
returns c =
    counted c.args.free_slots.now c.args.n c.loop-at.at c.loop-at.count c.loop-at-test.false c.loop-at.invariant.0 c.loop-at.invariant.1 c.loop-at.invariant.2
