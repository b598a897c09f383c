use native.Mathlib.Omega.{arith}
use lib.ListN.{length-set}
use Rattle.settle_slots.proofs.Slots.{lowest_next}
use Rattle.settle_slots.proofs.take_slots.Goals as goal

pub loop-place-preserved : goal.loop-place-preserved
loop-place-preserved c =
    let l = c.loop-place in
    let i = l.invariant in
    (lowest_next c.args.n c.args.free_slots.now l.free_slots _ l.place-items l.place-index _ (omega (arith, c.loop-place-test.true)) i.0 c.take_lowest.ensures.0, omega (arith, i.1, length-set l.place-items l.place-index c.take_lowest.result))
