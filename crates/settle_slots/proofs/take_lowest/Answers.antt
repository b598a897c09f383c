use native.Mathlib.Nat.{le_refl}
use native.Mathlib.Omega.{arith}
use Rattle.settle_slots.proofs.Slots.{lowest_none, lowest_one}
use Rattle.settle_slots.proofs.take_lowest.Goals as goal

pub returns-then-from-n : goal.returns-then-from-n
returns-then-from-n c = (lowest_none c.next_run-free.ensures (omega (arith, c.from.ensures, c.if-from-n.true)), le_refl _)

pub returns : goal.returns
returns c =
    let e = c.from.ensures in
    let k = c.from-2.ensures in
    (rw k (lowest_one c.next_run-free.ensures (omega arith) c.take_range.new.map c.take_range.result c.take_range.ensures), omega arith)
