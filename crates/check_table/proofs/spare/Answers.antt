use mathlib.Core.Path.{sym, ◌∙◌}
use native.Mathlib.Omega.{arith}
use Rattle.check_table.proofs.Unused.{run_total, zero_next, zero_not, spared_all}
use Rattle.check_table.proofs.spare.Goals as goal

pub loop-at-preserved : goal.loop-at-preserved
loop-at-preserved c =
    let r = c.next_run-free.ensures in
    let f = r.from in
    let l = r.low in
    let h = r.high in
    let i = c.loop-at.invariant in
    let e = run_total r in
    let all = rw (c.from-from.ensures, c.from-c.ensures) at c.part_is.ensures in
    rw c.from-at.ensures (h, omega arith, omega (arith, i.2), zero_next c.args.table.now r c.requires.0 (sym all ∙ c.if-not-part_is.false) i.3)

pub returns-then-not-part_is : goal.returns-then-not-part_is
returns-then-not-part_is c =
    let all = rw (c.from-from.ensures, c.from-c.ensures) at c.part_is.ensures in
    zero_not c.args.table.now c.next_run-free.ensures c.requires.0 (sym all ∙ c.if-not-part_is.true)

pub returns : goal.returns
returns c =
    let i = c.loop-at.invariant in
    spared_all c.args.table.now c.args.free_slots.now c.args.n c.loop-at.at c.loop-at.count (omega arith) i.0 i.1 i.2 i.3
