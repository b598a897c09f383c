use Prim.Native.Nat.{◌+◌, ◌*◌}
use native.Mathlib.Omega.{arith}
use Rattle.bitmap.proofs.Counting.{counts_eight, eight_plain, few_runs}
use Rattle.bitmap.proofs.count_eight.Goals as goal

pub returns-then-eight_plain : goal.returns-then-eight_plain
returns-then-eight_plain c =
    let a = c.args in
    eight_plain a.map.now a.w a.from.runs a.from.last c.flip.result (omega arith) c.flip.ensures (c.eight_plain.ensures c.if-eight_plain.true) c.requires.2

pub overflow_add-runs : goal.overflow_add-runs
overflow_add-runs c =
    let a = c.args in
    let k = c.requires.2 in
    omega (arith, k.runs, few_runs a.map.now (64 * a.w + 512), c.starts_in_eight.ensures)

pub returns : goal.returns
returns c =
    let a = c.args in
    counts_eight a.map.now a.w a.from.runs a.from.last c.starts_in_eight.result c.requires.2 c.starts_in_eight.ensures
