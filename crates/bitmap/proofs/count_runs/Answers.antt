use native.Mathlib.Omega.{arith}
use Rattle.bitmap.proofs.Counting.{and_part, whole_words}
use Rattle.bitmap.proofs.count_runs.Goals as goal

pub returns-then-k-eq0 : goal.returns-then-k-eq0
returns-then-k-eq0 c =
    let a = c.args in
    whole_words a.map.now a.n _ _ (rw c.from-e.ensures at c.count_rest-c.ensures) c.if-k-eq0.true

pub overflow_cast-result : goal.overflow_cast-result
overflow_cast-result c =
    let a = c.args in
    omega (arith, (and_part a.map.now a.n _ _ (rw c.from-e.ensures at c.count_rest-c.ensures) c.starts.result (rw c.from-e.ensures at c.starts.ensures)).1)

pub overflow_add-result : goal.overflow_add-result
overflow_add-result c =
    let a = c.args in
    omega (arith, (and_part a.map.now a.n _ _ (rw c.from-e.ensures at c.count_rest-c.ensures) c.starts.result (rw c.from-e.ensures at c.starts.ensures)).1)

pub returns : goal.returns
returns c =
    let a = c.args in
    and_part a.map.now a.n _ _ (rw c.from-e.ensures at c.count_rest-c.ensures) c.starts.result (rw c.from-e.ensures at c.starts.ensures)
