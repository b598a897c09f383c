use Prim.Native.Nat.{◌*◌, ◌≤◌}
use native.Mathlib.Omega.{arith}
use lib.ListN.{length}
use Rattle.bitmap.specs.Map.{NextRun}
use Rattle.bitmap.specs.Steps.{RestOfWord}
use Rattle.bitmap.proofs.Near.{back, map_lent, more_fits, rest_here, run_here, start_lt, stop_lt}
use Rattle.bitmap.proofs.run_ahead.Goals as goal

pub overflow_add-z : goal.overflow_add-z
overflow_add-z c = omega (arith, more_fits c.args.x c.if-x-ne0.true (omega arith) c.if-y.true)

pub overflow_cast-to : goal.overflow_cast-to
overflow_cast-to c = omega (arith, stop_lt c.args.x c.if-x-ne0.true (omega arith) c.if-y.true)

pub overflow_add-to : goal.overflow_add-to
overflow_add-to c = omega (arith, stop_lt c.args.x c.if-x-ne0.true (omega arith) c.if-y.true)

pub overflow_cast-result : goal.overflow_cast-result
overflow_cast-result c = omega (arith, start_lt c.args.x c.if-x-ne0.true (omega arith))

pub overflow_add-result : goal.overflow_add-result
overflow_add-result c = omega (arith, start_lt c.args.x c.if-x-ne0.true (omega arith))

pub returns-then-to-n : goal.returns-then-to-n
returns-then-to-n c =
    let m = c.args.map.now in
    let t = c.args.t in
    let n = c.args.n in
    let x = c.args.x in
    let some = c.if-x-ne0.true in
    let gap = c.if-y.true in
    let far = c.if-to-n.true in
    (run_here x some (omega arith) gap m n t c.requires.2 far, rest_here x some (omega arith) gap m n t c.requires.2 far)

pub run_far-requires : goal.run_far-requires
run_far-requires c =
    let p = c.requires in
    let a = c.args in
    (p.0, map_lent a.map.now (λ m. a.n ≤ 64 * length m) p.1, map_lent a.map.now (λ m. RestOfWord m a.n a.t a.x) p.2)

pub returns : goal.returns
returns c =
    let a = c.args in
    let r = c.run_far.result in
    back a.map.now (λ m. NextRun m a.n a.t r.from r.to × RestOfWord m a.n r.to r.rest) c.run_far.ensures
