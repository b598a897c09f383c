use mathlib.Core.Path.{refl}
use native.Mathlib.Nat.{le_refl}
use native.Mathlib.Omega.{arith}
use Rattle.bitmap.proofs.Far.{ending_later, ending_none, ending_own, first_end, first_none, first_off, first_on, no_run, run_is}
use Rattle.bitmap.proofs.Near.{rest_none}
use Rattle.bitmap.proofs.run_far.Goals as goal

pub returns-then-t-n : goal.returns-then-t-n
returns-then-t-n c =
    let a = c.args in
    no_run a.map.now a.n a.t (first_end a.map.now a.n a.t c.if-t-n.true c.requires.0)

pub returns-in_default : goal.returns-in_default
returns-in_default c =
    let a = c.args in
    no_run a.map.now a.n a.t (first_none a.map.now a.n a.t (c.in_default.ensures a.n (omega arith) c.requires.2) c.requires.0)

pub returns-then-from-n : goal.returns-then-from-n
returns-then-from-n c =
    let a = c.args in
    let p = c.in-Some.ensures a.n (omega arith) c.requires.2 in
    no_run a.map.now a.n a.t (first_off a.map.now a.n a.t _ c.in-Some.p.at c.in-Some.p.word p (omega arith) c.if-from-n.true c.requires.0)

pub returns-then-low : goal.returns-then-low
returns-then-low c =
    let a = c.args in
    let q = c.in-Some.p in
    let p = c.in-Some.ensures a.n (omega arith) c.requires.2 in
    run_is a.map.now a.n a.t _ _ _ _
    (first_on a.map.now a.n a.t _ q.at q.word p (omega arith) c.if-from-n.false)
    c.stop_at.ensures.0
    (c.stop_at.ensures.1 a.map.now (ending_own a.map.now a.n a.t _ q.at q.word p (omega arith)))

pub stop_at-requires-in-Some-pass : goal.stop_at-requires-in-Some-pass
stop_at-requires-in-Some-pass c = (omega (arith, c.in-Some-pass.ensures.to), c.if-from-n.false, c.in-Some-pass.ensures.unlike)

pub returns-in-Some-pass : goal.returns-in-Some-pass
returns-in-Some-pass c =
    let a = c.args in
    let q = c.in-Some.p in
    let p = c.in-Some.ensures a.n (omega arith) c.requires.2 in
    run_is a.map.now a.n a.t _ _ _ _
    (first_on a.map.now a.n a.t _ q.at q.word p (omega arith) c.if-from-n.false)
    c.stop_at-in-Some-pass.ensures.0
    (c.stop_at-in-Some-pass.ensures.1 a.map.now (ending_later a.map.now a.n a.t _ q.at q.word p (omega arith) c.if-low.false c.in-Some-pass.w c.in-Some-pass.ensures))

pub returns-in-None : goal.returns-in-None
returns-in-None c =
    let a = c.args in
    let q = c.in-Some.p in
    let p = c.in-Some.ensures a.n (omega arith) c.requires.2 in
    run_is a.map.now a.n a.t _ _ _ _
    (first_on a.map.now a.n a.t _ q.at q.word p (omega arith) c.if-from-n.false)
    refl
    (ending_none a.map.now a.n a.t _ q.at q.word p (omega arith) c.if-low.false c.in-None.ensures (omega arith) c.if-from-n.false, rest_none a.map.now a.n a.n (le_refl a.n))
