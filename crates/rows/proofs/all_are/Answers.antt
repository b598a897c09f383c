use mathlib.Core.Path.{sym}
use Prim.Native.Nat.{◌+◌, ◌-◌}
use native.Mathlib.Omega.{arith}
use lib.ListN.{length}
use Rattle.rows.proofs.Eights.{alike_last, alike_next, alike}
use Rattle.rows.proofs.all_are.Goals as goal
use Rattle.rows.proofs.all_are.Goals.{else-loop-i-test, then-loop-i-test+else-last-i-gt8}

pub loop-i-init : goal.loop-i-init
loop-i-init c = alike_last c.args.s.now c.args.v (λ j. (c.type_inv.s j).fits) (omega arith) c.word8.result c.from-all.result (omega arith) c.word8.ensures c.from-all.ensures

pub loop-i-preserved : goal.loop-i-preserved
loop-i-preserved c =
    let l = c.loop-i in
    alike_next c.args.s.now c.args.v (λ j. (c.type_inv.s j).fits) (omega arith) c.word8-in-loop-i.result c.from-all.result _ l.unlike l.i (omega arith) c.word8-in-loop-i.ensures c.from-all.ensures l.invariant

pub returns : goal.returns
returns c =
    let l = c.loop-i in
    elim c.loop-i-test.branch [
      | else-loop-i-test w ↦
          let h = w.loop-i-test.false in
          rw w.unlike-is (sym (alike c.args.s.now c.args.v (λ j. (c.type_inv.s j).fits) (omega arith) (length c.args.s.now - 8) l.unlike l.i (omega arith) l.invariant))
      | then-loop-i-test+else-last-i-gt8 w ↦
          let h = w.loop-i-test.true in
          rw w.unlike-is
          (sym
          (alike c.args.s.now c.args.v (λ j. (c.type_inv.s j).fits) (omega arith) (length c.args.s.now - 8) _ (l.i + 8) (omega (arith, h))
          (alike_next c.args.s.now c.args.v (λ j. (c.type_inv.s j).fits) (omega arith) w.word8-in-loop-i.result c.from-all.result _ l.unlike l.i (omega arith) w.word8-in-loop-i.ensures c.from-all.ensures l.invariant)))
    ]
