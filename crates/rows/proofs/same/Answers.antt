use mathlib.Core.Path.{sym}
use Prim.Native.Nat.{◌+◌, ◌-◌}
use native.Mathlib.Omega.{arith}
use lib.ListN.{length}
use Rattle.rows.proofs.Rows.{same_long}
use Rattle.rows.proofs.Eights.{compare_last, compare_next, compared}
use Rattle.rows.proofs.same.Goals as goal
use Rattle.rows.proofs.same.Goals.{else-loop-i-test, then-loop-i-test+else-last-i-gt8}

pub returns-then-n-b : goal.returns-then-n-b
returns-then-n-b c = sym (same_long c.args.a.now c.args.b.now c.if-n-b.true)

pub loop-i-init : goal.loop-i-init
loop-i-init c =
    compare_last c.args.a.now c.args.b.now (λ j. (c.type_inv.a j).fits) (λ j. (c.type_inv.b j).fits) (sym c.if-n-b.false) c.word8.result c.word8-2.result (omega arith) c.word8.ensures c.word8-2.ensures

pub loop-i-preserved : goal.loop-i-preserved
loop-i-preserved c =
    let l = c.loop-i in
    compare_next c.args.a.now c.args.b.now (λ j. (c.type_inv.a j).fits) (λ j. (c.type_inv.b j).fits) (sym c.if-n-b.false) c.word8-in-loop-i.result c.word8-in-loop-i-2.result _ l.unlike l.i (omega arith) c.word8-in-loop-i.ensures c.word8-in-loop-i-2.ensures l.invariant

pub returns : goal.returns
returns c =
    let l = c.loop-i in
    elim c.loop-i-test.branch [
      | else-loop-i-test w ↦
          let h = w.loop-i-test.false in
          rw w.unlike-is (sym (compared (length c.args.a.now - 8) c.args.a.now c.args.b.now l.unlike l.i (omega arith) l.invariant))
      | then-loop-i-test+else-last-i-gt8 w ↦
          let h = w.loop-i-test.true in
          rw w.unlike-is
          (sym
          (compared (length c.args.a.now - 8) c.args.a.now c.args.b.now _ (l.i + 8) (omega (arith, h))
          (compare_next c.args.a.now c.args.b.now (λ j. (c.type_inv.a j).fits) (λ j. (c.type_inv.b j).fits) (sym c.if-n-b.false) w.word8-in-loop-i.result w.word8-in-loop-i-2.result _ l.unlike l.i (omega arith) w.word8-in-loop-i.ensures w.word8-in-loop-i-2.ensures l.invariant)))
    ]
