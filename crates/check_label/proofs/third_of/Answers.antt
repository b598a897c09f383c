use mathlib.Core.Path.{◌≡◌, ap, ◌∙◌}
use mathlib.Core.Bool.{◌&&◌, Bool}
use native.Mathlib.Omega.{arith}
use Rattle.dscb.specs.Forms.{geometry_of}
use Rattle.check_label.proofs.Laws.{third_none, third_tested}
use Rattle.std.specs.Bool.{then_some}
use Rattle.dscb.specs.Forms.{three_ok}
use Rattle.check_label.specs.Label.{unused_ok}
use Prim.Native.Nat.{◌-◌}
use Rattle.check_label.proofs.third_of.Goals.{then-three_ok, else-three_ok}
use Rattle.check_label.proofs.third_of.Goals as goal

pub returns-then-q-eq0 : goal.returns-then-q-eq0
returns-then-q-eq0 c =
    third_none (geometry_of c.args.g) c.args.table.now c.args.f1.now c.args.n c.link-q.result c.link-q.ensures.0 c.if-q-eq0.true

pub returns : goal.returns
returns c =
    let f3 = c.record_at-f3.result.now in
    let both : c.if-three_ok.then_some ≡ (three_ok f3 && unused_ok c.args.f1.now f3 c.args.n (16 - c.args.n)) =
    elim c.if-three_ok.branch [
      | then-three_ok w ↦ rw (← c.three_ok.ensures, w.if-three_ok.true) (w.then_some-is ∙ w.unused_ok.ensures c.args.f1.now c.requires.0)
      | else-three_ok w ↦ rw (← c.three_ok.ensures, w.if-three_ok.false) (w.then_some-is ∙ w.if-three_ok.false)
    ] in
    c.then_some.ensures
    ∙ ap (λ (b : Bool). then_some b c.link-q.result) both
    ∙ third_tested (geometry_of c.args.g) c.args.table.now c.args.f1.now c.args.n c.link-q.result c.link-q.ensures.0 (omega arith) f3 c.record_at-f3.ensures.0
