use mathlib.Core.Path.{sym, ap, ◌∙◌}
use mathlib.Core.Bool.{Bool}
use Rattle.std.specs.Bool.{then_some}
use native.Mathlib.Omega.{arith}
use Rattle.dscb.specs.Forms.{geometry_of}
use Rattle.check_label.proofs.Shape.{one_few}
use Rattle.check_label.proofs.Laws.{form_wrong, form_few, form_many}
use Rattle.check_label.proofs.shape_of.Goals as goal

pub returns-then-not-one_ok : goal.returns-then-not-one_ok
returns-then-not-one_ok c =
    form_wrong (geometry_of c.args.g) c.args.table.now c.args.k c.record_at-f1.result.now c.record_at-f1.ensures.0 (sym c.one_ok.ensures ∙ c.if-not-one_ok.true)

pub third_of-requires : goal.third_of-requires
third_of-requires c =
    (c.record_at-f1.ensures.1, c.if-n-le3.false, omega (arith, c.from-n.ensures, one_few c.record_at-f1.result.now (sym c.one_ok.ensures ∙ c.if-not-one_ok.false)), c.requires.1)

pub returns-then-n-le3 : goal.returns-then-n-le3
returns-then-n-le3 c =
    c.then_some.ensures
    ∙ ap (λ (b : Bool). then_some b 0) c.few_ok.ensures
    ∙ form_few (geometry_of c.args.g) c.args.table.now c.args.k c.record_at-f1.result.now c.record_at-f1.ensures.0 c.from-n.result (sym c.one_ok.ensures ∙ c.if-not-one_ok.false) c.from-n.ensures c.if-n-le3.true

pub returns-else-n-le3 : goal.returns-else-n-le3
returns-else-n-le3 c =
    c.third_of.ensures ∙ form_many (geometry_of c.args.g) c.args.table.now c.args.k c.record_at-f1.result.now c.record_at-f1.ensures.0 c.from-n.result (sym c.one_ok.ensures ∙ c.if-not-one_ok.false) c.from-n.ensures c.if-n-le3.false
