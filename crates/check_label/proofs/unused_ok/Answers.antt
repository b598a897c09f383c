use mathlib.Core.Path.{sym, ◌∙◌}
use mathlib.Core.Bool.{true, false}
use native.Mathlib.Omega.{arith}
use Rattle.check_label.proofs.Laws.{unused_around, unused_behind}
use Rattle.check_label.proofs.unused_ok.Goals as goal

pub returns-then-n-ge7 : goal.returns-then-n-ge7
returns-then-n-ge7 c = λ f1 l1. c.all_are.ensures ∙ unused_behind f1 c.args.f3.now l1 c.requires.0 c.args.n c.if-n-ge7.true c.requires.2

pub returns-then-all_are : goal.returns-then-all_are
returns-then-all_are c =
    λ f1 l1. c.all_are-then-all_are.ensures ∙ unused_around f1 c.args.f3.now l1 c.requires.0 c.args.n true (omega arith) (omega arith) (sym c.all_are-2.ensures ∙ c.if-all_are.true)

pub returns-else-all_are : goal.returns-else-all_are
returns-else-all_are c =
    λ f1 l1. c.if-all_are.false ∙ unused_around f1 c.args.f3.now l1 c.requires.0 c.args.n false (omega arith) (omega arith) (sym c.all_are-2.ensures ∙ c.if-all_are.false)
