use mathlib.Core.Path.{◌≡◌, sym, ap, ◌∙◌}
use mathlib.Core.Bool.{Bool, cond}
use Rattle.model.specs.Model.{Run, run}
use Rattle.model.specs.Choice.{whole_in}
use Rattle.choose_pieces.specs.Pass.{entered, to_runs}
use Rattle.choose_pieces.proofs.Passing.{better_is, same_best, same_five, unit_is_lem}
use Rattle.choose_pieces.proofs.look.Goals as goal

pub returns-then-count-u : goal.returns-then-count-u
returns-then-count-u c =
    let a = c.args in
    let p = c.requires in
    (p.5, same_best a.u a.amount a.start a.count p.0 p.2 c.if-count-u.true (run a.best.start a.best.count), same_five a.u a.amount a.start a.count p.0 p.2 c.if-count-u.true (to_runs a.five.now))

pub returns-then-fits_better : goal.returns-then-fits_better
returns-then-fits_better c =
    let a = c.args in
    let x : Run = run a.best.start a.best.count in
    let w = c.whole-c.result in
    let y : Run = run w.start w.count in
    let unit : y ≡ whole_in a.u (run a.start a.count) = unit_is_lem a.u a.start a.count y c.whole-c.ensures in
    let b = better_is a.amount x y (whole_in a.u (run a.start a.count)) c.fits_better.result c.fits_better.ensures unit in
    (c.enter.ensures.0, ap (λ (r : Bool). cond r y x) (sym c.if-fits_better.true) ∙ b, c.enter.ensures.1 ∙ ap (λ (z : Run). entered z (to_runs a.five.now)) unit)

pub returns : goal.returns
returns c =
    let a = c.args in
    let x : Run = run a.best.start a.best.count in
    let w = c.whole-c.result in
    let y : Run = run w.start w.count in
    let unit : y ≡ whole_in a.u (run a.start a.count) = unit_is_lem a.u a.start a.count y c.whole-c.ensures in
    let b = better_is a.amount x y (whole_in a.u (run a.start a.count)) c.fits_better.result c.fits_better.ensures unit in
    (c.enter.ensures.0, ap (λ (r : Bool). cond r y x) (sym c.if-fits_better.false) ∙ b, c.enter.ensures.1 ∙ ap (λ (z : Run). entered z (to_runs a.five.now)) unit)
