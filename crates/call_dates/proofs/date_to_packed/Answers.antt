use native.Mathlib.Omega.{arith}
use mathlib.Core.Path.{refl}
use Rattle.std.proofs.Common.{inl, inr}
use borrow.Author.Tests.{eq-eqb, ne_eqb}
use Rattle.rules.specs.Calls.{date_to_packed}
use Rattle.rules.specs.Dates.{to_packed}
use Rattle.call_dates.proofs.Laws.{answer_short, date_short, no_date_lem, told}
use Rattle.call_dates.proofs.date_to_packed.Goals as goal

pub returns-then-answer-ne24 : goal.returns-then-answer-ne24
returns-then-answer-ne24 c =
    let d = date_to_packed c.args.stored.now in
    let o = to_packed c.args.stored.now in
    elim c.then-answer-ne24.either [
      | inl h ↦ answer_short d o refl c.args.answer.now h
      | inr h ↦ date_short d o refl c.args.answer.now h.0 (ne_eqb _ 3 h.1)
    ]

pub returns-in_default : goal.returns-in_default
returns-in_default c =
    no_date_lem (date_to_packed c.args.stored.now) (to_packed c.args.stored.now) refl c.args.answer.now c.if-answer-ne24.false (eq-eqb _ 3 (omega arith)) c.in_default.ensures

pub returns : goal.returns
returns c =
    told (date_to_packed c.args.stored.now) (to_packed c.args.stored.now) refl c.args.answer.now c.if-answer-ne24.false (eq-eqb _ 3 (omega arith)) _ c.in-Some.ensures _ c.put_first.ensures
