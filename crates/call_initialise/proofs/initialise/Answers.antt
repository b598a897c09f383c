use Rattle.dscb.specs.Forms.{geometry_of}
use Rattle.model.specs.Model.{Geometry, slots}
use Rattle.rules.specs.Entries.{fresh}
use Rattle.rules.specs.Layout.{encode}
use Rattle.rules.specs.Table.{limits}
use Rattle.call_initialise.proofs.Laws.{initialised, no_geometry, wrong_answer, wrong_table}
use Rattle.rules.proofs.Valid.{→limits}
use Rattle.rules.specs.Promises.{geometry}
use Rattle.model.proofs.Lists.{is_true}
use mathlib.Core.Bool.{true}
use mathlib.Core.Path.{◌≡◌, sym, ap, ◌∙◌}
use Prim.Native.Nat.{ℕ, ◌*◌}
use Rattle.std.proofs.Common.{inl, inr}
use Rattle.call_initialise.proofs.initialise.Goals as goal
use Rattle.call_initialise.proofs.initialise.Goals.{In-Some}

pub returns-in_default : goal.returns-in_default
returns-in_default c =
    let a = c.args in
    no_geometry (geometry a.c a.h a.d a.s a.v) a.table.now a.answer.now c.in_default.ensures

-- the numbers meet the limits
met : (c : In-Some) → limits (geometry c.args.c c.args.h c.args.d c.args.s c.args.v) ≡ true
met c = sym (ap limits c.in-Some.ensures) ∙ is_true (→limits (geometry_of c.in-Some.g) c.in-Some.g.in_limits)

pub returns-then-table-slots : goal.returns-then-table-slots
returns-then-table-slots c =
    let a = c.args in
    let g = geometry a.c a.h a.d a.s a.v in
    let good = met (goal.at.returns-then-table-slots c).In-Some in
    let many = c.slots.ensures.0 ∙ ap (λ (x : Geometry). slots x) c.in-Some.ensures in
    elim c.then-table-slots.either [
      | inl h ↦ wrong_table g a.table.now a.answer.now good c.slots.result many h
      | inr h ↦ wrong_answer g a.table.now a.answer.now good c.slots.result many h.0 h.1
    ]

pub write_fresh-requires : goal.write_fresh-requires
write_fresh-requires c =
    c.if-table-slots.false ∙ ap (λ (n : ℕ). 140 * n) c.slots.ensures.0

pub returns : goal.returns
returns c =
    let a = c.args in
    let same = c.in-Some.ensures in
    initialised (geometry a.c a.h a.d a.s a.v) a.table.now a.answer.now (met (goal.at.returns c).In-Some) c.slots.result (c.slots.ensures.0 ∙ ap (λ (x : Geometry). slots x) same) c.if-table-slots.false c.if-answer-ne24.false _ _ (c.write_fresh.ensures ∙ ap (λ (x : Geometry). encode (fresh x)) same) c.put_nothing.ensures
