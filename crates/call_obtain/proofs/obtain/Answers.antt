use Rattle.call_obtain.proofs.Laws.{labels_long, obtained, obtains}
use Rattle.open_table.proofs.Calls.{answer_long, answered, asks, not_found_lem, refused, slot_inside}
use Rattle.open_table.proofs.Numbers.{known, name_passed, name_refused, refused_before}
use Rattle.open_table.specs.Opening.{OpenedAs}
use Rattle.refusals.specs.Numbers.{number_of}
use Rattle.rules.specs.Table.{good_name}
use mathlib.Core.Bool.{true}
use mathlib.Core.Path.{sym, ◌∙◌, ap}
use Rattle.names.specs.Find.{answer_of}
use Rattle.call_obtain.proofs.obtain.Goals as goal
use Rattle.call_obtain.proofs.obtain.Goals.{In_ok-check_name}

-- the table is opened, and the name obeys the rule
opened : (c : goal.In_ok-check_name) → OpenedAs c.args.table.now c.and_another-lengths.result (good_name c.args.name.now) c.in_ok-geometry.field-0
opened c =
    name_passed (c.open_to_read.ensures.opened _ c.in_ok-geometry.was) _ (ap number_of (sym c.in_ok-check_name.was) ∙ c.check_name.ensures)

pub returns-in_err-geometry : goal.returns-in_err-geometry
returns-in_err-geometry c =
    answered _ _ _ (refused (asks (obtains c.args.table.now c.args.name.now c.args.labels.now c.args.answer.now _ c.and_another-lengths.ensures)) _ (refused_before _ _ true _ _ (c.open_to_read.ensures.refused _ c.in_err-geometry.was))) _ c.from_residual.ensures.1

pub returns-in_err-check_name : goal.returns-in_err-check_name
returns-in_err-check_name c =
    answered _ _ _
    (refused (asks (obtains c.args.table.now c.args.name.now c.args.labels.now c.args.answer.now _ c.and_another-lengths.ensures)) _
    (name_refused (c.open_to_read.ensures.opened _ c.in_ok-geometry.was) _ _ (ap number_of (sym c.in_err-check_name.was) ∙ c.check_name.ensures)))
    _ c.from_residual-in_err-check_name.ensures.1

pub look_up-requires : goal.look_up-requires
look_up-requires c =
    let w = known (opened c) in
    w.long

pub returns-in_default : goal.returns-in_default
returns-in_default c =
    not_found_lem (obtains c.args.table.now c.args.name.now c.args.labels.now c.args.answer.now _ c.and_another-lengths.ensures) (opened (goal.at.returns-in_default c).In_ok-check_name) (ap answer_of (sym c.in_default.is) ∙ c.look_up.ensures)

pub put_labels-requires : goal.put_labels-requires
put_labels-requires c =
    let x = opened (goal.at.put_labels-requires c).In_ok-check_name in
    let w = known x in (w.long, slot_inside (obtains c.args.table.now c.args.name.now c.args.labels.now c.args.answer.now _ c.and_another-lengths.ensures) x _ (ap answer_of (sym c.in-Some.is) ∙ c.look_up.ensures), labels_long c.args.table.now c.args.name.now c.args.labels.now c.args.answer.now _ c.and_another-lengths.ensures x)

pub put_nothing-requires : goal.put_nothing-requires
put_nothing-requires c =
    answer_long (asks (obtains c.args.table.now c.args.name.now c.args.labels.now c.args.answer.now _ c.and_another-lengths.ensures)) (opened (goal.at.put_nothing-requires c).In_ok-check_name)

pub returns : goal.returns
returns c =
    obtained c.args.table.now c.args.name.now c.args.labels.now c.args.answer.now _ c.and_another-lengths.ensures (opened (goal.at.returns c).In_ok-check_name) _ (ap answer_of (sym c.in-Some.is) ∙ c.look_up.ensures) _ _ c.put_labels.ensures c.put_nothing.ensures
