use Rattle.call_rename.proofs.Laws.{duplicate, name_put, new_long, renames}
use Rattle.open_table.proofs.Calls.{answer_long, answered, asks, not_found_lem, record_inside, refused}
use Rattle.open_table.proofs.Numbers.{known, name_passed, name_refused, refused_before}
use Rattle.open_table.specs.Opening.{OpenedAs}
use Rattle.refusals.specs.Numbers.{number_of}
use Rattle.rules.specs.Table.{good_name}
use mathlib.Core.Bool.{true, ◌&&◌}
use mathlib.Core.Path.{sym, ap, ◌∙◌}
use Rattle.names.specs.Find.{answer_of}
use Rattle.call_rename.proofs.rename.Goals as goal
use Rattle.call_rename.proofs.rename.Goals.{In_ok-check_name-2}

-- the table is opened, and both names obey the rule
opened : (c : goal.In_ok-check_name-2) → OpenedAs c.args.table.now c.and_another-lengths.result (good_name c.args.old.now && good_name c.args.new.now) c.in_ok-geometry.field-0
opened c =
    name_passed
    (name_passed (c.open_to_read.ensures.opened _ c.in_ok-geometry.was) _ (ap number_of (sym c.in_ok-check_name.was) ∙ c.check_name.ensures))
    _ (ap number_of (sym c.in_ok-check_name-2.was) ∙ c.check_name-2.ensures)

pub returns-in_err-geometry : goal.returns-in_err-geometry
returns-in_err-geometry c =
    answered _ _ _
    (refused (asks (renames c.args.table.now c.args.old.now c.args.new.now c.args.answer.now _ c.and_another-lengths.ensures)) _
    (refused_before _ _ (good_name c.args.old.now) _ _ (refused_before _ _ true _ _ (c.open_to_read.ensures.refused _ c.in_err-geometry.was))))
    _ c.from_residual.ensures.1

pub returns-in_err-check_name : goal.returns-in_err-check_name
returns-in_err-check_name c =
    answered _ _ _
    (refused (asks (renames c.args.table.now c.args.old.now c.args.new.now c.args.answer.now _ c.and_another-lengths.ensures)) _
    (refused_before _ _ (good_name c.args.old.now) _ _
    (name_refused (c.open_to_read.ensures.opened _ c.in_ok-geometry.was) _ _ (ap number_of (sym c.in_err-check_name.was) ∙ c.check_name.ensures))))
    _ c.from_residual-in_err-check_name.ensures.1

pub returns-in_err-check_name-2 : goal.returns-in_err-check_name-2
returns-in_err-check_name-2 c =
    answered _ _ _
    (refused (asks (renames c.args.table.now c.args.old.now c.args.new.now c.args.answer.now _ c.and_another-lengths.ensures)) _
    (name_refused
    (name_passed (c.open_to_read.ensures.opened _ c.in_ok-geometry.was) _ (ap number_of (sym c.in_ok-check_name.was) ∙ c.check_name.ensures))
    _ _ (ap number_of (sym c.in_err-check_name-2.was) ∙ c.check_name-2.ensures)))
    _ c.from_residual-in_err-check_name-2.ensures.1

pub look_up-requires : goal.look_up-requires
look_up-requires c =
    let w = known (opened c) in
    w.long

pub returns-in_default : goal.returns-in_default
returns-in_default c =
    not_found_lem (renames c.args.table.now c.args.old.now c.args.new.now c.args.answer.now _ c.and_another-lengths.ensures) (opened (goal.at.returns-in_default c).In_ok-check_name-2) (ap answer_of (sym c.in_default.is) ∙ c.look_up.ensures)

pub on_volume-requires : goal.on_volume-requires
on_volume-requires c =
    let w = known (opened (goal.at.on_volume-requires c).In_ok-check_name-2) in
    w.long

pub returns-then-on_volume : goal.returns-then-on_volume
returns-then-on_volume c =
    duplicate c.args.table.now c.args.old.now c.args.new.now c.args.answer.now _ c.and_another-lengths.ensures (opened (goal.at.returns-then-on_volume c).In_ok-check_name-2) _ (ap answer_of (sym c.in-Some.is) ∙ c.look_up.ensures) _ c.on_volume.ensures c.if-on_volume.true

pub put_name-requires : goal.put_name-requires
put_name-requires c =
    let x = opened (goal.at.put_name-requires c).In_ok-check_name-2 in (
      record_inside (renames c.args.table.now c.args.old.now c.args.new.now c.args.answer.now _ c.and_another-lengths.ensures) x _ (ap answer_of (sym c.in-Some.is) ∙ c.look_up.ensures),
      new_long c.args.table.now c.args.old.now c.args.new.now c.args.answer.now _ c.and_another-lengths.ensures x,
    )

pub put_nothing-requires : goal.put_nothing-requires
put_nothing-requires c = answer_long (asks (renames c.args.table.now c.args.old.now c.args.new.now c.args.answer.now _ c.and_another-lengths.ensures)) (opened (goal.at.put_nothing-requires c).In_ok-check_name-2)

pub returns : goal.returns
returns c =
    name_put c.args.table.now c.args.old.now c.args.new.now c.args.answer.now _ c.and_another-lengths.ensures (opened (goal.at.returns c).In_ok-check_name-2) _ (ap answer_of (sym c.in-Some.is) ∙ c.look_up.ensures) _ c.on_volume.ensures c.if-on_volume.false _ _ c.put_name.ensures c.put_nothing.ensures
