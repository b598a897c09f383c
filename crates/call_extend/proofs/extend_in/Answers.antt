use mathlib.Core.Path.{refl}
use Rattle.open_table.proofs.Calls.{answered, set_answer_long, set_done, set_known, set_refused}
use Rattle.call_extend.proofs.Laws.{extends, longer}
use Rattle.call_extend.proofs.extend_in.Goals as goal

pub returns-in_err-opened : goal.returns-in_err-opened
returns-in_err-opened c =
    answered _ _ _ (set_refused (extends c.args.table.now c.args.answer.now c.args.name.now _ c.answer_and_name-lengths.ensures) c.open_set.ensures _ c.in_err-opened.was) _ c.from_residual.ensures.1

pub lengthen-requires : goal.lengthen-requires
lengthen-requires c =
    let y = extends c.args.table.now c.args.answer.now c.args.name.now _ c.answer_and_name-lengths.ensures in
    let x = c.open_set.ensures in
    let z = c.in_ok-opened.was in
    let w = set_known y x z c.requires refl in
    longer c.args.answer.now w (set_answer_long y x z)

pub returns : goal.returns
returns c =
    let y = extends c.args.table.now c.args.answer.now c.args.name.now _ c.answer_and_name-lengths.ensures in
    let x = c.open_set.ensures in
    let z = c.in_ok-opened.was in
    let w = set_known y x z c.requires refl in
    set_done y x z w.it _ _ (c.lengthen.ensures (longer c.args.answer.now w (set_answer_long y x z)))
