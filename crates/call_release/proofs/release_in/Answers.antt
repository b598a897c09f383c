use mathlib.Core.Path.{refl}
use Rattle.open_table.proofs.Calls.{answered, set_answer_long, set_done, set_known, set_refused}
use Rattle.free_space.proofs.Calls.{at}
use Rattle.call_release.proofs.Call.{releases}
use Rattle.call_release.proofs.release_in.Goals as goal

pub returns-in_err-opened : goal.returns-in_err-opened
returns-in_err-opened c =
    let y = releases c.args.table.now c.args.answer.now c.args.name.now c.args.ttr _ c.answer_and_name-lengths.ensures in
    answered _ _ _ (set_refused y c.open_set.ensures _ c.in_err-opened.was) _ c.from_residual.ensures.1

pub release_set-requires : goal.release_set-requires
release_set-requires c =
    let y = releases c.args.table.now c.args.answer.now c.args.name.now c.args.ttr _ c.answer_and_name-lengths.ensures in
    let x = c.open_set.ensures in
    let z = c.in_ok-opened.was in
    let w = set_known y x z c.requires refl in
    record { limits = (w.long, w.maps.map_fits, w.maps.long_slots, w.inside, set_answer_long y x z); at = at w }

pub returns : goal.returns
returns c =
    let y = releases c.args.table.now c.args.answer.now c.args.name.now c.args.ttr _ c.answer_and_name-lengths.ensures in
    let x = c.open_set.ensures in
    let z = c.in_ok-opened.was in
    let w = set_known y x z c.requires refl in
    set_done y x z w.it _ _ (c.release_set.ensures (at w))
