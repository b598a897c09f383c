use Rattle.free_space.proofs.Calls.{at}
use Rattle.call_scratch.proofs.Call.{answer_fits, foreseen, preview_refused}
use Rattle.call_scratch.proofs.preview_in.Goals as goal

pub returns-in_err-opened : goal.returns-in_err-opened
returns-in_err-opened c =
    preview_refused c.open_expired.ensures _ c.in_err-opened.was c.args.answer.now c.and_another-lengths.ensures _ c.from_residual.ensures.1

pub preview_scratch-requires : goal.preview_scratch-requires
preview_scratch-requires c =
    let y = c.open_expired.ensures.goes _ c.in_ok-opened.was in
    let w = y.known in
    record { limits = (w.long, w.inside, answer_fits _ _ _ _ _ y c.args.answer.now c.and_another-lengths.ensures); by_index = (_, _, at w) }

pub returns : goal.returns
returns c =
    let y = c.open_expired.ensures.goes _ c.in_ok-opened.was in
    foreseen _ _ _ _ _ y c.args.answer.now c.and_another-lengths.ensures _ _ (c.preview_scratch.ensures _ _ (at y.known))
