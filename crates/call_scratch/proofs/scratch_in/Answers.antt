use Rattle.free_space.proofs.Calls.{at}
use Rattle.call_scratch.proofs.Call.{answer_fits, call_refused, taken_out}
use Rattle.call_scratch.proofs.scratch_in.Goals as goal

pub returns-in_err-opened : goal.returns-in_err-opened
returns-in_err-opened c =
    call_refused c.open_expired.ensures _ c.in_err-opened.was c.args.answer.now c.and_another-lengths.ensures _ c.from_residual.ensures.1

pub scratch_set-requires : goal.scratch_set-requires
scratch_set-requires c =
    let y = c.open_expired.ensures.goes _ c.in_ok-opened.was in
    let w = y.known in
    record { limits = (w.long, w.maps.map_fits, w.maps.long_slots, w.inside, answer_fits _ _ _ _ _ y c.args.answer.now c.and_another-lengths.ensures); at = at w }

pub returns : goal.returns
returns c =
    let y = c.open_expired.ensures.goes _ c.in_ok-opened.was in
    taken_out _ _ _ _ _ y c.args.answer.now c.and_another-lengths.ensures _ _ (c.scratch_set.ensures (at y.known))
