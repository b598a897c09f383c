use Rattle.refusals.proofs.Laws.{handed_on}
use Rattle.refusals.specs.Numbers.{number_of}
use Rattle.grant_space.proofs.NewSet.{asks, foreseen, lists, long, seeks}
use mathlib.Core.Path.{refl, sym, ap, ◌∙◌}
use native.Mathlib.Omega.{arith}
use Rattle.grant_space.proofs.preview_place.Goals as goal

pub fulfil-pieces-requires : goal.fulfil-pieces-requires
fulfil-pieces-requires c =
    let d = c.requires.2 in
    (d.map_fits, asks d, long d, (_, lists d))

pub decide-requires : goal.decide-requires
decide-requires c =
    let d = c.requires.2 in
    let none = c.seeker_of-seeker.ensures.2 in record { limits = (long d, d.map_fits, d.long_slots, refl, omega arith, d.long_answer); seeks = seeks d c.fulfil-pieces.ensures _ c.seeker_of-seeker.ensures }

pub returns-in_err-decide : goal.returns-in_err-decide
returns-in_err-decide c =
    λ name at d. foreseen d c.fulfil-pieces.ensures _ c.seeker_of-seeker.ensures c.decide.ensures _ (sym (handed_on _ _ c.from_residual.ensures.1) ∙ ap number_of (sym c.in_err-decide.was))

pub returns : goal.returns
returns c = λ name at d. foreseen d c.fulfil-pieces.ensures _ c.seeker_of-seeker.ensures c.decide.ensures _ (ap number_of (sym c.in_ok-decide.was))
