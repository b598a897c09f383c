use Prim.Native.Nat.{ℕ}
use Rattle.refusals.proofs.Laws.{handed_on}
use Rattle.refusals.specs.Numbers.{number_of}
use Rattle.grant_space.specs.Longer.{ExtendForeseen}
use Rattle.grant_space.proofs.MoreSpace.{asks, extents_most, foreseen, inside, known_set, lists, long, no_secondary_foreseen, seeks}
use mathlib.Core.Path.{refl, sym, ap, ◌∙◌, subst}
use native.Mathlib.Omega.{arith}
use Rattle.grant_space.proofs.preview_longer.Goals as goal

pub set_at-held-requires : goal.set_at-held-requires
set_at-held-requires c = (long c.requires, inside c.requires)

pub returns-in_err-more : goal.returns-in_err-more
returns-in_err-more c =
    λ d. subst (λ (n : ℕ). ExtendForeseen d n c.args.answer.now) (handed_on _ _ c.from_residual.ensures.1) (no_secondary_foreseen d c.set_at-held.ensures c.asked_more.ensures _ c.in_err-more.was)

pub fulfil-pieces-requires : goal.fulfil-pieces-requires
fulfil-pieces-requires c =
    (c.requires.map_fits, asks c.requires c.set_at-held.ensures c.asked_more.ensures c.in_ok-more.was, long c.requires, (_, lists c.requires))

pub joins_last-joins-requires : goal.joins_last-joins-requires
joins_last-joins-requires c = known_set c.requires c.set_at-held.ensures

pub decide-requires : goal.decide-requires
decide-requires c =
    let many = c.seeker_of-seeker.ensures.2 in record { limits = (long c.requires, c.requires.map_fits, c.requires.long_slots, refl, omega (arith, extents_most c.requires c.set_at-held.ensures), c.requires.long_answer); seeks = seeks c.requires c.set_at-held.ensures c.asked_more.ensures c.in_ok-more.was c.fulfil-pieces.ensures c.joins_last-joins.ensures _ c.seeker_of-seeker.ensures }

pub returns-in_err-decide : goal.returns-in_err-decide
returns-in_err-decide c =
    λ d. foreseen d c.set_at-held.ensures c.asked_more.ensures c.in_ok-more.was c.fulfil-pieces.ensures c.joins_last-joins.ensures _ c.seeker_of-seeker.ensures c.decide.ensures _ (sym (handed_on _ _ c.from_residual-in_err-decide.ensures.1) ∙ ap number_of (sym c.in_err-decide.was))

pub returns : goal.returns
returns c =
    λ d. foreseen d c.set_at-held.ensures c.asked_more.ensures c.in_ok-more.was c.fulfil-pieces.ensures c.joins_last-joins.ensures _ c.seeker_of-seeker.ensures c.decide.ensures _ (ap number_of (sym c.in_ok-decide.was))
