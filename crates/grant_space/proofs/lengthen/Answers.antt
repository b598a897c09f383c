use lib.ListN.{length, length-take}
use borrow.Author.Rules.{rules}
use Prim.Native.Nat.{ℕ}
use Rattle.refusals.proofs.Laws.{handed_on}
use Rattle.grant_space.specs.Longer.{Extended}
use Rattle.grant_space.proofs.MoreSpace.{asks, declines, extents_most, grant_writes_lem, inside, known_set, lengthened, lists, long, map_fits_lem, no_secondary, one_long, planned, seeks, third_inside, three_long}
use mathlib.Core.Path.{◌≡◌, refl, subst}
use native.Mathlib.Omega.{arith}
use Rattle.grant_space.proofs.lengthen.Goals as goal

pub set_at-held-requires : goal.set_at-held-requires
set_at-held-requires c = (long c.requires, inside c.requires)

pub returns-in_err-more : goal.returns-in_err-more
returns-in_err-more c =
    λ d. subst (λ (n : ℕ). Extended d n c.args.table.now c.args.answer.now) (handed_on _ _ c.from_residual.ensures.1) (no_secondary d c.set_at-held.ensures c.asked_more.ensures _ c.in_err-more.was)

pub fulfil-pieces-requires : goal.fulfil-pieces-requires
fulfil-pieces-requires c =
    (c.requires.map_fits, asks c.requires c.set_at-held.ensures c.asked_more.ensures c.in_ok-more.was, long c.requires, (_, lists c.requires))

pub joins_last-joins-requires : goal.joins_last-joins-requires
joins_last-joins-requires c = known_set c.requires c.set_at-held.ensures

pub decide-requires : goal.decide-requires
decide-requires c =
    let many = c.seeker_of-seeker.ensures.2 in record { limits = (long c.requires, c.requires.map_fits, c.requires.long_slots, refl, omega (arith, extents_most c.requires c.set_at-held.ensures), c.requires.long_answer); seeks = seeks c.requires c.set_at-held.ensures c.asked_more.ensures c.in_ok-more.was c.fulfil-pieces.ensures c.joins_last-joins.ensures _ c.seeker_of-seeker.ensures }

pub returns-in_err-decision : goal.returns-in_err-decision
returns-in_err-decision c =
    λ d. subst (λ (n : ℕ). Extended d n c.args.table.now c.decide.new.answer) (handed_on _ _ c.from_residual-in_err-decision.ensures.1) (declines d c.set_at-held.ensures c.asked_more.ensures c.in_ok-more.was c.fulfil-pieces.ensures c.joins_last-joins.ensures _ c.seeker_of-seeker.ensures c.decide.ensures _ c.in_err-decision.was)

pub slice_bounds-pieces-end : goal.slice_bounds-pieces-end
slice_bounds-pieces-end c =
    let long : length c.fulfil-pieces.result ≡ 5 = search rules in
    let x = planned c.requires c.set_at-held.ensures c.asked_more.ensures c.in_ok-more.was c.fulfil-pieces.ensures c.joins_last-joins.ensures _ c.seeker_of-seeker.ensures c.decide.ensures c.in_ok-decision.was in
    omega (arith, x.few)

pub slice_bounds-write_grant-end-2 : goal.slice_bounds-write_grant-end-2
slice_bounds-write_grant-end-2 c =
    let long : length c.fulfil-pieces.result ≡ 5 = search rules in
    let x = planned c.requires c.set_at-held.ensures c.asked_more.ensures c.in_ok-more.was c.fulfil-pieces.ensures c.joins_last-joins.ensures _ c.seeker_of-seeker.ensures c.decide.ensures c.in_ok-decision.was in
    omega (arith, x.few, length-take c.in_ok-decision.decision.set.count c.fulfil-pieces.result)

pub write_grant-requires : goal.write_grant-requires
write_grant-requires c =
    let found = c.seeker_of-seeker.ensures in
    let x = planned c.requires c.set_at-held.ensures c.asked_more.ensures c.in_ok-more.was c.fulfil-pieces.ensures c.joins_last-joins.ensures _ c.seeker_of-seeker.ensures c.decide.ensures c.in_ok-decision.was in
    let same = x.slot_same in
    let same3 = x.slot3_same in record { limits = (long c.requires, map_fits_lem c.requires _ x.plans.took.long, omega (arith, found.0, inside c.requires), omega (arith, found.1, third_inside c.requires c.set_at-held.ensures), omega (arith, x.extents_same, found.2, extents_most c.requires c.set_at-held.ensures), x.least, x.few, x.most, one_long c.requires c.set_at-held.ensures, three_long c.requires c.set_at-held.ensures); grant_writes = grant_writes_lem c.requires c.set_at-held.ensures c.asked_more.ensures c.in_ok-more.was c.fulfil-pieces.ensures c.joins_last-joins.ensures _ c.seeker_of-seeker.ensures c.decide.ensures c.in_ok-decision.was }

pub returns : goal.returns
returns c =
    λ d. lengthened d c.set_at-held.ensures c.asked_more.ensures c.in_ok-more.was c.fulfil-pieces.ensures c.joins_last-joins.ensures _ c.seeker_of-seeker.ensures c.decide.ensures c.in_ok-decision.was _ c.write_grant.ensures
