use lib.ListN.{length, length-take}
use borrow.Author.Rules.{rules}
use Prim.Native.Nat.{ℕ}
use Rattle.refusals.proofs.Laws.{handed_on}
use Rattle.grant_space.specs.Asking.{Chooses}
use Rattle.choose_pieces.specs.Options.{to_option}
use Rattle.request.specs.Request.{to_amount}
use Rattle.grant_space.proofs.NewSet.{asks, declines, grant_writes_lem, limits, lists, long, map_fits_lem, placed, planned, secondary_fits, seeks}
use mathlib.Core.Path.{◌≡◌, refl, subst}
use native.Mathlib.Omega.{arith}
use Rattle.grant_space.proofs.place.Goals as goal

pub fulfil-pieces-requires : goal.fulfil-pieces-requires
fulfil-pieces-requires c = (c.requires.map_fits, asks c.requires, long c.requires, (_, lists c.requires))

pub decide-requires : goal.decide-requires
decide-requires c =
    let none = c.seeker_of-seeker.ensures.2 in record { limits = (long c.requires, c.requires.map_fits, c.requires.long_slots, refl, omega arith, c.requires.long_answer); seeks = seeks c.requires c.fulfil-pieces.ensures _ c.seeker_of-seeker.ensures }

pub returns-in_err-decision : goal.returns-in_err-decision
returns-in_err-decision c =
    subst (λ (n : ℕ). Chooses c.args.table.now c.args.name.now c.args.attributes.now c.args.answer.now (to_option c.args.request.option) (to_amount c.args.request.amount) c.args.request.secondary n c.args.table.now c.decide.new.answer) (handed_on _ _ c.from_residual.ensures.1) (declines c.requires c.fulfil-pieces.ensures _ c.seeker_of-seeker.ensures c.decide.ensures _ c.in_err-decision.was)

pub new_label-requires : goal.new_label-requires
new_label-requires c = (c.requires.long_name, c.requires.long_attributes, secondary_fits c.requires)

pub slice_bounds-pieces-end : goal.slice_bounds-pieces-end
slice_bounds-pieces-end c =
    let long : length c.fulfil-pieces.result ≡ 5 = search rules in
    let x = planned c.requires c.fulfil-pieces.ensures _ c.seeker_of-seeker.ensures c.decide.ensures c.in_ok-decision.was in
    omega (arith, x.few)

pub slice_bounds-write_grant-end-2 : goal.slice_bounds-write_grant-end-2
slice_bounds-write_grant-end-2 c =
    let long : length c.fulfil-pieces.result ≡ 5 = search rules in
    let x = planned c.requires c.fulfil-pieces.ensures _ c.seeker_of-seeker.ensures c.decide.ensures c.in_ok-decision.was in
    omega (arith, x.few, length-take c.in_ok-decision.decision.set.count c.fulfil-pieces.result)

pub write_grant-requires : goal.write_grant-requires
write_grant-requires c =
    let long1 : length c.new_label.result ≡ 140 = search rules in
    let long3 : length c.empty_three.result ≡ 140 = search rules in
    let least = (limits c.requires).least in
    let none = c.seeker_of-seeker.ensures in
    let x = planned c.requires c.fulfil-pieces.ensures _ c.seeker_of-seeker.ensures c.decide.ensures c.in_ok-decision.was in
    let same = x.slot_same in
    let same3 = x.slot3_same in record { limits = (long c.requires, map_fits_lem c.requires _ x.plans.took.long, omega (arith, none.0), omega (arith, none.1), omega (arith, none.2, x.extents_same), x.least, x.few, x.most, long1, long3); grant_writes = grant_writes_lem c.requires c.fulfil-pieces.ensures _ c.seeker_of-seeker.ensures c.decide.ensures c.in_ok-decision.was _ c.unit_byte-unit.ensures _ _ c.new_label.ensures c.empty_three.ensures long1 long3 }

pub returns : goal.returns
returns c =
    let long1 : length c.new_label.result ≡ 140 = let known = c.new_label.type_inv in search rules in
    let long3 : length c.empty_three.result ≡ 140 = let known = c.empty_three.type_inv in search rules in
    placed c.requires c.fulfil-pieces.ensures _ c.seeker_of-seeker.ensures c.decide.ensures c.in_ok-decision.was _ c.unit_byte-unit.ensures _ _ c.new_label.ensures c.empty_three.ensures long1 long3 _ c.write_grant.ensures
