use Rattle.rules.proofs.Dates.{expiry_three}
use Rattle.open_table.proofs.Calls.{answered, refused}
use Rattle.open_table.proofs.Numbers.{known, known_maps}
use Rattle.refusals.specs.Numbers.{number_of}
use Rattle.call_allocate.proofs.Laws.{allocates, asking, attributes_fit, no_date_lem, placed, refused_so}
use mathlib.Core.Path.{refl, ap}
use Rattle.call_allocate.proofs.allocate_in.Goals as goal

pub returns-in_err-g : goal.returns-in_err-g
returns-in_err-g c =
    answered _ _ _ (refused (allocates c.args.table.now c.args.name.now c.args.attributes.now c.args.kind c.args.start c.args.amount c.args.secondary c.args.option c.args.expiry.now c.args.answer.now _ c.right_lengths-lengths.ensures) _ (c.open_named.ensures.0.refused _ c.in_err-g.was)) _ c.from_residual.ensures.1

pub returns-in_default : goal.returns-in_default
returns-in_default c = no_date_lem c.args.table.now c.args.name.now c.args.attributes.now c.args.kind c.args.start c.args.amount c.args.secondary c.args.option c.args.expiry.now c.args.answer.now _ c.right_lengths-lengths.ensures (c.open_named.ensures.0.opened _ c.in_ok-g.was) c.in_default.ensures

pub vet-requires : goal.vet-requires
vet-requires c =
    let w = known (c.open_named.ensures.0.opened _ c.in_ok-g.was) in
    (w.long, w.is_taken, w.geometry_is)

pub returns-in_err-request : goal.returns-in_err-request
returns-in_err-request c =
    answered _ _ _ (refused_so c.args.table.now c.args.name.now c.args.attributes.now c.args.kind c.args.start c.args.amount c.args.secondary c.args.option c.args.expiry.now c.args.answer.now _ c.right_lengths-lengths.ensures (c.open_named.ensures.0.opened _ c.in_ok-g.was) c.in-Some.stored c.in-Some.ensures c.vet.ensures _ c.in_err-request.was) _ c.from_residual-in_err-request.ensures.1

pub with_expiry-dated-requires : goal.with_expiry-dated-requires
with_expiry-dated-requires c = (expiry_three c.args.expiry.now c.in-Some.stored c.in-Some.ensures, attributes_fit c.args.table.now c.args.name.now c.args.attributes.now c.args.kind c.args.start c.args.amount c.args.secondary c.args.option c.args.expiry.now c.args.answer.now _ c.right_lengths-lengths.ensures (c.open_named.ensures.0.opened _ c.in_ok-g.was))

pub place-requires : goal.place-requires
place-requires c =
    asking c.args.table.now c.args.name.now c.args.attributes.now c.args.kind c.args.start c.args.amount c.args.secondary c.args.option c.args.expiry.now c.args.answer.now _ c.right_lengths-lengths.ensures (c.open_named.ensures.0.opened _ c.in_ok-g.was) c.in-Some.stored c.in-Some.ensures (c.vet.ensures.vetted _ c.in_ok-request.was)
    (known_maps (c.open_named.ensures.0.opened _ c.in_ok-g.was) (ap number_of c.in_ok-g.was) c.open_named.ensures.1 c.requires refl) _ c.with_expiry-dated.ensures

pub returns : goal.returns
returns c =
    placed c.args.table.now c.args.name.now c.args.attributes.now c.args.kind c.args.start c.args.amount c.args.secondary c.args.option c.args.expiry.now c.args.answer.now _ c.right_lengths-lengths.ensures (c.open_named.ensures.0.opened _ c.in_ok-g.was) c.in-Some.stored c.in-Some.ensures (c.vet.ensures.vetted _ c.in_ok-request.was) _ c.with_expiry-dated.ensures _ _ _ c.place.ensures
