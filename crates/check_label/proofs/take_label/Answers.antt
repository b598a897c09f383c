use mathlib.Core.Path.{sym, ◌∙◌}
use native.Mathlib.Omega.{arith}
use native.Mathlib.Nat.{mul-le-mul_left}
use Rattle.dscb.specs.Forms.{geometry_of}
use Rattle.check_label.proofs.Joined.{asked_few, label_bad, shaped, slots_refused, taken_so}
use Rattle.check_label.proofs.take_label.Goals as goal

pub returns-in_default : goal.returns-in_default
returns-in_default c =
    label_bad (geometry_of c.args.g) c.args.table.now c.args.k c.requires.0 (λ j. (c.type_inv.table j).fits) c.args.free_tracks.now c.args.free_slots.now (sym c.shape_of.ensures ∙ c.in_default.is)

pub take_slots-requires : goal.take_slots-requires
take_slots-requires c =
    let p = c.requires.0 in
    let ok = shaped (geometry_of c.args.g) c.args.table.now c.args.k p (λ j. (c.type_inv.table j).fits) c.in-Some.q (sym c.shape_of.ensures ∙ c.in-Some.is) in
    let n = p.limits.most in
    (p.low, omega (arith, p.high), omega (arith, ok.slot), c.requires.2)

pub returns-then-not-take_slots : goal.returns-then-not-take_slots
returns-then-not-take_slots c =
    slots_refused (geometry_of c.args.g) c.args.table.now c.args.k c.requires.0 (λ j. (c.type_inv.table j).fits) c.in-Some.q (sym c.shape_of.ensures ∙ c.in-Some.is) c.args.free_tracks.now c.args.free_slots.now c.take_slots.new.free_slots
    c.if-not-take_slots.ensures

pub record_at-f3-requires : goal.record_at-f3-requires
record_at-f3-requires c =
    let p = c.requires.0 in
    let ok = shaped (geometry_of c.args.g) c.args.table.now c.args.k p (λ j. (c.type_inv.table j).fits) c.in-Some.q (sym c.shape_of.ensures ∙ c.in-Some.is) in
    let l = p.long in
    let m = mul-le-mul_left 140 ok.slot in
    omega arith

pub take_extents-requires : goal.take_extents-requires
take_extents-requires c = (c.record_at-f1.ensures.1, c.record_at-f3.ensures.1, asked_few (geometry_of c.args.g) c.args.table.now c.args.k c.requires.0 (λ j. (c.type_inv.table j).fits) c.in-Some.q (sym c.shape_of.ensures ∙ c.in-Some.is) c.record_at-f1.result.now c.record_at-f3.result.now c.from-n.result c.record_at-f1.ensures.0 c.record_at-f3.ensures.0 c.from-n.ensures, c.requires.1)

pub returns : goal.returns
returns c =
    taken_so (geometry_of c.args.g) c.args.table.now c.args.k c.requires.0 (λ j. (c.type_inv.table j).fits) c.in-Some.q (sym c.shape_of.ensures ∙ c.in-Some.is) c.record_at-f1.result.now c.record_at-f3.result.now c.from-n.result c.record_at-f1.ensures.0 c.record_at-f3.ensures.0 c.from-n.ensures
    c.args.free_tracks.now c.take_extents.new.free_tracks c.args.free_slots.now c.take_slots.new.free_slots c.take_extents.result
    c.if-not-take_slots.ensures c.take_extents.ensures
