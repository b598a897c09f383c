use mathlib.Core.Path.{ap, ◌∙◌, subst}
use Rattle.std.specs.Prelude.{Option, Some, false, true}
use Rattle.model.specs.Model.{tracks}
use Rattle.dscb.specs.Forms.{geometry_of}
use Rattle.bitmap.specs.Map.{free_from}
use Rattle.check_chain.specs.declared.Member.{Member}
use Rattle.check_chain.specs.declared.Member.TheVariants.{Next}
use Rattle.check_chain.specs.Chain.{Held}
use Rattle.check_chain.proofs.Laws.{fewer, go_on, gone_bad, gone_last}
use Rattle.check_chain.proofs.take_chain.Goals.{In-Some-Next}
use Rattle.check_chain.proofs.take_chain.Goals as goal

pub returns-in-None : goal.returns-in-None
returns-in-None c =
    let g = geometry_of c.args.g in
    let f = free_from c.args.free_tracks.now (tracks g) c.loop-slot.at in
    let h = subst (λ (r : Option Member). Held g c.args.table.now c.args.free_tracks.now f c.loop-slot.k c.loop-slot.free_slots c.take_member.new.free_slots r) c.in-None.is c.take_member.ensures in
    c.loop-slot.invariant.3 _ false (gone_bad g c.args.table.now c.args.free_tracks.now f c.loop-slot.k c.loop-slot.invariant.0 c.loop-slot.free_slots c.take_member.new.free_slots h)

pub returns-in-Some-Last : goal.returns-in-Some-Last
returns-in-Some-Last c =
    let g = geometry_of c.args.g in
    let f = free_from c.args.free_tracks.now (tracks g) c.loop-slot.at in
    let h = subst (λ (r : Option Member). Held g c.args.table.now c.args.free_tracks.now f c.loop-slot.k c.loop-slot.free_slots c.take_member.new.free_slots r) (c.in-Some-Last.is ∙ ap Some c.in-Some-Last.field-0-is) c.take_member.ensures in
    c.loop-slot.invariant.3 _ true (gone_last g c.args.table.now c.args.free_tracks.now f c.loop-slot.k c.loop-slot.invariant.0 c.loop-slot.free_slots c.take_member.new.free_slots h)

-- the member, and that the chain goes on
held : (c : In-Some-Next) → Held (geometry_of c.args.g) c.args.table.now c.args.free_tracks.now (free_from c.args.free_tracks.now (tracks (geometry_of c.args.g)) c.loop-slot.at) c.loop-slot.k c.loop-slot.free_slots c.take_member.new.free_slots (Some (Next c.in-Some-Next.slot c.in-Some-Next.behind))
held c =
    let g = geometry_of c.args.g in
    let f = free_from c.args.free_tracks.now (tracks g) c.loop-slot.at in
    subst (λ (r : Option Member). Held g c.args.table.now c.args.free_tracks.now f c.loop-slot.k c.loop-slot.free_slots c.take_member.new.free_slots r) (c.in-Some-Next.is ∙ ap Some c.in-Some-Next.field-0-is) c.take_member.ensures

pub loop-slot-smaller : goal.loop-slot-smaller
loop-slot-smaller c =
    let g = geometry_of c.args.g in
    fewer g c.args.table.now c.args.free_tracks.now (free_from c.args.free_tracks.now (tracks g) c.loop-slot.at) c.loop-slot.k c.loop-slot.invariant.0 c.loop-slot.free_slots c.take_member.new.free_slots c.in-Some-Next.slot c.in-Some-Next.behind
    (held (goal.at.loop-slot-smaller c).In-Some-Next)

pub loop-slot-preserved : goal.loop-slot-preserved
loop-slot-preserved c =
    let g = geometry_of c.args.g in
    let l = c.loop-slot.invariant in
    let h = held (goal.at.loop-slot-preserved c).In-Some-Next in (
      h.told.behind.inside,
      h.told.behind.up_to,
      h.long ∙ l.2,
      λ s r x. l.3 s r (go_on g c.args.table.now c.args.free_tracks.now (free_from c.args.free_tracks.now (tracks g) c.loop-slot.at) c.loop-slot.k l.0 c.loop-slot.free_slots c.take_member.new.free_slots c.in-Some-Next.slot c.in-Some-Next.behind h s r x),
    )
