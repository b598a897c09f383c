use mathlib.Core.Path.{sym, ap, ◌∙◌}
use mathlib.Core.List.{List}
use Prim.Native.Nat.{ℕ}
use lib.ListN.{length}
use native.Mathlib.Omega.{arith}
use Rattle.std.specs.Prelude.{None, Some}
use Rattle.model.specs.Basics.{part}
use Rattle.model.specs.Model.{tracks}
use Rattle.dscb.specs.Forms.{geometry_of, linked_slot}
use Rattle.rows.specs.Words.{all_are}
use Rattle.dscb.specs.Records.{slot_bytes}
use Rattle.check_chain.specs.Entries.{link_ok}
use Rattle.check_chain.proofs.Entries.{listed_at}
use Rattle.check_chain.proofs.Laws.{held_bad, held_last, held_more, none_left, some_left}
use Rattle.check_chain.proofs.take_member.Goals as goal

pub returns-in_err-at : goal.returns-in_err-at
returns-in_err-at c =
    let a = c.args in
    let g = geometry_of a.g in
    rw c.from_residual.ensures
    (held_bad g c.args.g.in_limits a.table.now a.free_tracks.now a.at a.k a.free_slots.now _ c.if-not-take_range.ensures
    (listed_at g a.free_tracks.now c.tracks-t.result (tracks g) a.at c.record_at-rec.result.now (slot_bytes a.table.now a.k) None c.tracks-t.ensures.0 c.record_at-rec.ensures.0 c.in_err-at.ensures))

pub returns-then-next_run-t : goal.returns-then-next_run-t
returns-then-next_run-t c =
    let a = c.args in
    let g = geometry_of a.g in
    rw c.then_some.ensures
    (held_last g c.args.g.in_limits a.table.now a.free_tracks.now a.at a.k a.free_slots.now _ c.if-not-take_range.ensures (λ j. (c.type_inv.table j).fits)
    (sym (ap length c.record_at-rec.ensures.0) ∙ c.record_at-rec.ensures.1) c.in_ok-at.at
    (listed_at g a.free_tracks.now c.tracks-t.result (tracks g) a.at c.record_at-rec.result.now (slot_bytes a.table.now a.k) (Some c.in_ok-at.at) c.tracks-t.ensures.0 c.record_at-rec.ensures.0 c.in_ok-at.ensures)
    (none_left a.free_tracks.now c.tracks-t.result (tracks g) c.in_ok-at.at c.next_run.result.from c.next_run.result.to c.tracks-t.ensures.0 c.next_run.ensures c.if-next_run-t.true)
    c.part_is.result (c.part_is.ensures ∙ ap (λ (x : List ℕ). all_are 0 (part 135 5 x)) c.record_at-rec.ensures.0))

pub returns : goal.returns
returns c =
    let a = c.args in
    let g = geometry_of a.g in
    rw c.then_some-2.ensures
    (held_more g c.args.g.in_limits a.table.now a.free_tracks.now a.at a.k a.free_slots.now _ c.if-not-take_range.ensures (λ j. (c.type_inv.table j).fits)
    (sym (ap length c.record_at-rec.ensures.0) ∙ c.record_at-rec.ensures.1) c.in_ok-at.at
    (listed_at g a.free_tracks.now c.tracks-t.result (tracks g) a.at c.record_at-rec.result.now (slot_bytes a.table.now a.k) (Some c.in_ok-at.at) c.tracks-t.ensures.0 c.record_at-rec.ensures.0 c.in_ok-at.ensures)
    _ _ (some_left a.free_tracks.now c.tracks-t.result (tracks g) c.in_ok-at.at c.next_run.result.from c.next_run.result.to c.tracks-t.ensures.0 c.next_run.ensures (omega (arith, c.if-next_run-t.false)))
    c.link-slot.result (c.link-slot.ensures.0 ∙ ap (λ (x : List ℕ). linked_slot g x) c.record_at-rec.ensures.0)
    c.is_linked.result (c.is_linked.ensures ∙ ap (λ (x : List ℕ). link_ok c.link-slot.result (part 135 5 x)) c.record_at-rec.ensures.0))
