use Rattle.check_table.proofs.Whole.{contents_decide, no_four, no_label, out_of_limits, too_short, wrong_length}
use Rattle.check_table.proofs.Room.{free_for, room_for}
use Rattle.dscb.specs.Forms.{geometry_of}
use Rattle.rules.specs.Reading.{read_geometry}
use native.Mathlib.Omega.{arith}
use mathlib.Core.Path.{ap, ◌∙◌}
use Prim.Native.Nat.{ℕ, ◌*◌}
use Rattle.check_table.proofs.check.Goals as goal

pub returns-then-table-lt140 : goal.returns-then-table-lt140
returns-then-table-lt140 c = too_short c.args.table.now c.args.free_tracks.now c.args.free_slots.now c.if-table-lt140.true

pub returns-then-rec : goal.returns-then-rec
returns-then-rec c =
    no_four c.args.table.now c.args.free_tracks.now c.args.free_slots.now c.if-table-lt140.false c.record_at-rec.result.now c.record_at-rec.ensures.0 c.if-rec.true

pub returns-in_err-g : goal.returns-in_err-g
returns-in_err-g c =
    let read = ap read_geometry c.record_at-rec.ensures.0 in
    rw c.from_residual.ensures
    (out_of_limits c.args.table.now c.args.free_tracks.now c.args.free_slots.now c.if-table-lt140.false (read_geometry c.record_at-rec.result.now) read c.in_err-g.ensures)

pub returns-then-table-slots : goal.returns-then-table-slots
returns-then-table-slots c =
    wrong_length c.args.table.now c.args.free_tracks.now c.args.free_slots.now c.if-table-lt140.false (geometry_of c.in_ok-g.g) (c.in_ok-g.ensures ∙ ap read_geometry c.record_at-rec.ensures.0) c.slots.result c.slots.ensures.0 c.if-table-slots.true

pub overflow_mul-slots : goal.overflow_mul-slots
overflow_mul-slots c = omega (arith, c.slots.ensures.1)

pub contents_ok-requires : goal.contents_ok-requires
contents_ok-requires c =
    let l = c.in_ok-g.g.in_limits in
    let e = c.record_at-rec.ensures.0 in
    let same = c.in_ok-g.ensures ∙ ap read_geometry e in
    (c.if-table-slots.false ∙ ap (λ (n : ℕ). 140 * n) c.slots.ensures.0, no_label c.args.table.now c.record_at-rec.result.now e c.if-rec.false, free_for c.args.table.now c.args.free_tracks.now _ c.requires.0 same l, room_for c.args.table.now c.args.free_tracks.now _ c.requires.0 same l, c.requires.1)

pub returns : goal.returns
returns c =
    contents_decide c.args.table.now c.args.free_tracks.now _ c.args.free_slots.now _ (geometry_of c.in_ok-g.g) c.contents_ok.result c.in_ok-g.g.in_limits
    (c.in_ok-g.ensures ∙ ap read_geometry c.record_at-rec.ensures.0) (c.if-table-slots.false ∙ ap (λ (n : ℕ). 140 * n) c.slots.ensures.0) c.contents_ok.ensures
