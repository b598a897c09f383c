use Rattle.check_table.proofs.Scan.{scan_start, scan_next, scan_stop, taken_all, taken_twice, taken_wrong}
use Rattle.names.proofs.Laws.{entering_end, entering_next, entering_start, entering_stop}
use Rattle.dscb.specs.Forms.{geometry_of}
use Rattle.model.specs.Model.{slots}
use native.Mathlib.Omega.{arith}
use Prim.Native.Nat.{◌+◌}
use mathlib.Core.Path.{refl, ◌∙◌}
use Rattle.check_table.proofs.take_labels.Goals.{then-not-look-via-then-not-look, then-not-look-via-else-not-look+then-not-enter}
use Rattle.check_table.proofs.take_labels.Goals as goal

pub loop-k-init : goal.loop-k-init
loop-k-init c =
    (c.slots-n.ensures.0, refl, refl, scan_start (geometry_of c.args.g) c.args.table.now c.args.free_tracks.now c.args.free_slots.now c.requires.1, entering_start c.args.table.now _ _ (slots (geometry_of c.args.g)) c.requires.1 (omega (arith, c.args.g.in_limits.least)) refl refl)

pub look-requires : goal.look-requires
look-requires c =
    let l = c.loop-k.invariant in
    (c.requires.0, omega arith, omega arith, omega (arith, l.1, c.requires.2), l.2 ∙ c.requires.3)

pub returns-then-not-look : goal.returns-then-not-look
returns-then-not-look c =
    let g = geometry_of c.args.g in
    let n = slots g in
    let l = c.loop-k in
    let k = c.look in
    elim c.then-not-look.branch [
      | then-not-look-via-then-not-look w ↦
          taken_wrong g c.args.table.now c.args.free_tracks.now k.new.free_tracks c.args.free_slots.now k.new.free_slots n
          (scan_stop g c.args.table.now c.args.free_tracks.now l.free_tracks k.new.free_tracks c.args.free_slots.now l.free_slots k.new.free_slots l.k l.invariant.3 k.result n w.if-not-look.true (omega arith) k.ensures)
      | then-not-look-via-else-not-look+then-not-enter w ↦
          let e = w.enter in
          taken_twice g c.args.table.now c.args.free_tracks.now k.new.free_tracks c.args.free_slots.now k.new.free_slots (l.k + 1) n
          (scan_next g c.args.table.now c.args.free_tracks.now l.free_tracks k.new.free_tracks c.args.free_slots.now l.free_slots k.new.free_slots l.k l.invariant.3 k.result w.if-not-look.false k.ensures)
          (entering_stop c.args.table.now l.tags _ l.seen _ l.k n l.invariant.4 (omega (arith, l.invariant.0, c.loop-k-test.true)) e.result e.ensures w.if-not-enter.true)
    ]

pub enter-requires : goal.enter-requires
enter-requires c =
    let l = c.loop-k in
    let e = l.invariant.4 in
    (omega arith, omega (arith, e.long, c.args.g.in_limits.most), e.tagged, e.wide, e.marked)

pub loop-k-preserved : goal.loop-k-preserved
loop-k-preserved c =
    let l = c.loop-k in
    let k = c.look in
    let e = c.enter in (
      l.invariant.0,
      k.ensures.long_map ∙ l.invariant.1,
      k.ensures.long_slots ∙ l.invariant.2,
      scan_next (geometry_of c.args.g) c.args.table.now c.args.free_tracks.now l.free_tracks k.new.free_tracks c.args.free_slots.now l.free_slots k.new.free_slots l.k l.invariant.3 k.result c.if-not-look.false k.ensures,
      entering_next c.args.table.now l.tags _ l.seen _ l.k (slots (geometry_of c.args.g)) l.invariant.4 (omega (arith, l.invariant.0, c.loop-k-test.true)) e.result e.ensures c.if-not-enter.false,
    )

pub returns : goal.returns
returns c =
    let l = c.loop-k in
    taken_all (geometry_of c.args.g) c.args.table.now c.args.free_tracks.now l.free_tracks c.args.free_slots.now l.free_slots l.k (slots (geometry_of c.args.g)) (omega arith) l.invariant.3 (entering_end c.args.table.now l.tags l.seen l.k (slots (geometry_of c.args.g)) l.invariant.4 (omega (arith, l.invariant.0, c.loop-k-test.false)))
