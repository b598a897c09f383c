use Rattle.dscb.proofs.Stops.{volume_past, vtoc_past}
use Rattle.dscb.proofs.Failing.{before_vtoc, no_head, no_record, past_records}
use Rattle.dscb.specs.Forms.{geometry_of}
use Rattle.model.specs.Model.{slots}
use native.Mathlib.Omega.{arith}
use Rattle.dscb.proofs.slot_of.Goals.{then-head-g-via-then-head-g, then-head-g-via-else-head-g+then-r-lt1, then-head-g-via-else-head-g+else-r-lt1+then-r-g, then-head-g-via-else-head-g+else-r-lt1+else-r-g+then-cylinder-g}
use Rattle.dscb.proofs.slot_of.Goals.{then-t-g-via-then-t-g, then-t-g-via-else-t-g+then-t-g-2}
use Rattle.dscb.proofs.slot_of.Goals as goal

pub returns-then-head-g : goal.returns-then-head-g
returns-then-head-g c =
    let g = c.args.g in
    let n = slots (geometry_of g) in
    elim c.then-head-g.branch [
      | then-head-g-via-then-head-g w ↦ no_head g.heads g.records g.vtoc_start n c.args.x.now (omega (arith, w.if-head-g.true, c.two-head.ensures.0))
      | then-head-g-via-else-head-g+then-r-lt1 w ↦ no_record g.heads g.records g.vtoc_start n c.args.x.now (omega (arith, w.if-r-lt1.true, c.from-r.ensures))
      | then-head-g-via-else-head-g+else-r-lt1+then-r-g w ↦ past_records g.heads g.records g.vtoc_start n c.args.x.now (omega (arith, w.if-r-g.true, c.from-r.ensures))
      | then-head-g-via-else-head-g+else-r-lt1+else-r-g+then-cylinder-g w ↦
          volume_past (geometry_of g) c.args.x.now c.args.g.in_limits (omega (arith, w.if-r-lt1.false, c.from-r.ensures)) (omega (arith, w.if-cylinder-g.true, c.two-cylinder.ensures.0))
    ]

pub returns-then-t-g : goal.returns-then-t-g
returns-then-t-g c =
    let g = c.args.g in
    elim c.then-t-g.branch [
      | then-t-g-via-then-t-g w ↦ before_vtoc g.heads g.records g.vtoc_start (slots (geometry_of g)) c.args.x.now (omega (arith, w.if-t-g.true, c.track_at-t.ensures))
      | then-t-g-via-else-t-g+then-t-g-2 w ↦ vtoc_past (geometry_of g) c.args.x.now c.args.g.in_limits (omega (arith, c.if-r-lt1.false, c.from-r.ensures)) (omega (arith, w.if-t-g-2.true, c.track_at-t.ensures))
    ]
