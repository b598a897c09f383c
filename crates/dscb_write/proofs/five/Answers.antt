use native.Mathlib.Omega.{arith}
use Rattle.dscb.specs.Forms.{geometry_of}
use Rattle.dscb_write.proofs.Format5.{filling_ends, filling_next}
use Rattle.dscb_write.proofs.five.Goals as goal

pub returns-then-free-n : goal.returns-then-free-n
returns-then-free-n c =
    let l = c.loop-j in
    let r = c.run_ahead-free in
    filling_ends (geometry_of c.args.g) c.args.free_tracks.now c.args.n c.args.at c.args.k l.j l.t r.result.from r.result.to l.rec l.auto.j-end l.invariant.1 r.ensures.0 c.if-free-n.true

pub loop-j-preserved : goal.loop-j-preserved
loop-j-preserved c =
    let l = c.loop-j in
    let r = c.run_ahead-free in
    (r.ensures.1, rw (c.put_entry.ensures, c.entry_place.ensures.0) (filling_next (geometry_of c.args.g) c.args.free_tracks.now c.args.n c.args.at c.args.k l.j l.t r.result.from r.result.to l.rec (omega arith) l.invariant.1 r.ensures.0 c.if-free-n.false))
