use Rattle.call_initialise.proofs.Laws.{both_runs, room}
use Rattle.dscb.specs.Forms.{geometry_of}
use native.Mathlib.Omega.{arith}
use Rattle.call_initialise.proofs.fresh_five.Goals as goal

pub put_some-requires : goal.put_some-requires
put_some-requires c =
    let lim = c.args.g.in_limits in
    let i = lim.ends in
    let j = lim.tracks_most in
    let e = room (geometry_of c.args.g) c.blank-rec.result _ c.put_some-j.result _ _ c.blank-rec.ensures c.put_some-j.ensures in
    (e.0, e.1, omega arith)

pub returns : goal.returns
returns c =
    both_runs (geometry_of c.args.g) c.args.g.in_limits c.blank-rec.result _ _ c.put_some-j.result c.put_some.result c.tracks.result c.blank-rec.ensures c.put_some-j.ensures c.tracks.ensures.0 c.put_some.ensures
