use Rattle.request.proofs.Granting.{absolute_asked, absolute_reply, cylinders_asked, cylinders_reply, tracks_asked, tracks_reply}
use Rattle.dscb.specs.Forms.{geometry_of}
use Rattle.choose_pieces.specs.Options.{to_option}
use native.Mathlib.Omega.{arith}
use Rattle.request.proofs.fulfil.Goals as goal

pub choose-requires : goal.choose-requires
choose-requires c =
    let p = c.requires in
    let k = tracks_asked (geometry_of c.args.g) c.args.amount p.1 _ c.in-Tracks.is in
    record { limits = (p.2, omega arith, omega arith); le_amount = (k, p.3) }

pub choose-requires-in-Cylinders : goal.choose-requires-in-Cylinders
choose-requires-in-Cylinders c =
    let p = c.requires in
    let k = cylinders_asked (geometry_of c.args.g) c.args.amount p.1 _ c.in-Cylinders.is in
    record { limits = (p.2, omega (arith, c.args.g.in_limits.heads), omega (arith, c.args.g.in_limits.heads_most)); le_amount = (k, p.3) }

pub exact-requires : goal.exact-requires
exact-requires c =
    let p = c.requires in
    let k = absolute_asked (geometry_of c.args.g) c.args.amount p.1 _ _ c.in-Absolute.is in
    let t = c.args.g.in_limits.tracks_most in
    let m = p.0 in
    (k.0, omega arith, omega arith)

pub returns-in-Tracks : goal.returns-in-Tracks
returns-in-Tracks c =
    λ ls h d.
    let a = c.args in
    tracks_reply a.free_tracks.now (geometry_of a.g) ls h (to_option a.option) a.amount _ _ c.in-Tracks.is (c.choose.ensures _ d)

pub returns-in-Cylinders : goal.returns-in-Cylinders
returns-in-Cylinders c =
    λ ls h d.
    let a = c.args in
    cylinders_reply a.free_tracks.now (geometry_of a.g) ls h (to_option a.option) a.amount _ _ c.in-Cylinders.is (rw c.from.ensures at c.choose-in-Cylinders.ensures _ d)

pub returns-in-Absolute : goal.returns-in-Absolute
returns-in-Absolute c =
    λ ls h d.
    let a = c.args in
    let e = c.in-Absolute.is in
    absolute_reply a.free_tracks.now (geometry_of a.g) ls h (to_option a.option) a.amount _ _ _ e (absolute_asked (geometry_of a.g) a.amount c.requires.1 _ _ e).1 c.exact.ensures
