use native.Mathlib.Omega.{arith}
use Rattle.grant_space.proofs.Laws.{grant_done, joins_first, pieces_in_lem, puts, rows_long}
use Rattle.grant_space.proofs.write_grant.Goals as goal

pub put_pieces-requires : goal.put_pieces-requires
put_pieces-requires c =
    let p = c.requires.limits in
    let d = c.requires.grant_writes in
    let n = rows_long d.grants in
    (d.set, joins_first d, omega (arith, p.5), omega (arith, p.7), pieces_in_lem d.grants 65535 c.args.g.in_limits.tracks_most)

pub write_set-requires : goal.write_set-requires
write_set-requires c =
    let p = c.requires.limits in
    let d = c.requires.grant_writes in
    let y = c.put_pieces.ensures in record { limits = (p.0, p.1, p.2, p.3, y.1); puts = puts d _ c.few.ensures _ _ (y.0 d.grants.label d.grants.pieces d.extents d.grants.rows_are d.records) }

pub returns : goal.returns
returns c =
    λ d.
    let y = c.put_pieces.ensures.0 d.grants.label d.grants.pieces d.extents d.grants.rows_are d.records in
    grant_done d _ c.few.ensures _ _ y _ c.write_set.ensures
