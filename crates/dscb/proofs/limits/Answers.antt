use Rattle.dscb.proofs.Stops.{limits_last, product_fits, product_past}
use Rattle.dscb.proofs.Sound.{no_limits}
use Rattle.rules.specs.Promises.{geometry}
use native.Mathlib.Omega.{arith}
use mathlib.Core.Path.{◌∙◌}
use Rattle.dscb.proofs.limits.Goals.{then-vtoc_start-lt1-via-then-vtoc_start-lt1, then-vtoc_start-lt1-via-else-vtoc_start-lt1+then-vtoc_start-t, then-vtoc_start-lt1-via-else-vtoc_start-lt1+else-vtoc_start-t+then-vtoc_tracks-t}
use Rattle.dscb.proofs.limits.Goals as goal

pub returns-then-not-product_within : goal.returns-then-not-product_within
returns-then-not-product_within c =
    let g = c.args in
    no_limits (geometry g.cylinders g.heads g.records g.vtoc_start g.vtoc_tracks) (λ x. product_past g.cylinders g.heads 65535 _ c.product_within.ensures c.if-not-product_within.true x.heads_most x.tracks_most)

pub returns-then-vtoc_start-lt1 : goal.returns-then-vtoc_start-lt1
returns-then-vtoc_start-lt1 c =
    no_limits (geometry c.args.cylinders c.args.heads c.args.records c.args.vtoc_start c.args.vtoc_tracks)
    (λ x.
    elim c.then-vtoc_start-lt1.branch [
      | then-vtoc_start-lt1-via-then-vtoc_start-lt1 w ↦ absurd (omega (arith, x.start, w.if-vtoc_start-lt1.true))
      | then-vtoc_start-lt1-via-else-vtoc_start-lt1+then-vtoc_start-t w ↦ absurd (omega (arith, x.ends, w.if-vtoc_start-t.true))
      | then-vtoc_start-lt1-via-else-vtoc_start-lt1+else-vtoc_start-t+then-vtoc_tracks-t w ↦ absurd (omega (arith, x.ends, w.if-vtoc_tracks-t.true))
    ])

pub returns-then-product_within : goal.returns-then-product_within
returns-then-product_within c =
    let g = c.args in
    let ch = product_fits g.cylinders g.heads 65535 _ c.product_within.ensures c.if-not-product_within.false in
    let vd = product_fits g.vtoc_tracks g.records 468 _ c.product_within-2.ensures c.if-product_within.true in
    limits_last (geometry g.cylinders g.heads g.records g.vtoc_start g.vtoc_tracks) ch c.if-vtoc_start-lt1.false c.if-vtoc_start-t.false c.if-vtoc_tracks-t.false vd

pub returns-else-product_within : goal.returns-else-product_within
returns-else-product_within c =
    let g = c.args in
    c.if-product_within.false
    ∙ no_limits (geometry g.cylinders g.heads g.records g.vtoc_start g.vtoc_tracks) (λ x. product_past g.vtoc_tracks g.records 468 _ c.product_within-2.ensures c.if-product_within.false x.records_most x.most)
