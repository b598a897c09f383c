use Rattle.model.specs.Model.{Geometry}
use Rattle.dscb.specs.Forms.{Gives}
use Rattle.dscb.proofs.Stops.{ends_first, ends_past, product_past, read_none, read_same}
use mathlib.Core.Path.{subst}
use native.Mathlib.Omega.{arith}
use Rattle.dscb.proofs.device.Geometry.of_format4.Goals.{then-last-first-via-then-last-first, then-last-first-via-else-last-first+then-last-cylinders}
use Rattle.dscb.proofs.device.Geometry.of_format4.Goals as goal

pub returns-then-not-product_within : goal.returns-then-not-product_within
returns-then-not-product_within c =
    read_none c.args.rec.now c.two-cylinders.result c.two-heads.result c.two-cylinders.ensures.0 c.two-heads.ensures.0
    (λ l. product_past c.two-cylinders.result c.two-heads.result 65535 _ c.product_within.ensures c.if-not-product_within.true l.heads_most l.tracks_most)

pub returns-then-last-first : goal.returns-then-last-first
returns-then-last-first c =
    read_none c.args.rec.now c.two-cylinders.result c.two-heads.result c.two-cylinders.ensures.0 c.two-heads.ensures.0
    (elim c.then-last-first.branch [
      | then-last-first-via-then-last-first w ↦
          ends_first c.two-cylinders.result c.two-heads.result _ _ _ (omega (arith, c.track_or_end-first.ensures, c.track_or_end-last.ensures, w.if-last-first.true))
      | then-last-first-via-else-last-first+then-last-cylinders w ↦
          ends_past c.two-cylinders.result c.two-heads.result _ _ _ (omega (arith, c.track_or_end-last.ensures, w.if-last-cylinders.true))
    ])

pub returns : goal.returns
returns c =
    subst (λ (x : Geometry). Gives x c.within_limits.result)
    (read_same c.args.rec.now c.two-cylinders.result c.two-heads.result c.two-cylinders.ensures.0 c.two-heads.ensures.0 c.from-records.result c.track_or_end-first.result c.track_or_end-last.result
    c.from-records.ensures
    c.track_or_end-first.ensures
    c.track_or_end-last.ensures
    c.if-last-first.false
    c.if-last-cylinders.false)
    c.within_limits.ensures
