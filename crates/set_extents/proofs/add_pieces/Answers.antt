use mathlib.Core.Path.{refl}
use Rattle.dscb.specs.Forms.{geometry_of}
use Rattle.set_extents.proofs.Pieces.{added_all, adding_next}
use Rattle.set_extents.proofs.add_pieces.Goals as goal

pub loop-k-preserved : goal.loop-k-preserved
loop-k-preserved c =
    let a = c.args in
    let l = c.loop-k in
    let more = c.add_extent.ensures in (
      more.1,
      more.2,
      adding_next (geometry_of a.g) a.type_byte a.pieces.now a.n a.f1.now a.f3.now l.f1 l.f3 l.k _ _ c.loop-k-test.true refl refl _ _ more.0 l.invariant.2,
    )

pub returns : goal.returns
returns c =
    let a = c.args in
    let l = c.loop-k in
    (added_all (geometry_of a.g) a.type_byte a.pieces.now a.n a.f1.now a.f3.now l.f1 l.f3 l.k c.loop-k-test.false l.invariant.2, l.invariant.0)
