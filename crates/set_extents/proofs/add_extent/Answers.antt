use native.Mathlib.Omega.{arith}
use Rattle.model.specs.Model.{extent, run}
use Rattle.dscb.specs.Forms.{geometry_of}
use Rattle.set_extents.proofs.Pieces.{three_few}
use Rattle.set_extents.proofs.add_extent.Goals as goal

pub returns-then-n-lt3 : goal.returns-then-n-lt3
returns-then-n-lt3 c =
    let a = c.args in
    let done = c.add_extent1.ensures in (
      λ l h x.
          record {
            one = done.0 l h x.one;
            three = three_few (geometry_of a.g) l (extent a.type_byte (run a.start a.count)) a.f3.now (omega (arith, h, c.if-n-lt3.true)) x.three;
          },
      done.1,
      c.requires.1,
    )

pub returns : goal.returns
returns c =
    let done = c.add_extent1.ensures in
    let more = c.add_extent3.ensures in
    (λ l h x. record { one = done.0 l h x.one; three = more.0 l h x.three }, done.1, more.1)
