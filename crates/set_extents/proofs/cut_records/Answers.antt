use native.Mathlib.Omega.{arith}
use Rattle.dscb.specs.Forms.{geometry_of}
use Rattle.dscb_write.specs.Labels.{first_extents}
use Rattle.set_extents.proofs.Cutting.{first_length, with_part, without_part}
use Rattle.set_extents.proofs.cut_records.Goals as goal

pub returns-then-k-eq0 : goal.returns-then-k-eq0
returns-then-k-eq0 c =
    let a = c.args in
    let g = geometry_of a.g in
    let one = c.keep_extents1.ensures in
    let three = c.keep_third.ensures in (
      λ l h x.
          without_part a.k.whole a.k.type_byte a.k.start a.k.count l c.if-k-eq0.true
          (record { one = one.0 g l h x.one; three = three.0 g l x.three }),
      one.1,
      three.1,
    )

pub add_extent-requires : goal.add_extent-requires
add_extent-requires c =
    let p = c.requires in
    let u = c.if-k-eq0.false in
    let one = c.keep_extents1.ensures in
    let three = c.keep_third.ensures in
    (one.1, three.1, p.3 (omega arith), omega arith, p.4)

pub returns : goal.returns
returns c =
    let a = c.args in
    let g = geometry_of a.g in
    let one = c.keep_extents1.ensures in
    let three = c.keep_third.ensures in
    let more = c.add_extent.ensures in (
      λ l h x.
          with_part a.k.whole a.k.type_byte a.k.start a.k.count l c.if-k-eq0.false
          (more.0 (first_extents a.k.whole l) (first_length a.k.whole l h) (record { one = one.0 g l h x.one; three = three.0 g l x.three })),
      more.1,
      more.2,
    )
