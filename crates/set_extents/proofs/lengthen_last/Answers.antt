use Rattle.dscb.specs.Forms.{geometry_of}
use Rattle.set_extents.proofs.Joining.{begins, fewer, last_full, last_in, some_extent, written_longer}
use native.Mathlib.Omega.{arith}
use Rattle.set_extents.proofs.lengthen_last.Goals as goal

pub overflow_sub-n : goal.overflow_sub-n
overflow_sub-n c = some_extent (geometry_of c.args.g) c.args.f1.now c.args.f3.now c.args.n c.requires.0 c.args.start c.requires.2

pub extent_at-last-requires : goal.extent_at-last-requires
extent_at-last-requires c =
    let x = last_in (geometry_of c.args.g) c.args.f1.now c.args.f3.now c.args.n c.requires.0 (some_extent (geometry_of c.args.g) c.args.f1.now c.args.f3.now c.args.n c.requires.0 c.args.start c.requires.2) in
    (c.requires.0.long1, c.requires.0.long3, x.0, x.1, x.2)

pub overflow_sub-lengthened : goal.overflow_sub-lengthened
overflow_sub-lengthened c = some_extent (geometry_of c.args.g) c.args.f1.now c.args.f3.now c.args.n c.requires.0 c.args.start c.requires.2

pub overflow_sub-n-2 : goal.overflow_sub-n-2
overflow_sub-n-2 c = some_extent (geometry_of c.args.g) c.args.f1.now c.args.f3.now c.args.n c.requires.0 c.args.start c.requires.2

pub type_if-requires : goal.type_if-requires
type_if-requires c =
    let x = some_extent (geometry_of c.args.g) c.args.f1.now c.args.f3.now c.args.n c.requires.0 c.args.start c.requires.2 in
    (c.requires.0.long1, c.requires.0.long3, omega (arith, c.requires.0.most))

pub overflow_sub-lengthened-2 : goal.overflow_sub-lengthened-2
overflow_sub-lengthened-2 c =
    let b = begins (geometry_of c.args.g) c.args.f1.now c.args.f3.now c.args.n c.requires.0 _ _ c.extent_at-last.ensures c.args.start c.requires.2 in
    omega arith

pub cut_records-requires : goal.cut_records-requires
cut_records-requires c =
    let x = some_extent (geometry_of c.args.g) c.args.f1.now c.args.f3.now c.args.n c.requires.0 c.args.start c.requires.2 in
    let b = begins (geometry_of c.args.g) c.args.f1.now c.args.f3.now c.args.n c.requires.0 _ _ c.extent_at-last.ensures c.args.start c.requires.2 in
    (c.requires.0.long1, c.requires.0.long3, omega (arith, c.requires.0.most), λ _. omega (arith, c.requires.0.most), omega (arith, c.requires.1))

pub returns : goal.returns
returns c =
    let a = c.args in
    let g = geometry_of a.g in
    let done = c.cut_records.ensures in
    let last = c.extent_at-last in
    let whole = some_extent g a.f1.now a.f3.now a.n c.requires.0 a.start c.requires.2 in
    let full = last_full g a.f1.now a.f3.now a.n c.requires.0 _ _ last.ensures whole in (
      λ l own x.
          written_longer g a.f1.now a.f3.now a.n c.requires.0 _ _ last.ensures a.start c.requires.2 a.type_byte a.count _ (c.type_if.ensures a.g.heads) full l own
          (rw (c.from.ensures, c.from-2.ensures) at (done.0 l (fewer g a.f1.now a.f3.now a.n c.requires.0 l own) x)),
      done.1,
      done.2,
    )
