use Rattle.model.specs.Model.{tracks}
use native.Mathlib.Omega.{arith}
use Rattle.rules.specs.Reading.{read_extents}
use Rattle.dscb.specs.Forms.{geometry_of}
use Rattle.dscb.proofs.Written.{read_at, read_length}
use Rattle.rules.specs.Calls.{cut_type}
use mathlib.Core.Path.{◌∙◌, ap, sym}
use Rattle.set_extents.proofs.Cutting.{ExtentAt, at_read, good_read, keeping_next, keeping_none, stays_part, stays_whole}
use Rattle.set_extents.proofs.cut_at.Goals as goal
use Rattle.set_extents.proofs.cut_at.Goals.{After-extent_at-x}

-- the extent that the turn looks at
extent_here : (c : After-extent_at-x) → ExtentAt (geometry_of c.args.g) (read_extents c.args.g.heads c.args.f1.now c.args.f3.now c.args.n) c.loop-e.e c.extent_at-x.result.start c.extent_at-x.result.count
extent_here c = at_read (geometry_of c.args.g) c.args.f1.now c.args.f3.now c.args.n c.requires.good c.loop-e.e c.extent_at-x.result.start c.extent_at-x.result.count c.loop-e-test.true c.extent_at-x.ensures

pub loop-e-init : goal.loop-e-init
loop-e-init c = (keeping_none c.args.unit c.args.keep (read_extents c.args.g.heads c.args.f1.now c.args.f3.now c.args.n))

pub extent_at-x-requires : goal.extent_at-x-requires
extent_at-x-requires c =
    let a = c.args in
    let p = c.requires in
    let good = good_read (geometry_of a.g) a.f1.now a.f3.now a.n c.loop-e.e p.good c.loop-e-test.true in
    (p.long1, p.long3, omega (arith, p.most), good.full, omega (arith, good.ends, p.limits.tracks_most))

pub type_if-requires : goal.type_if-requires
type_if-requires c = (c.requires.long1, c.requires.long3, omega (arith, c.requires.most, c.loop-e-test.true))

pub returns-then-left-x : goal.returns-then-left-x
returns-then-left-x c =
    let a = c.args in
    let g = geometry_of a.g in
    let x = extent_here (goal.at.returns-then-left-x c).After-extent_at-x in
    stays_part g a.unit a.keep (read_extents a.g.heads a.f1.now a.f3.now a.n) c.loop-e.e c.loop-e.left c.extent_at-x.result.start c.extent_at-x.result.count x c.loop-e.invariant
    c.type_if.result (c.type_if.ensures a.g.heads ∙ ap (cut_type a.unit) (sym (read_at g a.f1.now a.f3.now a.n c.loop-e.e c.loop-e-test.true))) c.if-left-x.true

pub loop-e-preserved : goal.loop-e-preserved
loop-e-preserved c =
    let a = c.args in
    let x = extent_here (goal.at.loop-e-preserved c).After-extent_at-x in
    (keeping_next (geometry_of a.g) a.unit a.keep (read_extents a.g.heads a.f1.now a.f3.now a.n) c.loop-e.e c.loop-e.left c.extent_at-x.result.start c.extent_at-x.result.count x c.loop-e.invariant c.if-left-x.false)

pub returns : goal.returns
returns c =
    let a = c.args in
    let l = c.loop-e in
    stays_whole a.unit a.keep (read_extents a.g.heads a.f1.now a.f3.now a.n) l.e l.left (tracks (geometry_of a.g)) 0x01 (let n = read_length (geometry_of a.g) a.f1.now a.f3.now a.n in omega arith) l.invariant a.n (read_length (geometry_of a.g) a.f1.now a.f3.now a.n)
