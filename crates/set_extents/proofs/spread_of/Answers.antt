use native.Mathlib.Omega.{arith}
use Rattle.model.specs.Model.{tracks}
use Rattle.rules.specs.Reading.{read_extents}
use Rattle.dscb.specs.Forms.{geometry_of}
use Rattle.dscb.proofs.Written.{read_length}
use Rattle.set_extents.proofs.Cutting.{ExtentAt, at_read, tracks_within, good_read, spread_all, spread_next, spread_none}
use Rattle.set_extents.proofs.spread_of.Goals as goal
use Rattle.set_extents.proofs.spread_of.Goals.{After-extent_at-x}

-- the extent that the turn looks at
extent_here : (c : After-extent_at-x) → ExtentAt (geometry_of c.args.g) (read_extents c.args.g.heads c.args.f1.now c.args.f3.now c.args.n) c.loop-e.e c.extent_at-x.result.start c.extent_at-x.result.count
extent_here c = at_read (geometry_of c.args.g) c.args.f1.now c.args.f3.now c.args.n c.requires.good c.loop-e.e c.extent_at-x.result.start c.extent_at-x.result.count c.loop-e-test.true c.extent_at-x.ensures

pub loop-e-init : goal.loop-e-init
loop-e-init c = (spread_none _ c.tracks-lowest.result c.tracks-lowest.ensures.0, omega arith)

pub extent_at-x-requires : goal.extent_at-x-requires
extent_at-x-requires c =
    let a = c.args in
    let p = c.requires in
    let good = good_read (geometry_of a.g) a.f1.now a.f3.now a.n c.loop-e.e p.good c.loop-e-test.true in
    (p.long1, p.long3, omega (arith, p.most), good.full, omega (arith, good.ends, p.limits.tracks_most))

pub overflow_add-all : goal.overflow_add-all
overflow_add-all c =
    let a = c.args in
    let l = c.loop-e in
    let x = c.extent_at-x in
    let y = extent_here (goal.at.overflow_add-all c).After-extent_at-x in
    let q = tracks_within (geometry_of a.g) _ l.e x.result.start x.result.count c.requires.limits y in
    omega (arith, l.invariant.1, c.requires.most, c.loop-e-test.true)

pub loop-e-preserved : goal.loop-e-preserved
loop-e-preserved c =
    let a = c.args in
    let l = c.loop-e in
    let x = c.extent_at-x in
    let y = extent_here (goal.at.loop-e-preserved c).After-extent_at-x in
    let q = tracks_within (geometry_of a.g) _ l.e x.result.start x.result.count c.requires.limits y in (
      spread_next (geometry_of a.g) (read_extents a.g.heads a.f1.now a.f3.now a.n) l.e x.result.start x.result.count l.all l.lowest c.min-lowest.result y c.min-lowest.ensures l.invariant.0,
      omega (arith, l.invariant.1),
    )

pub returns : goal.returns
returns c =
    let a = c.args in
    let l = c.loop-e in
    let n = read_length (geometry_of a.g) a.f1.now a.f3.now a.n in
    spread_all (tracks (geometry_of a.g)) (read_extents a.g.heads a.f1.now a.f3.now a.n) l.e l.all l.lowest (omega (arith, c.loop-e-test.false)) l.invariant.0
