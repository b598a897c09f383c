use native.Mathlib.Omega.{arith}
use Rattle.rules.specs.Reading.{read_extents}
use Rattle.dscb.specs.Forms.{geometry_of}
use Rattle.dscb.proofs.Written.{read_length}
use Rattle.set_extents.proofs.Cutting.{ExtentAt, at_read, good_read, tracks_within}
use Rattle.set_extents.proofs.Keeping.{along_all, along_next, along_none, along_stop}
use Rattle.set_extents.proofs.to_cylinder_end.Goals as goal
use Rattle.set_extents.proofs.to_cylinder_end.Goals.{After-extent_at-x}

-- the extent that the turn looks at
extent_here : (c : After-extent_at-x) → ExtentAt (geometry_of c.args.g) (read_extents c.args.g.heads c.args.f1.now c.args.f3.now c.args.n) c.loop-e.e c.extent_at-x.result.start c.extent_at-x.result.count
extent_here c = at_read (geometry_of c.args.g) c.args.f1.now c.args.f3.now c.args.n c.requires.good c.loop-e.e c.extent_at-x.result.start c.extent_at-x.result.count c.loop-e-test.true c.extent_at-x.ensures

pub loop-e-init : goal.loop-e-init
loop-e-init c =
    let a = c.args in
    along_none a.g.heads a.keep (read_extents a.g.heads a.f1.now a.f3.now a.n)

pub extent_at-x-requires : goal.extent_at-x-requires
extent_at-x-requires c =
    let a = c.args in
    let p = c.requires in
    let good = good_read (geometry_of a.g) a.f1.now a.f3.now a.n c.loop-e.e p.good c.loop-e-test.true in
    (p.long1, p.long3, omega (arith, p.most), good.full, omega (arith, good.ends, p.limits.tracks_most))

pub stays_of-stay-requires : goal.stays_of-stay-requires
stays_of-stay-requires c =
    let a = c.args in
    let x = extent_here (goal.at.stays_of-stay-requires c).After-extent_at-x in
    (omega (arith, c.from.ensures, c.requires.limits.heads), x.full, omega (arith, x.ends, c.requires.limits.tracks_most), c.loop-e.invariant.low)

pub overflow_add-kept : goal.overflow_add-kept
overflow_add-kept c =
    let a = c.args in
    let l = c.loop-e in
    let x = extent_here (goal.at.overflow_add-kept c).After-extent_at-x in
    omega (arith, l.invariant.few, c.stays_of-stay.ensures.most, tracks_within (geometry_of a.g) (read_extents a.g.heads a.f1.now a.f3.now a.n) l.e _ _ c.requires.limits x, c.requires.most)

pub returns-then-stay-x : goal.returns-then-stay-x
returns-then-stay-x c =
    let a = c.args in
    let l = c.loop-e in
    let x = extent_here (goal.at.returns-then-stay-x c).After-extent_at-x in
    along_stop (geometry_of a.g) a.g.heads a.keep (read_extents a.g.heads a.f1.now a.f3.now a.n) l.e l.kept l.left l.last c.extent_at-x.result.start c.extent_at-x.result.count c.stays_of-stay.result x l.invariant (rw c.from.ensures at c.stays_of-stay.ensures) c.if-stay-x.true

pub overflow_add-last : goal.overflow_add-last
overflow_add-last c =
    let a = c.args in
    let l = c.loop-e in
    let x = extent_here (goal.at.overflow_add-last c).After-extent_at-x in
    omega (arith, x.ends, c.requires.limits.tracks_most, c.stays_of-stay.ensures.most)

pub overflow_sub-last : goal.overflow_sub-last
overflow_sub-last c =
    let a = c.args in
    let l = c.loop-e in
    let x = extent_here (goal.at.overflow_sub-last c).After-extent_at-x in
    omega (arith, x.full, c.if-stay-x.false)

pub loop-e-preserved : goal.loop-e-preserved
loop-e-preserved c =
    let a = c.args in
    let l = c.loop-e in
    let es = read_extents a.g.heads a.f1.now a.f3.now a.n in
    let x = extent_here (goal.at.loop-e-preserved c).After-extent_at-x in
    let stays = c.stays_of-stay in
    let held = rw c.from.ensures at stays.ensures in
    (along_next (geometry_of a.g) a.g.heads a.keep es l.e l.kept l.left l.last c.extent_at-x.result.start c.extent_at-x.result.count stays.result x l.invariant held (omega (arith, c.if-stay-x.false)) (tracks_within (geometry_of a.g) es l.e _ _ c.requires.limits x) (omega (arith, x.ends, c.requires.limits.tracks_most)) _ (omega (arith, c.saturating_sub-left.ensures)))

pub returns : goal.returns
returns c =
    let a = c.args in
    let l = c.loop-e in
    let n = read_length (geometry_of a.g) a.f1.now a.f3.now a.n in
    along_all a.g.heads a.keep (read_extents a.g.heads a.f1.now a.f3.now a.n) l.e l.kept l.left l.last (omega arith) l.invariant
