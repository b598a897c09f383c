use mathlib.Core.Path.{refl, sym, ◌∙◌}
use native.Mathlib.Nat.{sub-zero}
use native.Mathlib.Omega.{arith}
use Rattle.rules.specs.Reading.{read_extents}
use Rattle.dscb.specs.Forms.{geometry_of}
use Rattle.dscb.proofs.Written.{read_length}
use Rattle.set_extents.proofs.Cutting.{ExtentAt, at_read, gave_all, giving_next, giving_none, good_read, left_next}
use Rattle.set_extents.proofs.give_behind.Goals as goal
use Rattle.set_extents.proofs.give_behind.Goals.{After-extent_at-x}

-- the extent that the turn looks at
extent_here : (c : After-extent_at-x) → ExtentAt (geometry_of c.args.g) (read_extents c.args.g.heads c.args.f1.now c.args.f3.now c.args.n) c.loop-e.e c.extent_at-x.result.start c.extent_at-x.result.count
extent_here c = at_read (geometry_of c.args.g) c.args.f1.now c.args.f3.now c.args.n c.requires.0.good c.loop-e.e c.extent_at-x.result.start c.extent_at-x.result.count c.loop-e-test.true c.extent_at-x.ensures

pub loop-e-init : goal.loop-e-init
loop-e-init c =
    let es = read_extents c.args.g.heads c.args.f1.now c.args.f3.now c.args.n in
    (refl, sym (sub-zero c.args.keep), giving_none c.args.keep es c.args.free_tracks.now)

pub extent_at-x-requires : goal.extent_at-x-requires
extent_at-x-requires c =
    let a = c.args in
    let p = c.requires.0 in
    let good = good_read (geometry_of a.g) a.f1.now a.f3.now a.n c.loop-e.e p.good c.loop-e-test.true in
    (p.long1, p.long3, omega (arith, p.most), good.full, omega (arith, good.ends, p.limits.tracks_most))

pub overflow_add-from : goal.overflow_add-from
overflow_add-from c =
    let x = extent_here (goal.at.overflow_add-from c).After-extent_at-x in
    omega (arith, x.ends, c.requires.0.limits.tracks_most, c.min-stay.ensures)

pub overflow_cast-from : goal.overflow_cast-from
overflow_cast-from c =
    let x = extent_here (goal.at.overflow_cast-from c).After-extent_at-x in
    omega (arith, x.ends, c.requires.0.limits.tracks_most, c.min-stay.ensures)

pub overflow_add-to : goal.overflow_add-to
overflow_add-to c =
    let x = extent_here (goal.at.overflow_add-to c).After-extent_at-x in
    omega (arith, x.ends, c.requires.0.limits.tracks_most)

pub overflow_cast-to : goal.overflow_cast-to
overflow_cast-to c =
    let x = extent_here (goal.at.overflow_cast-to c).After-extent_at-x in
    omega (arith, x.ends, c.requires.0.limits.tracks_most)

pub give_range-requires : goal.give_range-requires
give_range-requires c =
    let x = extent_here (goal.at.give_range-requires c).After-extent_at-x in
    let m = c.loop-e.invariant.0 in
    (omega (arith, c.min-stay.ensures), omega (arith, x.ends, c.requires.1))

pub loop-e-preserved : goal.loop-e-preserved
loop-e-preserved c =
    let es = read_extents c.args.g.heads c.args.f1.now c.args.f3.now c.args.n in
    let x = extent_here (goal.at.loop-e-preserved c).After-extent_at-x in (
      c.give_range.ensures.long ∙ c.loop-e.invariant.0,
      left_next (geometry_of c.args.g) c.args.keep es c.loop-e.e c.loop-e.left c.extent_at-x.result.start c.extent_at-x.result.count c.min-stay.result x c.loop-e.invariant.1 c.min-stay.ensures,
      giving_next (geometry_of c.args.g) c.args.keep es c.loop-e.e c.loop-e.left c.extent_at-x.result.start c.extent_at-x.result.count c.min-stay.result x c.loop-e.invariant.1 c.min-stay.ensures c.args.free_tracks.now c.loop-e.free_tracks _ c.give_range.ensures c.loop-e.invariant.2,
    )

pub returns : goal.returns
returns c =
    let l = read_length (geometry_of c.args.g) c.args.f1.now c.args.f3.now c.args.n in
    gave_all c.args.keep (read_extents c.args.g.heads c.args.f1.now c.args.f3.now c.args.n) c.loop-e.e c.args.free_tracks.now c.loop-e.free_tracks c.loop-e.invariant.0 (omega arith) c.loop-e.invariant.2
