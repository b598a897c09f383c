use Rattle.dscb.proofs.Stops.{end_fits, first_fits, stopped}
use native.Mathlib.Omega.{arith}
use Rattle.std.proofs.lemmas.Grind.{common_steps}
use Rattle.dscb.specs.Tests.{good_ten}
use Rattle.dscb.proofs.good_ten.Goals as goal

pub returns-then-first-h : goal.returns-then-first-h
returns-then-first-h c = stopped c.args.g.cylinders c.args.g.heads c.args.i c.args.x.now (λ a b d e. omega (arith, c.then-first-h.either, c.two-first.ensures.0, c.two-last.ensures.0, c.two-from.ensures.0, c.two-to.ensures.0))

pub track_at-requires : goal.track_at-requires
track_at-requires c =
    let l = first_fits c.args.g.cylinders c.args.g.heads c.args.i c.args.x.now (omega (arith, c.two-from.ensures.0, c.two-to.ensures.0)) (omega (arith, c.two-to.ensures.0)) (omega (arith, c.two-first.ensures.0)) in
    (omega arith, omega (arith, c.args.g.in_limits.tracks_most))

pub track_at-requires-then-from-i : goal.track_at-requires-then-from-i
track_at-requires-then-from-i c =
    let l = end_fits c.args.g.cylinders c.args.g.heads c.args.i c.args.x.now (omega (arith, c.two-to.ensures.0)) (omega (arith, c.two-last.ensures.0)) in
    (omega arith, omega (arith, c.args.g.in_limits.tracks_most))

pub returns-then-track_at : goal.returns-then-track_at
unfolding good_ten
returns-then-track_at c =
    let l = end_fits c.args.g.cylinders c.args.g.heads c.args.i c.args.x.now (omega (arith, c.two-to.ensures.0)) (omega (arith, c.two-last.ensures.0)) in
    grind (arith, common_steps)
