use mathlib.Core.Path.{refl}
use native.Mathlib.Omega.{arith}
use Rattle.set_extents.proofs.Pieces.{lowest_all, lowest_next}
use Rattle.set_extents.proofs.lowest_piece.Goals as goal

pub loop-start-preserved : goal.loop-start-preserved
loop-start-preserved c =
    let l = c.loop-start in
    (omega (arith, l.invariant.0, c.min-lo.ensures), lowest_next c.args.pieces.now l.start-index _ _ l.lo c.min-lo.result c.loop-start-test.true c.from.ensures refl c.min-lo.ensures l.invariant.1)

pub returns : goal.returns
returns c =
    let l = c.loop-start in
    (l.invariant.0, lowest_all c.args.pieces.now l.lo l.start-index c.loop-start-test.false l.invariant.1)
