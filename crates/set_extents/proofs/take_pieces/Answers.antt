use mathlib.Core.Path.{refl, ◌∙◌}
use Rattle.set_extents.proofs.Pieces.{taking_next, took_all}
use Rattle.set_extents.proofs.take_pieces.Goals as goal

pub loop-start-preserved : goal.loop-start-preserved
loop-start-preserved c =
    let l = c.loop-start in
    let done = c.take_range.ensures in
    (done.long ∙ l.invariant.0, taking_next c.args.pieces.now c.args.free_tracks.now l.free_tracks l.start-index _ _ c.loop-start-test.true refl refl _ _ done l.invariant.1)

pub returns : goal.returns
returns c =
    let l = c.loop-start in
    took_all c.args.pieces.now c.args.free_tracks.now l.free_tracks l.invariant.0 l.start-index c.loop-start-test.false l.invariant.1
