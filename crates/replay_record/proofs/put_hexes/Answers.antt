use Rattle.replay_record.proofs.Laws.{hex_none, hex_next}
use Rattle.replay_record.proofs.put_hexes.Goals as goal

pub loop-x-init : goal.loop-x-init
loop-x-init c = hex_none c.args.out.now c.args.at

pub loop-x-preserved : goal.loop-x-preserved
loop-x-preserved c =
    hex_next c.args.s.now c.loop-x.x-index c.loop-x-test.true c.loop-x.invariant c.put_hex-p.ensures
