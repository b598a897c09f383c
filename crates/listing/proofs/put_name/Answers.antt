use Rattle.listing.proofs.Fields.{name_none, name_next}
use Rattle.listing.proofs.put_name.Goals as goal

pub loop-b-init : goal.loop-b-init
loop-b-init c = name_none c.args.out.now c.args.at

pub loop-b-preserved : goal.loop-b-preserved
loop-b-preserved c = name_next c.args.name.now c.loop-b.b-index c.loop-b-test.true c.loop-b.invariant c.put_printed-p.ensures
