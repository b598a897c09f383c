use Rattle.dates.proofs.Laws.{expiry_none, expiry_some}
use Rattle.dates.proofs.expiry_from.Goals as goal

pub returns-then-same : goal.returns-then-same
returns-then-same c = expiry_none c.args.packed.now c.same.result c.same.ensures c.if-same.true

pub returns : goal.returns
returns c = rw (expiry_some c.args.packed.now c.same.result c.same.ensures c.if-same.false) c.to_stored.ensures
