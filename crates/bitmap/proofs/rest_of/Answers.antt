use Rattle.bitmap.proofs.Near.{rest_law, rest_none}
use Rattle.bitmap.proofs.rest_of.Goals as goal

pub returns-then-t-n : goal.returns-then-t-n
returns-then-t-n c = rw c.from.ensures (rest_law c.args.map.now c.args.n c.args.t)

pub returns : goal.returns
returns c = rest_none c.args.map.now c.args.n c.args.t c.if-t-n.false
