use native.Mathlib.Omega.{arith}
use Rattle.choose_pieces.proofs.Bounds.{whole_is, whole_one}
use Rattle.choose_pieces.proofs.whole.Goals as goal

pub returns-then-u-eq1 : goal.returns-then-u-eq1
returns-then-u-eq1 c = whole_one c.args.u c.args.from c.args.to (omega arith) c.if-u-eq1.true

pub returns : goal.returns
returns c = whole_is c.args.u c.args.from c.args.to c.saturating_sub.result (omega arith) c.saturating_sub.ensures
