use native.Mathlib.Omega.{arith}
use Rattle.ebcdic.proofs.Pairs.{wanted_is}
use Rattle.ebcdic.proofs.wanted_after.Goals as goal

pub returns : goal.returns
returns c = wanted_is c.args.c c.ones_if-p.result c.ones_if-q.result (omega arith) c.ones_if-p.ensures c.ones_if-q.ensures
