use native.Mathlib.Omega.{arith}
use Rattle.ebcdic.proofs.Pairs.{class_is}
use Rattle.ebcdic.proofs.class_of.Goals as goal

pub returns : goal.returns
returns c =
    class_is c.args.c c.ones_if-a.result c.ones_if-b.result c.ones_if-e.result c.ones_if-f.result c.ones_if-n.result c.ones_if-m.result c.ones_if-h.result c.ones_if-p.result c.ones_if-q.result
    (omega arith) c.ones_if-a.ensures c.ones_if-b.ensures c.ones_if-e.ensures c.ones_if-f.ensures c.ones_if-n.ensures c.ones_if-m.ensures c.ones_if-h.ensures c.ones_if-p.ensures c.ones_if-q.ensures
