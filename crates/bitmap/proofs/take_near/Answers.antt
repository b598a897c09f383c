use Rattle.bitmap.proofs.Words.{took_none, took_word}
use Rattle.bitmap.proofs.take_near.Goals as goal

pub returns-then-x-m : goal.returns-then-x-m
returns-then-x-m c =
    took_none c.args.map.now c.args.s c.args.e c.mask-m.result c.requires.2 c.requires.0 c.requires.1 c.mask-m.ensures (rw c.from-w.ensures at c.if-x-m.true)

pub returns : goal.returns
returns c =
    rw c.from-w.ensures (took_word c.args.map.now c.args.s c.args.e c.mask-m.result c.requires.2 c.requires.0 c.requires.1 c.mask-m.ensures (rw c.from-w.ensures at c.if-x-m.false))
