use Rattle.bitmap.proofs.Words.{gave_word}
use Rattle.bitmap.proofs.give_near.Goals as goal

pub returns : goal.returns
returns c = rw c.from.ensures (gave_word c.args.map.now c.args.s c.args.e c.mask.result c.requires.2 c.requires.0 c.requires.1 c.mask.ensures)
