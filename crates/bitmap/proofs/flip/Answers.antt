use Rattle.bitmap.specs.Steps.{flipped}
use Rattle.bitmap.proofs.flip.Goals as goal

pub returns-then-free : goal.returns-then-free
unfolding flipped
returns-then-free c = rw c.if-free.true

pub returns-else-free : goal.returns-else-free
unfolding flipped
returns-else-free c = rw c.if-free.false
