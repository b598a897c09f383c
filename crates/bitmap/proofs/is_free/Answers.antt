use Rattle.bitmap.specs.Map.{free_bit, is_free}
use Rattle.bitmap.proofs.is_free.Goals as goal

pub returns : goal.returns
unfolding is_free free_bit
returns c = rw c.from.ensures
