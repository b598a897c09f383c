use Rattle.bitmap.proofs.Counting.{counts_none}
use Rattle.bitmap.proofs.count_eights.Goals as goal

pub loop-k-init : goal.loop-k-init
loop-k-init c = counts_none _
