use native.Mathlib.Omega.{arith}
use Rattle.bitmap.proofs.Counting.{starts_law}
use Rattle.bitmap.proofs.starts.Goals as goal

pub returns : goal.returns
returns c = starts_law c.args.y c.args.x (omega arith) (omega arith)
