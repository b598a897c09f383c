use native.Mathlib.Omega.{arith}
use Rattle.bitmap.proofs.Bits.{ones_block}
use Rattle.bitmap.proofs.mask.Goals as goal

pub returns : goal.returns
returns c = ones_block c.args.at c.args.n (omega arith)
