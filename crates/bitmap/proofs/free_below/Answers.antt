use native.Mathlib.Omega.{arith}
use Rattle.bitmap.proofs.Words.{freed}
use Rattle.bitmap.proofs.free_below.Goals as goal

pub returns : goal.returns
returns c = freed c.args.map.now c.fill.new.self c.div_ceil.result c.args.n (omega arith) (omega arith) (c.fill.ensures.after (λ y h. h))
