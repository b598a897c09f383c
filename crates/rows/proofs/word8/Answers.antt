use native.Mathlib.Omega.{arith}
use Rattle.rows.specs.Words.{word8}
use Rattle.rows.proofs.word8.Goals as goal

pub returns : goal.returns
unfolding word8
returns c = omega (arith, c.word4-lo.ensures.0, c.word4-hi.ensures.0)
