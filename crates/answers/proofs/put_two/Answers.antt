use native.Mathlib.Omega.{arith}
use Rattle.answers.proofs.Laws.{two_put}
use Rattle.answers.proofs.put_two.Goals as goal

pub returns : goal.returns
returns c = rw (c.copy_from_slice.ensures.after, c.to_be_bytes.ensures) (two_put c.args.all.now c.args.at c.args.v (omega arith) (omega arith))
