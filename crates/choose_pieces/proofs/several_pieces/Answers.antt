use native.Mathlib.Omega.{arith}
use borrow.Author.Rules.{rules}
use Rattle.choose_pieces.specs.Pass.{to_runs}
use Rattle.choose_pieces.proofs.Bounds.{small}
use Rattle.choose_pieces.proofs.Gathering.{gathered_none, sum_fits, sum_is}
use Rattle.choose_pieces.proofs.several_pieces.Goals as goal

pub sum-requires : goal.sum-requires
sum-requires c = sum_fits c.args.five (search rules) (small c.args.u (to_runs c.args.five) c.requires.0 c.requires.3)

pub returns-then-sum-amount : goal.returns-then-sum-amount
returns-then-sum-amount c = gathered_none c.args.u c.args.amount (to_runs c.args.five) (omega (arith, sum_is c.args.five))

pub fill-requires : goal.fill-requires
fill-requires c = (c.requires.0, c.requires.1, c.requires.2, omega (arith, sum_is c.args.five), c.requires.3)
