use borrow.Author.Tests.{le-leb, lt-leb, eq-eqb, ne_eqb}
use Rattle.choose_pieces.specs.Pass.{fits_better}
use Rattle.choose_pieces.proofs.fits_better.Goals as goal

pub returns-then-best-eq0 : goal.returns-then-best-eq0
unfolding fits_better
returns-then-best-eq0 c = rw (le-leb c.args.amount c.args.size c.if-amount-size.true, eq-eqb c.args.best 0 c.if-best-eq0.true)

pub returns-else-best-eq0 : goal.returns-else-best-eq0
unfolding fits_better
returns-else-best-eq0 c = rw (le-leb c.args.amount c.args.size c.if-amount-size.true, ne_eqb c.args.best 0 c.if-best-eq0.false)

pub returns-else-amount-size : goal.returns-else-amount-size
unfolding fits_better
returns-else-amount-size c = rw (lt-leb c.args.amount c.args.size c.if-amount-size.false)
