use Rattle.listing.proofs.Passes.{no_span, one_span}
use Rattle.listing.proofs.put_free.Goals as goal

pub returns-then-from-to : goal.returns-then-from-to
returns-then-from-to c = no_span c.args.from c.args.to c.args.out.now c.args.at c.if-from-to.true

pub returns : goal.returns
returns c =
    one_span c.args.from c.args.to c.args.out.now c.free_line-n.new.out c.args.at c.free_line-n.result c.if-from-to.false c.requires.0 (rw (c.from.ensures, c.from-2.ensures) at c.free_line-n.ensures)
