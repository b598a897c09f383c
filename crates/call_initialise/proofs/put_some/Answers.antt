use Rattle.call_initialise.proofs.Laws.{none_more, one_more}
use Rattle.dscb.specs.Forms.{geometry_of}
use Rattle.call_initialise.proofs.put_some.Goals as goal

pub returns-then-count-eq0 : goal.returns-then-count-eq0
returns-then-count-eq0 c = none_more (geometry_of c.args.g) c.args.rec.now c.args.rec.now c.args.j c.args.start c.args.count c.if-count-eq0.true

pub returns : goal.returns
returns c =
    one_more (geometry_of c.args.g) c.args.rec.now _ c.args.j c.args.start c.args.count c.entry_place.result c.if-count-eq0.false c.requires.1 c.entry_place.ensures.0 c.put_entry.ensures
