use Rattle.dscb_write.proofs.Format1.{named_again}
use Rattle.dscb_write.proofs.set_name.Goals as goal

pub returns : goal.returns
returns c = λ g l f. rw c.put_row.ensures (named_again g l c.args.rec f c.args.name.now c.requires)
