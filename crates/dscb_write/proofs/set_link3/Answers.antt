use Rattle.dscb.specs.Forms.{geometry_of}
use Rattle.dscb_write.proofs.Format1.{linked_again}
use Rattle.dscb_write.proofs.set_link3.Goals as goal

pub returns : goal.returns
returns c = let a = c.args in λ l slot f. rw c.put_link.ensures (linked_again (geometry_of a.g) l a.rec.now f a.k slot)
