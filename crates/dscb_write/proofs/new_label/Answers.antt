use Rattle.dscb_write.proofs.Format1.{new_is}
use Rattle.dscb_write.proofs.new_label.Goals as goal

pub returns : goal.returns
returns c =
    let a = c.args in
    λ g. rw (c.put_row-4.ensures, c.put_row-3.ensures, c.put_row-2.ensures, c.put_three.ensures, c.put_row.ensures) (new_is a.name.now a.attributes.now a.unit a.secondary c.requires.0 c.requires.1 g)
