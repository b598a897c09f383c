use Rattle.dscb.specs.Forms.{geometry_of}
use Rattle.dscb_write.proofs.Format4.{four_is}
use Rattle.dscb_write.proofs.four.Goals as goal

pub returns : goal.returns
returns c =
    rw (c.put_extent.ensures, c.put_two-3.ensures, c.put_two-2.ensures, c.put_two.ensures, c.put_link.ensures, c.blank-r.ensures) (four_is (geometry_of c.args.g) c.args.highest c.args.format0s)
