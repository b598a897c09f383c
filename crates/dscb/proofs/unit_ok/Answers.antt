use Rattle.std.specs.Prelude.{get_or}
use Rattle.dscb.proofs.Sound.{unit_space}
use Rattle.model.specs.Basics.{get3}
use borrow.Author.Tests.{eq-eqb}
use lib.Bits.{bit_and}
use Rattle.dscb.proofs.unit_ok.Goals as goal

pub returns-then-unit : goal.returns-then-unit
returns-then-unit c =
    let unit = get_or c.args.rec.now 94 0 in
    rw (eq-eqb (bit_and unit 0xBF) 0x80 c.if-unit.true) (unit_space unit (get3 c.args.rec.now 95) ((c.type_inv.rec 94).fits) c.if-unit.true)
