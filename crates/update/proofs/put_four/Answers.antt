use native.Mathlib.Omega.{arith}
use Rattle.check_table.proofs.Unused.{highest_below}
use Rattle.update.specs.Writing.{four_put}
use Rattle.update.proofs.put_four.Goals as goal

pub four-four-requires : goal.four-four-requires
four-four-requires c =
    let many = c.slots.ensures.0 in
    let b = highest_below c.args.table.now c.slots.result (omega (arith, many, c.args.g.in_limits.least)) in
    (omega (arith, many, c.highest-highest.ensures, b), c.requires.1)

pub returns : goal.returns
unfolding four_put
returns c = rw (c.put_record.ensures, c.four-four.ensures, c.highest-highest.ensures, c.slots.ensures.0)
