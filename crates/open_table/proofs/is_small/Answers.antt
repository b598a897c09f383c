use Rattle.dscb.proofs.Stops.{product_fits}
use Rattle.open_table.proofs.Room.{small_told, no_answer}
use Rattle.open_table.proofs.is_small.Goals as goal

pub returns-then-table-lt140 : goal.returns-then-table-lt140
returns-then-table-lt140 c e = no_answer _ e

pub returns : goal.returns
returns c e =
    small_told c.args.table.now c.record_at-rec.result.now c.two.result c.two-2.result c.record_at-rec.ensures.0 c.two.ensures.0 c.two-2.ensures.0
    (product_fits c.two.result c.two-2.result 4096 _ c.product_within.ensures e).1
