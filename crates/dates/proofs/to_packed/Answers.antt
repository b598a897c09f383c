use Rattle.dates.proofs.Laws.{day_from, packed_bad, packed_good, packed_short}
use native.Mathlib.Omega.{arith}
use Rattle.dates.proofs.to_packed.Goals as goal

pub returns-then-stored-ne3 : goal.returns-then-stored-ne3
returns-then-stored-ne3 c = packed_short c.args.stored.now c.if-stored-ne3.true

pub returns-then-not-is_date : goal.returns-then-not-is_date
returns-then-not-is_date c =
    packed_bad c.args.stored.now c.if-stored-ne3.false c.from-year.result _ c.from-year.ensures (day_from c.args.stored.now c.from.ensures c.from-2.ensures) c.is_date.result c.is_date.ensures c.if-not-is_date.true

pub returns : goal.returns
returns c =
    packed_good c.args.stored.now c.if-stored-ne3.false c.from-year.result _ c.from-year.ensures (day_from c.args.stored.now c.from.ensures c.from-2.ensures) c.is_date.result c.is_date.ensures (omega arith) c.if-not-is_date.false c.pack.result c.pack.ensures
