use Rattle.dates.proofs.Laws.{no_digits, stored_bad, stored_good, stored_short}
use Rattle.dates.proofs.to_stored.Goals.{then-packed-ne4-via-then-packed-ne4, then-packed-ne4-via-else-packed-ne4+then-not-are_digits}
use Rattle.dates.proofs.to_stored.Goals as goal

pub returns-then-packed-ne4 : goal.returns-then-packed-ne4
returns-then-packed-ne4 c =
    elim c.then-packed-ne4.branch [
      | then-packed-ne4-via-then-packed-ne4 w ↦ stored_short c.args.packed.now w.if-packed-ne4.true
      | then-packed-ne4-via-else-packed-ne4+then-not-are_digits w ↦
          no_digits c.args.packed.now w.if-packed-ne4.false w.are_digits.result w.are_digits.ensures w.if-not-are_digits.true
    ]

pub returns-then-not-is_date : goal.returns-then-not-is_date
returns-then-not-is_date c =
    stored_bad c.args.packed.now c.if-packed-ne4.false c.are_digits.result c.are_digits.ensures c.year_in-year.result c.day_in-day.result c.year_in-year.ensures c.day_in-day.ensures c.is_date.result c.is_date.ensures c.if-not-is_date.true

pub returns : goal.returns
returns c =
    stored_good c.args.packed.now c.if-packed-ne4.false c.are_digits.result c.are_digits.ensures c.year_in-year.result c.day_in-day.result c.year_in-year.ensures c.day_in-day.ensures c.is_date.result c.is_date.ensures c.if-not-are_digits.false c.if-not-is_date.false c.store.result c.store.ensures
