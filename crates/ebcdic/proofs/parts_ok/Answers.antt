use mathlib.Core.Path.{sym, ◌∙◌}
use native.Mathlib.Omega.{arith}
use Rattle.rules.specs.Table.{good_name}
use Rattle.rows.proofs.Rows.{from_place}
use Rattle.ebcdic.proofs.Names.{at_end, at_other, at_period, no_more, no_start, too_long}
use Rattle.ebcdic.proofs.parts_ok.Goals as goal

pub returns-then-not-starts_part : goal.returns-then-not-starts_part
unfolding good_name
returns-then-not-starts_part c =
    sym (c.loop-i.invariant.1 ∙ no_start c.args.name.now c.loop-i.i 0 c.loop-i-test.true (sym c.starts_part.ensures ∙ c.if-not-starts_part.true))

pub overflow_sub-e : goal.overflow_sub-e
overflow_sub-e c = omega (arith, c.part_end-e.ensures.low)

pub returns-then-e-i-gt8 : goal.returns-then-e-i-gt8
unfolding good_name
returns-then-e-i-gt8 c =
    sym (c.loop-i.invariant.1 ∙ too_long c.args.name.now c.loop-i.i c.part_end-e.result c.loop-i-test.true (sym c.starts_part.ensures ∙ c.if-not-starts_part.false) c.part_end-e.ensures c.if-e-i-gt8.true)

pub returns-then-e-name : goal.returns-then-e-name
unfolding good_name
returns-then-e-name c =
    sym (c.loop-i.invariant.1 ∙ at_end c.args.name.now c.loop-i.i c.part_end-e.result c.loop-i-test.true (sym c.starts_part.ensures ∙ c.if-not-starts_part.false) c.part_end-e.ensures c.if-e-i-gt8.false c.if-e-name.true)

pub bounds-name-e : goal.bounds-name-e
bounds-name-e c = omega (arith, c.part_end-e.ensures.high)

pub returns-then-name-e-ne75 : goal.returns-then-name-e-ne75
unfolding good_name
returns-then-name-e-ne75 c =
    sym
    (c.loop-i.invariant.1
    ∙ at_other c.args.name.now c.loop-i.i c.part_end-e.result c.loop-i-test.true (sym c.starts_part.ensures ∙ c.if-not-starts_part.false) c.part_end-e.ensures c.if-e-i-gt8.false (omega (arith, c.part_end-e.ensures.high)) c.if-name-e-ne75.true
    ∙ sym (rw (from_place c.args.name.now c.part_end-e.result) at c.all_are.ensures))

pub overflow_add-i-in-loop-i : goal.overflow_add-i-in-loop-i
overflow_add-i-in-loop-i c = omega (arith, c.part_end-e.ensures.high)

pub loop-i-smaller : goal.loop-i-smaller
loop-i-smaller c = omega (arith, c.part_end-e.ensures.low, c.part_end-e.ensures.high)

pub loop-i-preserved : goal.loop-i-preserved
loop-i-preserved c = (
  omega (arith, c.part_end-e.ensures.high),
  c.loop-i.invariant.1 ∙ at_period c.args.name.now c.loop-i.i c.part_end-e.result c.loop-i-test.true (sym c.starts_part.ensures ∙ c.if-not-starts_part.false) c.part_end-e.ensures c.if-e-i-gt8.false (omega (arith, c.part_end-e.ensures.high)) c.if-name-e-ne75.false,
)

pub returns : goal.returns
unfolding good_name
returns c = sym (c.loop-i.invariant.1 ∙ no_more c.args.name.now c.loop-i.i c.loop-i-test.false)
