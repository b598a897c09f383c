use mathlib.Core.Path.{sym, ◌∙◌}
use native.Mathlib.Omega.{arith}
use Rattle.ebcdic.proofs.Pairs.{at_last, no_name, sixteen_more, sixteen_no, upto_blank}
use Rattle.rows.proofs.Rows.{from_place}
use Rattle.ebcdic.proofs.name_ok.Goals as goal

pub returns-then-not-starts_part : goal.returns-then-not-starts_part
returns-then-not-starts_part c = sym (no_name c.args.name.now (omega arith) (sym c.if-not-starts_part.ensures))

pub returns-then-name-at-eq64 : goal.returns-then-name-at-eq64
returns-then-name-at-eq64 c =
    let l = c.loop-at in
    (rw (from_place c.args.name.now l.at) at c.all_are.ensures)
    ∙ upto_blank c.args.name.now c.if-name-ne44.false (sym c.if-not-starts_part.ensures) l.at (omega arith) c.if-name-at-eq64.true l.invariant

pub returns-then-not-sixteen_ok : goal.returns-then-not-sixteen_ok
returns-then-not-sixteen_ok c =
    sym (sixteen_no c.args.name.now c.if-name-ne44.false (sym c.if-not-starts_part.ensures) c.loop-at.at _ _ c.min.ensures c.min-in-loop-at.ensures (sym c.if-not-sixteen_ok.ensures))

pub loop-at-preserved : goal.loop-at-preserved
loop-at-preserved c =
    let l = c.loop-at in
    sixteen_more c.args.name.now c.if-name-ne44.false (sym c.if-not-starts_part.ensures) l.at _ _ c.min.ensures c.min-in-loop-at.ensures (sym c.if-not-sixteen_ok.ensures) l.invariant

pub returns : goal.returns
returns c = at_last c.args.name.now c.if-name-ne44.false (sym c.if-not-starts_part.ensures) c.loop-at.at (omega arith) c.loop-at.invariant
