use Rattle.dscb.proofs.Tens.{no_format1, no_format3, in_format1, in_format3, in_rest3, no_extent_lem}
use native.Mathlib.Nat.{add-sub_cancel_left}
use mathlib.Core.Path.{sym}
use Rattle.dscb.proofs.extent_part.Goals.{then-f1-ne140-via-then-f1-ne140, then-f1-ne140-via-else-f1-ne140+then-f3-ne140}
use Rattle.dscb.proofs.extent_part.Goals as goal

pub returns-then-f1-ne140 : goal.returns-then-f1-ne140
returns-then-f1-ne140 c =
    elim c.then-f1-ne140.branch [
      | then-f1-ne140-via-then-f1-ne140 w ↦ no_format1 c.args.f1.now c.args.f3.now c.args.e w.if-f1-ne140.true
      | then-f1-ne140-via-else-f1-ne140+then-f3-ne140 w ↦ no_format3 c.args.f1.now c.args.f3.now c.args.e w.if-f1-ne140.false w.if-f3-ne140.true
    ]

pub returns-then-e-lt3 : goal.returns-then-e-lt3
returns-then-e-lt3 c =
    rw add-sub_cancel_left (sym (in_format1 c.args.f1.now c.args.f3.now c.args.e c.if-f1-ne140.false c.if-f3-ne140.false c.if-e-lt3.true))

pub returns-then-e-lt7 : goal.returns-then-e-lt7
returns-then-e-lt7 c =
    rw add-sub_cancel_left
    (sym (in_format3 c.args.f1.now c.args.f3.now c.args.e c.if-f1-ne140.false c.if-f3-ne140.false c.if-e-lt3.false c.if-e-lt7.true))

pub returns-then-e-lt16 : goal.returns-then-e-lt16
returns-then-e-lt16 c =
    rw add-sub_cancel_left
    (sym (in_rest3 c.args.f1.now c.args.f3.now c.args.e c.if-f1-ne140.false c.if-f3-ne140.false c.if-e-lt7.false c.if-e-lt16.true))

pub returns : goal.returns
returns c = no_extent_lem c.args.f1.now c.args.f3.now c.args.e c.if-f1-ne140.false c.if-f3-ne140.false c.if-e-lt16.false
