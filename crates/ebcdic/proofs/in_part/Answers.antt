use mathlib.Core.Path.{◌∙◌}
use native.Mathlib.Omega.{arith}
use Rattle.ebcdic.proofs.Names.{parts_high, parts_low}
use Rattle.ebcdic.proofs.in_part.Goals as goal

pub returns-then-c-ge192 : goal.returns-then-c-ge192
returns-then-c-ge192 c = c.has.ensures ∙ parts_high c.args.c c.if-c-ge192.true (omega arith)

pub returns-else-c-ge192 : goal.returns-else-c-ge192
returns-else-c-ge192 c = c.has_low.ensures ∙ parts_low c.args.c (omega (arith, c.if-c-ge192.false))
