use Rattle.call_obtain.proofs.Laws.{obtain_no_third, obtain_third}
use mathlib.Core.Path.{◌∙◌}
use Rattle.call_obtain.proofs.record_or_zeros.Goals as goal

pub returns-then-q-eq0 : goal.returns-then-q-eq0
returns-then-q-eq0 c = obtain_no_third c.args.table.now c.args.q c.if-q-eq0.true

pub returns : goal.returns
returns c = c.record_of.ensures ∙ c.record_at.ensures.0 ∙ obtain_third c.args.table.now c.args.q c.if-q-eq0.false
