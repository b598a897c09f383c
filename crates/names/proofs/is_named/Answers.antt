use Rattle.names.proofs.Laws.{its_name, other_name}
use lib.ListN.{length-take}
use native.Mathlib.Omega.{arith}
use mathlib.Core.Path.{sym, ◌∙◌}
use Rattle.names.proofs.is_named.Goals as goal

pub slice_bounds-same-end : goal.slice_bounds-same-end
slice_bounds-same-end c = simp length-take (omega arith)

pub returns-then-same : goal.returns-then-same
returns-then-same c = sym (its_name c.args.rec.now c.args.name.now (sym c.same.ensures ∙ c.if-same.true))

pub returns-else-same : goal.returns-else-same
returns-else-same c = c.if-same.false ∙ sym (other_name c.args.rec.now c.args.name.now (sym c.same.ensures ∙ c.if-same.false))
