use Rattle.names.proofs.Laws.{hit, miss, entered_done}
use Rattle.names.specs.Find.{find_slot}
use native.Mathlib.Nat.{sub-zero}
use mathlib.Core.Path.{sym, ◌∙◌}
use Rattle.names.proofs.find.Goals as goal

pub loop-k-init : goal.loop-k-init
unfolding find_slot
loop-k-init c = simp sub-zero

pub returns-then-is_named : goal.returns-then-is_named
returns-then-is_named c = sym (c.loop-k.invariant ∙ hit _ _ _ _ c.loop-k-test.true cc)

pub loop-k-preserved : goal.loop-k-preserved
loop-k-preserved c = c.loop-k.invariant ∙ miss _ _ _ _ c.loop-k-test.true cc

pub returns : goal.returns
returns c = sym (c.loop-k.invariant ∙ entered_done _ _ _ _ c.loop-k-test.false)
