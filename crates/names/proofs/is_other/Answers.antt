use mathlib.Core.Path.{◌≡◌, sym, ap, ◌∙◌}
use mathlib.Core.Bool.{false}
use mathlib.Core.List.{List}
use lib.ListN.{length}
use Prim.Native.Nat.{ℕ}
use Rattle.dscb.specs.Records.{slot_bytes}
use native.Mathlib.Nat.{sub-zero}
use Rattle.names.specs.Find.{find_slot, is_named, is_nothing}
use Rattle.names.proofs.Laws.{entered_done, hit, miss, other_tag}
use Rattle.names.proofs.is_other.Goals as goal
use Rattle.names.proofs.is_other.Goals.{else-x-t-via-then-x-t+else-is_named, else-x-t-via-else-x-t}

pub loop-j-init : goal.loop-j-init
unfolding find_slot
loop-j-init c = simp sub-zero

pub returns-then-is_named : goal.returns-then-is_named
returns-then-is_named c = sym (ap is_nothing (c.loop-j.invariant ∙ hit _ _ _ _ c.loop-j-test.true cc))

pub loop-j-preserved : goal.loop-j-preserved
loop-j-preserved c =
    let h = c.loop-j-test.true in
    let other : is_named (slot_bytes c.args.table.now c.loop-j.j) c.args.name.now ≡ false =
    elim c.else-x-t.branch [
      | else-x-t-via-then-x-t+else-is_named w ↦ sym (w.is_named.ensures ∙ ap (λ (r : List ℕ). is_named r c.args.name.now) w.record_at.ensures.0) ∙ w.if-is_named.false
      | else-x-t-via-else-x-t w ↦
          other_tag c.args.table.now c.args.tags.now (length c.args.tags.now) c.loop-j.j c.args.t c.args.name.now c.requires.1 h c.requires.2 w.if-x-t.false
    ] in
    c.loop-j.invariant ∙ miss _ _ _ _ h other

pub returns : goal.returns
returns c = sym (ap is_nothing (c.loop-j.invariant ∙ entered_done _ _ _ _ c.loop-j-test.false))
