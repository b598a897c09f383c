use native.Mathlib.Omega.{arith}
use Rattle.check_label.proofs.Taking.{slots_hit, slots_two}
use Rattle.check_label.proofs.take_slots.Goals as goal

pub returns-else-take_range : goal.returns-else-take_range
returns-else-take_range c = rw c.if-take_range.false (slots_hit c.args.k c.args.q c.args.free_slots.now _ c.requires.0 c.if-take_range.ensures)

pub returns-else-q-eq0 : goal.returns-else-q-eq0
returns-else-q-eq0 c =
    slots_two c.args.k c.args.q c.args.free_slots.now c.take_range.new.map c.take_range-else-q-eq0.new.map c.take_range-else-q-eq0.result c.requires.0 c.if-take_range.ensures (omega arith) c.take_range-else-q-eq0.ensures
