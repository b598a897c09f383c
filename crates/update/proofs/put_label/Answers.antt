use Rattle.update.proofs.Slots.{label_alone, label_both}
use Rattle.update.proofs.put_label.Goals as goal

pub returns-then-q-ne0 : goal.returns-then-q-ne0
returns-then-q-ne0 c =
    λ l f. rw (c.put_record-then-q-ne0.ensures, c.put_record.ensures) (label_both _ c.args.table.now c.args.k c.args.q l _ c.args.f3.now c.if-q-ne0.true (c.set_link3.ensures l c.args.k f))

pub returns-else-q-ne0 : goal.returns-else-q-ne0
returns-else-q-ne0 c =
    λ l f. rw c.put_record.ensures (label_alone _ c.args.table.now c.args.k c.args.q l _ c.args.f3.now c.if-q-ne0.false (c.set_link3.ensures l c.args.k f))
