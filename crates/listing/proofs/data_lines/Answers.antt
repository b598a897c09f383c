use Rattle.listing.proofs.Passes.{data_next, data_start, slot_labels}
use Rattle.listing.specs.Whole.{Listable}
use Rattle.model.specs.Model.{slots}
use Rattle.dscb.specs.Forms.{geometry_of}
use native.Mathlib.Omega.{arith}
use mathlib.Core.Path.{refl, ◌∙◌}
use Rattle.listing.proofs.data_lines.Goals as goal

pub loop-k-init : goal.loop-k-init
loop-k-init c = (refl, data_start (geometry_of c.args.g) c.args.table.now c.args.at c.args.out.now)

pub put_slot-p-requires : goal.put_slot-p-requires
put_slot-p-requires c =
    let l = c.loop-k.invariant in (c.requires.0, omega (arith, c.slots-k-end.ensures.0, c.loop-k-test.true), slot_labels (geometry_of c.args.g) c.args.table.now (Listable (geometry_of c.args.g) c.args.table.now) (slots (geometry_of c.args.g)) c.loop-k.k c.requires.1 (omega (arith, c.slots-k-end.ensures.0, c.loop-k-test.true)), omega (arith, c.slots-k-end.ensures.1, l.0, l.1.end, c.loop-k-test.true, c.requires.2))

pub loop-k-preserved : goal.loop-k-preserved
loop-k-preserved c =
    let l = c.loop-k.invariant in (c.put_slot-p.ensures.long ∙ l.0, data_next (geometry_of c.args.g) c.args.table.now c.loop-k.k l.1 c.put_slot-p.ensures)
