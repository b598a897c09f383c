use Rattle.dscb.specs.Forms.{geometry_of}
use Rattle.data_set.proofs.Stored.{set_read}
use Rattle.data_set.proofs.set_at.Goals as goal

pub returns : goal.returns
returns c =
    set_read (geometry_of c.args.g) c.args.table.now c.args.k c.record_at-label.result.now c.record_of-f1.result c.third_record-f3.result _ c.link-slot3.result c.record_at-label.ensures.0 c.record_of-f1.ensures c.from-count.ensures c.link-slot3.ensures.0 c.link-slot3.ensures.1 c.third_record-f3.ensures
