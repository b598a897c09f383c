use Rattle.call_obtain.proofs.Laws.{two_filled}
use Rattle.dscb.specs.Forms.{geometry_of}
use lib.ListN.{length}
use mathlib.Core.Path.{◌≡◌, ◌∙◌}
use borrow.Author.Rules.{rules}
use Rattle.call_obtain.proofs.put_labels.Goals as goal

pub returns : goal.returns
returns c =
    let a : length c.record_of-copied.result ≡ 140 = search rules in
    let b : length c.record_or_zeros-f3.result ≡ 140 = search rules in
    c.put_record-2.ensures ∙ two_filled (geometry_of c.args.g) c.args.table.now c.args.k c.args.out.now c.record_at-f1.result.now _ c.record_of-copied.result c.record_or_zeros-f3.result c.link.result c.requires.2 a b c.record_at-f1.ensures.0 c.record_of-copied.ensures c.link.ensures.0 c.record_or_zeros-f3.ensures c.put_record.ensures
