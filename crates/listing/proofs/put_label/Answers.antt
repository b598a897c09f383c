use native.Mathlib.Omega.{arith}
use Rattle.dscb.specs.Forms.{geometry_of}
use Rattle.check_label.specs.Marks.{label_at}
use Rattle.rules.specs.Listing.{data_line}
use Rattle.listing.proofs.Passes as laws
use Rattle.listing.proofs.Labelled.{all_proper, few, many_small, text_is}
use Rattle.listing.proofs.put_label.Goals as goal

pub tracks_of-many-requires : goal.tracks_of-many-requires
tracks_of-many-requires c =
    record { f1_len = (c.record_at-f1.ensures.1, c.record_at-f3.ensures.1, few (geometry_of c.args.g) c.args.table.now c.args.k c.link-slot3.result c.record_at-f1.result.now c.requires.2 c.record_at-f1.ensures.0 c.link-slot3.ensures.0 c.link-slot3.ensures.1 c.record_at-f3.result.now c.from.result c.record_at-f3.ensures.0 c.from.ensures, omega (arith, c.args.g.in_limits.heads_most)); all = all_proper (geometry_of c.args.g) c.args.table.now c.args.k c.link-slot3.result c.record_at-f1.result.now c.requires.2 c.record_at-f1.ensures.0 c.link-slot3.ensures.0 c.link-slot3.ensures.1 c.record_at-f3.result.now c.from.result c.record_at-f3.ensures.0 c.from.ensures }

pub put_data-requires : goal.put_data-requires
put_data-requires c =
    (c.record_at-f1.ensures.1, many_small (geometry_of c.args.g) c.args.table.now c.args.k c.link-slot3.result c.record_at-f1.result.now c.requires.2 c.record_at-f1.ensures.0 c.link-slot3.ensures.0 c.link-slot3.ensures.1 c.record_at-f3.result.now c.from.result c.record_at-f3.ensures.0 c.from.ensures c.tracks_of-many.result c.tracks_of-many.ensures, omega (arith, c.from-2.ensures, c.ranges), omega (arith, c.requires.3))

pub returns : goal.returns
returns c =
    laws.reads (data_line (label_at (geometry_of c.args.g) c.args.table.now c.args.k)) (text_is (geometry_of c.args.g) c.args.table.now c.args.k c.link-slot3.result c.record_at-f1.result.now c.requires.2 c.record_at-f1.ensures.0 c.link-slot3.ensures.0 c.link-slot3.ensures.1 c.record_at-f3.result.now c.from.result c.record_at-f3.ensures.0 c.from.ensures c.tracks_of-many.result c.tracks_of-many.ensures) (rw (c.from-2.ensures, ← c.from.ensures) at c.put_data.ensures)
