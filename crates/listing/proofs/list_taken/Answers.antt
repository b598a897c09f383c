use Rattle.dscb.specs.Forms.{geometry_of}
use Rattle.listing.proofs.Prepared.{whole_written}
use Rattle.listing.proofs.Passes.{first_line}
use Rattle.listing.proofs.list_taken.Goals as goal

pub returns : goal.returns
returns c =
    whole_written (geometry_of c.args.g) c.args.format0s c.args.table.now c.args.free_tracks.now c.requires.0 c.tracks.result c.tracks.ensures.0 (first_line (rw (c.from.ensures, c.from-2.ensures) at c.volume_line-a.ensures)) c.data_lines-b.ensures c.free_lines-c.ensures c.put_slots.ensures
