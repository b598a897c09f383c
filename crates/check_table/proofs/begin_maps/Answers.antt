use Rattle.check_table.proofs.Whole.{maps_begun}
use Rattle.dscb.specs.Forms.{geometry_of}
use Rattle.check_table.proofs.begin_maps.Goals as goal

pub returns : goal.returns
returns c =
    maps_begun (geometry_of c.args.g) c.args.g.in_limits c.args.free_tracks.now _ _ c.take_range-vtoc.result c.take_range-label.result c.requires.0 c.take_range-vtoc.ensures c.take_range-label.ensures
    c.args.free_slots.now _ _ c.take_range-first.result c.slots.result c.slots.ensures.0 c.free_below.ensures c.take_range-first.ensures
