use Rattle.rules.specs.Listing.{slot_line}
use Rattle.listing.proofs.Passes.{placed_64}
use Rattle.listing.proofs.put_slots.Goals as goal

pub returns : goal.returns
returns c =
    placed_64 (slot_line c.args.n) c.args.out.now c.slot_line-r.new.out c.args.at c.slot_line-r.result c.requires.0 c.slot_line-r.ensures
