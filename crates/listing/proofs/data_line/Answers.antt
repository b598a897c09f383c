use Rattle.listing.specs.Text.{data_text, name_text}
use Rattle.listing.proofs.Fields.{ends, line_text}
use Rattle.rows.proofs.Text.{then}
use Rattle.rules.specs.Listing.{decimal, line}
use lib.Dec.{lit≤}
use mathlib.Core.List.{[], ◌∷◌}
use Rattle.listing.proofs.data_line.Goals as goal

pub returns : goal.returns
unfolding data_text
returns c =
    let fs = name_text c.args.name.now ∷ decimal c.args.tracks ∷ decimal c.args.extents ∷ [] in
    ends (line 0x44 fs) (line_text 0x44 fs) (lit≤ tt) (then c.put_byte-a.ensures (then c.put_byte-b.ensures (then c.put_name-c.ensures (then c.put_field-d.ensures (then c.put_field-e.ensures c.put_byte.ensures)))))
