use Rattle.listing.specs.Text.{volume_text}
use Rattle.listing.proofs.Fields.{ends, line_text}
use Rattle.rows.proofs.Text.{then}
use Rattle.rules.specs.Listing.{decimal, line}
use lib.Dec.{lit≤}
use mathlib.Core.List.{[], ◌∷◌}
use Prim.Native.Nat.{◌*◌}
use Rattle.listing.proofs.volume_line.Goals as goal

pub returns : goal.returns
unfolding volume_text
returns c =
    let fs = decimal c.args.cylinders ∷ decimal c.args.heads ∷ decimal (c.args.cylinders * c.args.heads) ∷ [] in
    ends (line 0x56 fs) (line_text 0x56 fs) (lit≤ tt) (then c.put_byte-a.ensures (then c.put_field-b.ensures (then c.put_field-c.ensures (then c.put_field-d.ensures c.put_byte.ensures))))
