use lib.ListN.{take}
use Rattle.rows.specs.Text.{Written}
use Rattle.listing.specs.Text.{name_text}
use Rattle.listing.proofs.put_name.Given as goal

abbrev pub invariant-loop-b : goal.invariant-loop-b
invariant-loop-b l = Written l.at (name_text (take l.b-index l.name)) l.b-index l.initial.out l.out l.p
