use Rattle.model.specs.Basics.{flat}
use Rattle.rules.specs.Listing.{data_line}
use Rattle.dscb.specs.Forms.{geometry_of}
use Rattle.check_table.specs.Labels.{labels_below}
use Rattle.rows.specs.Text.{Written}
use lib.ListN.{length}
use Prim.Native.Nat.{◌*◌}
use mathlib.Core.Path.{◌≡◌}
use Rattle.listing.proofs.data_lines.Given as goal

abbrev pub invariant-loop-k : goal.invariant-loop-k
invariant-loop-k l = (length l.out ≡ length l.initial.out) × Written l.at (flat data_line (labels_below (geometry_of l.g) l.table l.k)) (64 * l.k) l.initial.out l.out l.p
