use Rattle.check_table.specs.Labels.{GoneBelow}
use Rattle.names.proofs.Laws.{NameEntering}
use Rattle.dscb.specs.Forms.{geometry_of}
use Rattle.model.specs.Model.{slots}
use lib.ListN.{length}
use mathlib.Core.Bool.{true}
use mathlib.Core.Path.{◌≡◌}
use Rattle.check_table.proofs.take_labels.Given as goal

abbrev pub invariant-loop-k : goal.invariant-loop-k
invariant-loop-k l = (l.n ≡ slots (geometry_of l.g)) × (length l.free_tracks ≡ length l.initial.free_tracks) × (length l.free_slots ≡ length l.initial.free_slots) × GoneBelow (geometry_of l.g) l.table l.k l.initial.free_tracks l.free_tracks l.initial.free_slots l.free_slots true × NameEntering l.table l.tags l.seen l.k (slots (geometry_of l.g))
