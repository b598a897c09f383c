use mathlib.Core.Path.{◌≡◌}
use Prim.Native.Nat.{◌<◌}
use lib.ListN.{length, take}
use Rattle.model.specs.Model.{Volume, slots}
use Rattle.model.specs.Predicates.{All}
use Rattle.rules.specs.Reading.{chop}
use Rattle.rules.specs.Sound.{Sound}
use Rattle.dscb.specs.Forms.{geometry_of}
use Rattle.settle_slots.proofs.Chains.{Read}
use Rattle.settle_slots.proofs.read_chain.Given as goal

abbrev pub invariant-loop-i : goal.invariant-loop-i
invariant-loop-i l =
    (l.k < slots (geometry_of l.g)) × (l.n ≡ slots (geometry_of l.g)) × (length l.chain ≡ length l.initial.chain) × All (λ j. j < slots (geometry_of l.g)) (take l.i l.chain)
    × ((v : Volume) → v.geometry ≡ geometry_of l.g → Sound (chop (slots (geometry_of l.g)) l.table) v → Read (geometry_of l.g) l.table l.chain l.i l.k v.chain)
