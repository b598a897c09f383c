use mathlib.Core.Path.{◌≡◌}
use lib.ListN.{length, take}
use Rattle.settle_slots.specs.Settling.{Lowest}
use Rattle.settle_slots.proofs.take_slots.Given as goal

abbrev pub invariant-loop-place : goal.invariant-loop-place
invariant-loop-place l = Lowest l.n l.initial.free_slots l.free_slots (take l.place-index l.place-items) × (length l.place-items ≡ length l.initial.place-items)
