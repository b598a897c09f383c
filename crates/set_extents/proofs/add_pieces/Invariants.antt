use mathlib.Core.Path.{◌≡◌}
use lib.ListN.{length}
use Rattle.dscb.specs.Forms.{geometry_of}
use Rattle.set_extents.proofs.Pieces.{Adding}
use Rattle.set_extents.proofs.add_pieces.Given as goal

abbrev pub invariant-loop-k : goal.invariant-loop-k
invariant-loop-k l = (length l.f1 ≡ 140) × (length l.f3 ≡ 140) × Adding (geometry_of l.g) l.type_byte l.pieces l.n l.k l.initial.f1 l.initial.f3 l.f1 l.f3
