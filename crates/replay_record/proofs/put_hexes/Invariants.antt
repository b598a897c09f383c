use Prim.Native.Nat.{◌*◌}
use lib.ListN.{take}
use Rattle.rows.specs.Text.{Written}
use Rattle.replay_record.specs.Line.{hex}
use Rattle.replay_record.proofs.put_hexes.Given as goal

abbrev pub invariant-loop-x : goal.invariant-loop-x
invariant-loop-x l = Written l.at (hex (take l.x-index l.s)) (2 * l.x-index) l.initial.out l.out l.p
