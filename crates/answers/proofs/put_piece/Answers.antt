use Rattle.dscb_write.proofs.Putting.{put_then}
use Rattle.model.specs.Basics.{be2}
use lib.ListN.{get_or}
use native.Mathlib.Omega.{arith}
use Prim.Native.Nat.{◌+◌}
use Rattle.answers.proofs.put_piece.Goals as goal

pub returns : goal.returns
returns c =
    rw (c.put_two-2.ensures, c.put_two.ensures)
    (put_then c.args.all.now c.args.at (be2 (get_or c.args.p 0 0)) (be2 (get_or c.args.p 1 0)) (c.args.at + 2) (omega arith))
