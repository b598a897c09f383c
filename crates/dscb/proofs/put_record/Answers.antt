use Rattle.dscb.proofs.Records.{copied_in}
use Rattle.dscb.specs.Records.{put_record}
use lib.ListN.{length}
use native.Mathlib.Omega.{arith}
use Prim.Native.Nat.{◌*◌}
use mathlib.Core.Path.{◌≡◌}
use borrow.Author.Rules.{rules}
use Rattle.dscb.proofs.put_record.Goals as goal

pub returns : goal.returns
unfolding put_record
returns c =
    let n : length c.args.rec.now ≡ 140 = search rules in
    rw n at (copied_in c.args.table.now c.args.rec.now c.copy.new.to (140 * c.args.k) (omega arith) c.copy.ensures.1)
