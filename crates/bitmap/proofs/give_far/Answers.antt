use mathlib.Core.Path.{◌≡◌}
use Prim.Native.Nat.{◌+◌, ◌/◌}
use native.Mathlib.Omega.{arith}
use lib.ListN.{get_or, set}
use lib.Bits.{bit_or}
use Rattle.bitmap.specs.Map.{Made}
use Rattle.bitmap.proofs.Words.{give_chunk, made_none, made_more}
use Rattle.bitmap.proofs.give_far.Goals as goal

pub loop-t-init : goal.loop-t-init
loop-t-init c = (omega arith, omega arith, made_none _ _ _)

pub loop-t-preserved : goal.loop-t-preserved
loop-t-preserved c =
    let m = c.loop-t.map in
    let s = c.args.s in
    let t = c.loop-t.t in
    let n = c.chunk-n.result in
    let step : Made 1 m (set m (t / 64) (bit_or (get_or m (t / 64) 0) c.mask.result)) t (t + n) = rw c.mask.ensures (give_chunk m t n (omega arith) (omega arith)) in
    (omega arith, omega arith, rw c.from.ensures (made_more 1 c.args.map.now m _ s t (t + n) (omega arith) (omega arith) c.loop-t.invariant.2 step))

pub returns : goal.returns
returns c = let e : c.loop-t.t ≡ c.args.e = omega arith in rw e at c.loop-t.invariant.2
