use Prim.Native.Nat.{◌+◌}
use native.Mathlib.Omega.{arith}
use Rattle.ebcdic.proofs.Pairs.{pair_is}
use Rattle.ebcdic.proofs.misfit.Goals as goal

pub returns : goal.returns
returns c =
    let a = c.args in
    let h = c.type_inv.name (a.i + 1) in
    pair_is a.name.now a.i c.wanted_after.result c.class_of.result (omega arith) c.wanted_after.ensures c.class_of.ensures
