use mathlib.Core.Path.{ap}
use Rattle.model.specs.Model.{Run}
use Prim.Native.Nat.{◌+◌}
use Rattle.dscb.specs.Forms.{geometry_of}
use Rattle.set_extents.proofs.Joining.{last_in, no_extent_lem, touches_is}
use native.Mathlib.Omega.{arith}
use Rattle.set_extents.proofs.joins_last.Goals as goal

pub returns-then-n-eq0 : goal.returns-then-n-eq0
returns-then-n-eq0 c = no_extent_lem (geometry_of c.args.g) c.args.f1.now c.args.f3.now c.args.n c.requires c.if-n-eq0.true _

pub extent_at-last-requires : goal.extent_at-last-requires
extent_at-last-requires c =
    let x = last_in (geometry_of c.args.g) c.args.f1.now c.args.f3.now c.args.n c.requires (omega (arith, c.if-n-eq0.false)) in
    (c.requires.long1, c.requires.long3, x.0, x.1, x.2)

pub overflow_add-result : goal.overflow_add-result
overflow_add-result c =
    let x = last_in (geometry_of c.args.g) c.args.f1.now c.args.f3.now c.args.n c.requires (omega (arith, c.if-n-eq0.false)) in
    let e = ap (λ (r : Run). r.start + r.count) c.extent_at-last.ensures in
    omega (arith, x.2)

pub returns : goal.returns
returns c =
    touches_is (geometry_of c.args.g) c.args.f1.now c.args.f3.now c.args.n c.requires _ _ c.extent_at-last.ensures (omega (arith, c.if-n-eq0.false)) _ _ c.from.ensures
