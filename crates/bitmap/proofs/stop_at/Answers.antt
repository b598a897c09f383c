use mathlib.Core.Path.{refl}
use Prim.Native.Nat.{◌+◌}
use native.Mathlib.Nat.{le_refl}
use native.Mathlib.Omega.{arith}
use lib.Count.{trailing_le}
use Rattle.bitmap.proofs.Bits.{trailing_small}
use Rattle.bitmap.proofs.Far.{stop_end, stop_first, stop_rest}
use Rattle.bitmap.proofs.Near.{rest_none}
use Rattle.bitmap.proofs.stop_at.Goals as goal

pub overflow_cast-to-2 : goal.overflow_cast-to-2
overflow_cast-to-2 c = omega (arith, trailing_le 64 (c.args.low + 1))

pub overflow_add-to : goal.overflow_add-to
overflow_add-to c = omega (arith, trailing_small 64 (c.args.low + 1) (omega arith) (λ e. absurd (omega arith)))

pub returns-then-to-n : goal.returns-then-to-n
returns-then-to-n c =
    let a = c.args in
    (refl, λ m d. (stop_first m a.n a.from a.w a.y a.low d (omega arith) c.requires.2 c.if-to-n.true, stop_rest m a.n a.from a.w a.y a.low d (omega arith) c.requires.2))

pub returns : goal.returns
returns c =
    let a = c.args in
    (refl, λ m d. (stop_end m a.n a.from a.w a.y a.low d (omega arith) c.requires.2 c.if-to-n.false c.requires.1, rest_none m a.n a.n (le_refl a.n)))
