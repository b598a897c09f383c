use Prim.Native.Nat.{◌+◌, ◌≤◌}
use native.Mathlib.Nat.{mul-le-mul}
use native.Mathlib.Omega.{arith}
use Rattle.choose_pieces.proofs.least_of_use.Goals as goal

pub overflow_mul-result : goal.overflow_mul-result
overflow_mul-result c =
    let w : c.min.result ≤ 4294967296 = omega arith in
    let u : c.from-3.result ≤ 255 = omega arith in
    omega (arith, mul-le-mul w u)

pub returns : goal.returns
returns c =
    let u : c.from-3.result ≤ c.args.u = omega arith in
    let a : c.min.result ≤ c.args.amount = omega arith in
    let f : c.min.result ≤ c.args.fifth + 1 = omega arith in
    (mul-le-mul a u, mul-le-mul f u)
