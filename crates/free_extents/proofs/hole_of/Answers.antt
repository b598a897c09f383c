use mathlib.Core.Path.{refl, sym}
use Prim.Native.Nat.{ℕ, ◌≤◌, ◌*◌}
use native.Mathlib.Nat.{mul-le-mul}
use native.Mathlib.Omega.{arith}
use lib.Arith.{digits_div, digits_mod}
use Rattle.free_extents.proofs.hole_of.Goals as goal

-- a count of tracks stays far below 32 bits
most : (cylinders h : ℕ) → cylinders ≤ 65535 → h ≤ 255 → cylinders * h ≤ 65535 * 255
most cylinders h = mul-le-mul

pub overflow_mul-count : goal.overflow_mul-count
overflow_mul-count c = omega (arith, most c.args.cylinders c.args.h (omega arith) c.requires.3)

pub overflow_add-count : goal.overflow_add-count
overflow_add-count c = omega (arith, most c.args.cylinders c.args.h (omega arith) c.requires.3)

pub returns-then-odd-h : goal.returns-then-odd-h
returns-then-odd-h c =
    (refl, omega (arith, most c.args.cylinders c.args.h (omega arith) c.requires.3), sym (digits_div c.args.cylinders c.if-odd-h.true), sym (digits_mod c.args.cylinders c.if-odd-h.true))

pub returns-else-odd-h : goal.returns-else-odd-h
returns-else-odd-h c = (refl, omega (arith, most c.args.cylinders c.args.h (omega arith) c.requires.3), refl, refl)
