-- The small choices: slots asked for, and which slot a record takes. Assumes nothing.
use mathlib.Core.Path.{◌≡◌, refl}
use mathlib.Core.Bool.{Bool, true, false, cond}
use Prim.Native.Nat.{ℕ, zero, suc, ◌+◌, ◌*◌, ◌≤◌, ◌<◌}
use native.Mathlib.Omega.{arith}
use Rattle.rules.specs.Slots.{slot_or}

pub or_given : (k new : ℕ) → k ≡ 0 → new ≡ slot_or k new
or_given zero new e = refl
or_given (suc k) new e = absurd (omega arith)

pub or_own : (k new : ℕ) → (k ≡ 0 → ⊥) → k ≡ slot_or k new
or_own zero new e = absurd (e refl)
or_own (suc k) new e = refl

pub freed_below : (few : Bool) (third n k x : ℕ) → x ≡ cond few third 0 → third < n → k ≡ 140 * n → 140 * x + 140 ≤ k
freed_below true third n k x e u l = omega arith
freed_below false third n k x e u l = omega arith
