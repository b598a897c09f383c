-- Numbers of a geometry within its limits fit their bytes; addresses of slots. Assumes nothing.
use Prim.Native.Nat.{ℕ, ◌+◌, ◌/◌, ◌%◌, zero, suc}
use mathlib.Core.Path.{◌≡◌, refl}
use mathlib.Core.List.{[], ◌∷◌, ◌++◌}
use Rattle.model.specs.Model.{Geometry}
use Rattle.rules.specs.Layout.{cchh, link}

pub link_some : (g : Geometry) (k : ℕ) → (k ≡ 0 → ⊥) → cchh g (g.vtoc_start + k / g.records) ++ (k % g.records + 1) ∷ [] ≡ link g k
link_some g zero h = absurd (h refl)
link_some g (suc k) h = refl
