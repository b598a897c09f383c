-- The map of free tracks: how many tracks a format 4 tells of, and room for them. Assumes nothing.
use mathlib.Core.Path.{◌≡◌, refl, sym, ap₂, ◌∙◌, subst}
use mathlib.Core.Bool.{true, false}
use mathlib.Core.List.{List}
use Prim.Native.Nat.{ℕ, ◌*◌, ◌≤◌, ◌<◌}
use native.Mathlib.Nat.{mul-le-mul}
use native.Mathlib.Omega.{arith}
use lib.Dec.{T}
use lib.ListN.{length}
use Rattle.model.specs.Basics.{get2}
use Rattle.model.specs.Model.{Geometry, tracks}
use Rattle.model.proofs.Lists.{clash}
use Rattle.rules.specs.Reading.{read, read_geometry}
use Rattle.rules.specs.Table.{taken}
use Rattle.dscb.specs.Records.{slot_bytes}
use Rattle.check_table.specs.Check.{Roomy}
use Rattle.check_table.proofs.Room.{room_for}
use Rattle.open_table.proofs.Laws.{ready}
use Rattle.open_table.proofs.Lookup.{limits_of}

-- ---- a small volume

pub no_answer : (n : ℕ) → false ≡ true → n ≤ 4096
no_answer n e = clash e refl

pub map_fits_lem : (a b : ℕ) → a < 65536 → b < 65536 → a * b < 4294967296
map_fits_lem a b u v = let x : a ≤ 65535 = omega arith in let y : b ≤ 65535 = omega arith in let m : a * b ≤ 65535 * 65535 = mul-le-mul x y in omega arith

told : (rec : List ℕ) → get2 rec 62 * get2 rec 64 ≡ tracks (read_geometry rec)
unfolding read_geometry
told rec = refl

pub small_told : (t rec : List ℕ) (a b : ℕ) → rec ≡ slot_bytes t 0 → a ≡ get2 rec 62 → b ≡ get2 rec 64 → a * b ≤ 4096 → tracks (read_geometry (slot_bytes t 0)) ≤ 4096
small_told t rec a b e p q w =
    subst (λ (r : List ℕ). tracks (read_geometry r) ≤ 4096) e (subst (λ (n : ℕ). n ≤ 4096) (ap₂ (λ (x y : ℕ). x * y) p q ∙ told rec) w)

-- ---- the map of a table that is taken

pub room_of : (t m : List ℕ) (n : ℕ) → T (taken t) → (g : Geometry) → g ≡ (read t).geometry → Roomy t m → n ≡ length m → tracks g ≤ 64 * n
room_of t m n x g eg r e = let u = room_for t m g r (eg ∙ sym (ready t x).slot0) (limits_of t x g eg) in omega arith
