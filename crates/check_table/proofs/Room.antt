-- Room in a map of free tracks. Assumes nothing.
use mathlib.Core.Path.{◌≡◌, sym, ap, ◌∙◌, subst}
use mathlib.Core.List.{List}
use Prim.Native.Nat.{ℕ, ◌*◌, ◌/◌, ◌%◌, ◌≤◌}
use native.Mathlib.Omega.{arith}
use lib.ListN.{length, length-replicate, get_or-replicate}
use Rattle.model.specs.Model.{Geometry, tracks}
use Rattle.rules.specs.Reading.{read_geometry}
use Rattle.rules.specs.Predicates.{Limits}
use Rattle.bitmap.specs.Map.{AllFree, free_bit}
use Rattle.bitmap.proofs.Bits.{all_ones}
use Rattle.dscb.specs.Records.{slot_bytes}
use Rattle.check_table.specs.Check.{Roomy, ones}

-- words of ones: every track is free
ones_free : (n : ℕ) → AllFree (ones n) 0 (64 * n)
unfolding free_bit
ones_free n t u h = rw (get_or-replicate {A = ℕ} n (t / 64) 0xffff_ffff_ffff_ffff 0 (omega arith)) (all_ones (t % 64) (omega arith))

fresh_ones : (m : List ℕ) (n : ℕ) → m ≡ ones n → (length m ≡ n) × AllFree m 0 (64 * length m)
fresh_ones m n e =
    let l : length m ≡ n = ap length e ∙ length-replicate {A = ℕ} n 0xffff_ffff_ffff_ffff in
    (l, subst (λ (x : List ℕ). AllFree x 0 (64 * length m)) (sym e) (λ t u h. ones_free n t u (omega arith)))

-- 1,024 words have room for every volume
pub roomy_large : (t m : List ℕ) → m ≡ ones 1024 → Roomy t m
roomy_large t m e =
    let f = fresh_ones m 1024 e in
    record {
      enough = λ lim. let u = lim.tracks_most in omega arith;
      fresh = f.1;
    }

-- 64 words have room for 4,096 tracks
pub roomy_small : (t m : List ℕ) → tracks (read_geometry (slot_bytes t 0)) ≤ 4096 → m ≡ ones 64 → Roomy t m
roomy_small t m u e =
    let f = fresh_ones m 64 e in
    record {
      enough = λ lim. omega arith;
      fresh = f.1;
    }

-- what a map with room is needed for
pub room_for : (t m : List ℕ) (g : Geometry) → Roomy t m → g ≡ read_geometry (slot_bytes t 0) → Limits g → tracks g ≤ 64 * length m
room_for t m g x e lim = subst (λ (h : Geometry). tracks h ≤ 64 * length m) (sym e) (x.enough (subst Limits e lim))

pub free_for : (t m : List ℕ) (g : Geometry) → Roomy t m → g ≡ read_geometry (slot_bytes t 0) → Limits g → AllFree m 0 (tracks g)
free_for t m g x e lim i u h = let w = room_for t m g x e lim in x.fresh i u (omega arith)
