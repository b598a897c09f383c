-- From what the map gives to what the rules grant, kind by kind. Assumes nothing.
use mathlib.Core.Path.{◌≡◌, refl, sym, ap, ◌∙◌, subst}
use mathlib.Core.Bool.{Bool, true, false, cond}
use mathlib.Core.Option.{Option, none, some}
use mathlib.Core.List.{List, [], ◌∷◌, map}
use Prim.Native.Nat.{ℕ, ◌+◌, ◌-◌, ◌≤◌}
use native.Mathlib.Omega.{arith}
use lib.Dec.{eqb}
use lib.ListN.{set}
use Rattle.model.specs.Basics.{all, map_option, up_from}
use Rattle.model.specs.Model.{Geometry, Label, Run, extent, free, held, overs, run, times, tracks}
use Rattle.model.specs.Choice.{SpaceOption, pieces}
use Rattle.rules.specs.Calls.{exactly, grant as granting}
use Rattle.rules.specs.Predicates.{Asks}
use Rattle.bitmap.specs.Map.{Shows, is_free}
use Rattle.choose_pieces.specs.Grant.{granted_runs, grant_of, no_pieces}
use Rattle.choose_pieces.proofs.Reply.{granted_pieces, overs_extents}
use Rattle.request.specs.declared.Amount.{Amount as Asked}
use Rattle.request.specs.declared.Amount.TheVariants.{Tracks, Cylinders, Absolute}
use Rattle.request.specs.Request.{exact_runs, pieces_of, to_amount}
use Rattle.request.proofs.Free.{all_held}

-- ---- exactly these tracks

-- the tracks from s up to s + n, as the code counts them
same_range : (m : List ℕ) (s n : ℕ) → all (is_free m) (up_from s (s + n - s)) ≡ all (is_free m) (up_from s n)
same_range m s n = let e : s + n - s ≡ n = omega arith in ap (λ (k : ℕ). all (is_free m) (up_from s k)) e

module _ (m : List ℕ) (s n : ℕ) (r : Bool) (e : r ≡ all (is_free m) (up_from s (s + n - s))) where
  pub exact_yes : r ≡ true → set no_pieces 0 (s ∷ n ∷ []) ≡ grant_of (exact_runs m s n)
  unfolding exact_runs grant_of
  exact_yes h = rw (sym (same_range m s n) ∙ sym e ∙ h)

  pub exact_no : r ≡ false → no_pieces ≡ grant_of (exact_runs m s n)
  unfolding exact_runs grant_of
  exact_no h = rw (sym (same_range m s n) ∙ sym e ∙ h)

-- ---- what an amount needs

module _ (g : Geometry) (a : Asked) (k : Asks g (to_amount a)) where
  pub tracks_asked : (n : ℕ) → a ≡ Tracks n → 1 ≤ n
  tracks_asked n e = subst (λ (x : Asked). Asks g (to_amount x)) e k

  pub cylinders_asked : (n : ℕ) → a ≡ Cylinders n → 1 ≤ n
  cylinders_asked n e = subst (λ (x : Asked). Asks g (to_amount x)) e k

  pub absolute_asked : (s n : ℕ) → a ≡ Absolute s n → (1 ≤ n) × (s + n ≤ tracks g)
  absolute_asked s n e = subst (λ (x : Asked). Asks g (to_amount x)) e k

-- ---- the reply

-- runs, made extents of type b, and back
pub runs_back : (b : ℕ) (o : Option (List Run)) → o ≡ map_option overs (map_option (map (extent b)) o)
runs_back b none = refl
runs_back b (some ps) = ap (λ (x : List Run). some x) (sym (overs_extents b ps))

module _ (m : List ℕ) (g : Geometry) (ls : List Label) (h : Shows m (tracks g) (held g ls)) where
  by_units : (o : SpaceOption) (b u n : ℕ) → granted_runs o u n (free g ls) ≡ map_option overs (pieces o b u n (free g ls))
  by_units o b u n = runs_back b (granted_runs o u n (free g ls)) ∙ ap (map_option overs) (sym (granted_pieces o b u n (free g ls)))

  exact_runs_lem : (s n : ℕ) → s + n ≤ tracks g → exact_runs m s n ≡ map_option overs (exactly (run s n) (held g ls))
  unfolding exact_runs
  exact_runs_lem s n l = ap (λ (x : Bool). cond x (some (run s n ∷ [])) none) (all_held m (tracks g) (held g ls) h s n l) ∙ go (all (λ t. eqb (times t (held g ls)) 0) (up_from s n))
    where
      go : (x : Bool) → cond x (some (run s n ∷ [])) none ≡ map_option overs (cond x (some (extent 0x01 (run s n) ∷ [])) none)
      go true = refl
      go false = refl

  module _ (o : SpaceOption) (a : Asked) (x : List (List ℕ)) where
    pub tracks_reply : (n : ℕ) → a ≡ Tracks n → x ≡ grant_of (granted_runs o 1 n (free g ls)) → x ≡ grant_of (pieces_of g ls o (to_amount a))
    unfolding pieces_of granting
    tracks_reply n e q = q ∙ ap grant_of (by_units o 0x01 1 n ∙ ap (λ (b : Asked). pieces_of g ls o (to_amount b)) (sym e))

    pub cylinders_reply : (n : ℕ) → a ≡ Cylinders n → x ≡ grant_of (granted_runs o g.heads n (free g ls)) → x ≡ grant_of (pieces_of g ls o (to_amount a))
    unfolding pieces_of granting
    cylinders_reply n e q = q ∙ ap grant_of (by_units o 0x81 g.heads n ∙ ap (λ (b : Asked). pieces_of g ls o (to_amount b)) (sym e))

    pub absolute_reply : (s n : ℕ) → a ≡ Absolute s n → s + n ≤ tracks g → x ≡ grant_of (exact_runs m s n) → x ≡ grant_of (pieces_of g ls o (to_amount a))
    unfolding pieces_of granting
    absolute_reply s n e l q = q ∙ ap grant_of (exact_runs_lem s n l ∙ ap (λ (b : Asked). pieces_of g ls o (to_amount b)) (sym e))
