-- What stands in a grant: the pieces as extents of a data set, read back, and counted. Assumes nothing.
use mathlib.Core.Path.{◌≡◌, refl, sym, ap, ◌∙◌}
use mathlib.Core.Bool.{false}
use mathlib.Core.Option.{Option, none, some}
use mathlib.Core.List.{List, [], ◌∷◌, ◌++◌, map}
use Prim.Native.Nat.{ℕ, zero, suc, ◌+◌, ◌≤◌, ◌<◌}
use native.Mathlib.Numerals.{add-one}
use native.Mathlib.Omega.{arith}
use borrow.Author.Tests.{ne_eqb}
use lib.Dec.{eqb}
use lib.ListN.{length, get_or, drop, replicate, drop_of_length-le}
use lib.Seq.{drop-cons}
use Rattle.model.specs.Basics.{map_option}
use Rattle.model.specs.Model.{Run, run, Extent, extent, overs, total}
use Rattle.model.specs.Choice.{SpaceOption, candidates, choose_by, scale, piece, pieces}
use Rattle.model.specs.Predicates.{All}
use Rattle.choose_pieces.specs.Grant.{granted_runs, row, no_pieces, grant_of, rows_in}

-- ---- the pieces as extents of a data set

-- the rules' extents of type b
pub granted_pieces : (o : SpaceOption) (b u n : ℕ) (f : List Run) → pieces o b u n f ≡ map_option (map (extent b)) (granted_runs o u n f)
unfolding granted_runs
granted_pieces o b u n f = go (choose_by o n (candidates u f))
  where
    each : (ps : List Run) → map (piece b u) ps ≡ map (extent b) (map (scale u) ps)
    each [] = refl
    each (p ∷ ps) = ap (λ (x : List Extent). piece b u p ∷ x) (each ps)

    go : (o : Option (List Run)) → map_option (map (piece b u)) o ≡ map_option (map (extent b)) (map_option (map (scale u)) o)
    go none = refl
    go (some ps) = ap (λ (x : List Extent). some x) (each ps)

pub overs_extents : (b : ℕ) (ps : List Run) → overs (map (extent b) ps) ≡ ps
overs_extents b [] = refl
overs_extents b (p ∷ ps) = ap (λ (x : List Run). p ∷ x) (overs_extents b ps)

-- ---- the pieces that stand in a grant

none_left : (n k : ℕ) → rows_in (drop k (replicate n (0 ∷ 0 ∷ []))) ≡ []
unfolding rows_in
none_left zero zero = refl
none_left zero (suc k) = refl
none_left (suc n) zero = refl
none_left (suc n) (suc k) = none_left n k

in_front : (ps : List Run) (zs : List (List ℕ)) → All (λ p. 1 ≤ p.count) ps → rows_in zs ≡ [] → rows_in (map row ps ++ zs) ≡ ps
unfolding rows_in
in_front [] zs a e = e
in_front (p ∷ ps) zs a e =
    let q : eqb p.count 0 ≡ false = ne_eqb p.count 0 (λ z. absurd (omega (arith, a.0))) in
    rw q (ap (λ (x : List Run). p ∷ x) (in_front ps zs a.1 e))

pub none_back : rows_in (grant_of none) ≡ []
unfolding grant_of
none_back = none_left 5 0

pub array_back : (ps : List Run) → All (λ p. 1 ≤ p.count) ps → rows_in (grant_of (some ps)) ≡ ps
unfolding grant_of
array_back ps a = in_front ps (drop (length ps) no_pieces) a (none_left 5 (length ps))

-- ---- the pieces counted, place by place

-- what stands in the places from k on is still to be counted
pub record Counting (g : List (List ℕ)) (k tracks : ℕ) : Type 0 where
  pub few : k ≤ 5
  pub count_is : k + length (rows_in (drop k g)) ≡ length (rows_in g)
  pub tracks_are : tracks + total (rows_in (drop k g)) ≡ total (rows_in g)

pub counting_none : (g : List (List ℕ)) → Counting g 0 0
counting_none g = record { few = omega arith; count_is = omega arith; tracks_are = omega arith }

module _ {g : List (List ℕ)} {k tracks : ℕ} (c : Counting g k tracks) (l : length g ≡ 5) where
  ended : rows_in (drop k g) ≡ [] → (k ≡ length (rows_in g)) × (tracks ≡ total (rows_in g))
  ended e =
      let a = ap (λ (x : List Run). length x) e in
      let b = ap total e in
      let x = c.count_is in
      let y = c.tracks_are in
      (omega arith, omega arith)

  pub counted_all : 5 ≤ k → (k ≡ length (rows_in g)) × (tracks ≡ total (rows_in g))
  unfolding rows_in
  counted_all h = ended (ap rows_in (drop_of_length-le g {i = k} (omega arith)))

  -- place k has n tracks
  module _ (h : k < 5) (n : ℕ) (e : n ≡ get_or (get_or g k []) 1 0) where
    here : drop k g ≡ get_or g k [] ∷ drop (suc k) g
    here = drop-cons g k [] (omega arith)

    pub counted_here : n ≡ 0 → (k ≡ length (rows_in g)) × (tracks ≡ total (rows_in g))
    unfolding rows_in
    counted_here z = ended (ap rows_in here ∙ rw (sym e ∙ z))

    pub counting_next : (n ≡ 0 → ⊥) → Counting g (k + 1) (tracks + n)
    unfolding rows_in
    counting_next z =
        let r = get_or g k [] in
        let q : eqb (get_or r 1 0) 0 ≡ false = ne_eqb (get_or r 1 0) 0 (λ y. absurd (z (e ∙ y))) in
        let f : rows_in (drop k g) ≡ run (get_or r 0 0) (get_or r 1 0) ∷ rows_in (drop (suc k) g) = ap rows_in here ∙ rw q in
        let a = ap (λ (x : List Run). length x) f in
        let b = ap total f in
        let x = c.count_is in
        let y = c.tracks_are in
        rw (add-one k) (record { few = h; count_is = omega arith; tracks_are = omega arith })
