-- The tracks of a data set, extent by extent. Assumes nothing.
use mathlib.Core.Path.{◌≡◌, refl, sym, ap, ◌∙◌, subst}
use mathlib.Core.List.{List, [], ◌∷◌, map}
use Prim.Native.Nat.{ℕ, zero, suc, ◌+◌, ◌≤◌, ◌<◌}
use native.Mathlib.Omega.{arith}
use native.Mathlib.Nat.{zero-add}
use native.Mathlib.Numerals.{add-one}
use lib.ListN.{length}
use Rattle.model.specs.Basics.{sum_of, up_from}
use Rattle.model.specs.Model.{Extent, Geometry, Label, Volume, overs, runs_of, total}
use Rattle.model.proofs.Lists.{All_map, All_range}
use Rattle.model.specs.Predicates.{All}
use Rattle.rules.specs.Layout.{extent_part}
use Rattle.rules.specs.Reading.{read_extent, read_extents}
use Rattle.rules.proofs.Valid.{free_balance, held_total, limits→}
use Rattle.rules.specs.Predicates.{GoodExtent, GoodLabel, Limits, Valid}
use Rattle.dscb.proofs.Tens.{extent_length}
use Rattle.listing.specs.Text.{Proper}

-- ---- one extent more

All_unmap : {A B : Type 0} (P : B → Type 0) (f : A → B) (xs : List A) → All P (map f xs) → All (λ x. P (f x)) xs
All_unmap P f [] a = tt
All_unmap P f (x ∷ xs) a = (a.0, All_unmap P f xs a.1)

total_from : (f : ℕ → Extent) (a n : ℕ) → total (overs (map f (up_from a (suc n)))) ≡ total (overs (map f (up_from a n))) + (f (a + n)).over.count
total_from f a zero = let e : a + 0 ≡ a = omega arith in rw e (omega arith)
total_from f a (suc n) =
    let e : a + suc n ≡ suc a + n = omega arith in
    let i = total_from f (suc a) n in
    rw e (omega arith)

module _ (h : ℕ) (f1 f3 : List ℕ) where
  proper_at : (n e : ℕ) → All Proper (read_extents h f1 f3 n) → e < n → Proper (read_extent h (extent_part f1 f3 e))
  unfolding read_extents
  proper_at n e a u =
      let f : ℕ → Extent = λ i. read_extent h (extent_part f1 f3 i) in
      All_range (λ i. Proper (f i)) 0 n (All_unmap Proper f (up_from 0 n) a) e (omega arith) (omega arith)

  pub total_none : total (overs (read_extents h f1 f3 0)) ≡ 0
  unfolding read_extents
  total_none = refl

  total_next : (e : ℕ) → total (overs (read_extents h f1 f3 (e + 1))) ≡ total (overs (read_extents h f1 f3 e)) + (read_extent h (extent_part f1 f3 e)).over.count
  unfolding read_extents
  total_next e =
      let f : ℕ → Extent = λ i. read_extent h (extent_part f1 f3 i) in
      ap (λ (k : ℕ). total (overs (map f (up_from 0 k)))) (add-one e)
      ∙ total_from f 0 e
      ∙ ap (λ (k : ℕ). total (overs (map f (up_from 0 e))) + (f k).over.count) (zero-add e)

  -- of the ten bytes x of extent e
  module _ (x : List ℕ) (e : ℕ) (q : x ≡ extent_part f1 f3 e) where
    pub ten_bytes : (n : ℕ) → length f1 ≡ 140 → length f3 ≡ 140 → n ≤ 16 → e < n → length x ≡ 10
    ten_bytes n l1 l3 m u = ap length q ∙ extent_length f1 f3 e l1 l3 (omega arith)

    pub proper_ten : (n : ℕ) → All Proper (read_extents h f1 f3 n) → e < n → Proper (read_extent h x)
    proper_ten n a u = subst (λ (y : List ℕ). Proper (read_extent h y)) (sym q) (proper_at n e a u)

    pub sum_next : (s r : ℕ) → s ≡ total (overs (read_extents h f1 f3 e)) → r ≡ (read_extent h x).over.count → s + r ≡ total (overs (read_extents h f1 f3 (e + 1)))
    sum_next s r a b =
        let d : r ≡ (read_extent h (extent_part f1 f3 e)).over.count = b ∙ ap (λ (y : List ℕ). (read_extent h y).over.count) q in
        let t = total_next e in
        omega arith

-- ---- what a valid volume's labels meet

proper : (g : Geometry) → Limits g → (es : List Extent) → All (GoodExtent g) es → All Proper es
proper g l es a = All_map (GoodExtent g) Proper (λ e x. record { full = x.full; ends = let t = l.tracks_most in let u = x.ends in omega arith }) es a

pub good_proper : (g : Geometry) → Limits g → (l : Label) → GoodLabel g l → All Proper l.extents
good_proper g m l h = proper g m l.extents h.extents

sum_part : (F : Label → ℕ) (n : ℕ) (ls : List Label) → sum_of F ls ≤ n → All (λ l. F l ≤ n) ls
sum_part F n [] h = tt
sum_part F n (l ∷ ls) h = (omega arith, sum_part F n ls (omega arith))

-- no data set has more tracks than the volume
pub tracks_most_lem : (v : Volume) → Valid v → All (λ l. total (runs_of l) ≤ 65535) v.labels
tracks_most_lem v h =
    let a = free_balance v h in
    let b = held_total v.geometry v.labels in
    let c = limits→ v.geometry h.limit in
    let d = c.tracks_most in
    sum_part (λ l. total (runs_of l)) 65535 v.labels (omega arith)
