-- The format 3 of a label: what the operations on its record make of it. Assumes nothing.
use Prim.Native.Nat.{ℕ, ◌+◌, ◌-◌, ◌*◌, ◌≤◌, ◌<◌}
use mathlib.Core.Path.{◌≡◌, ◌∙◌, sym, ap, refl}
use mathlib.Core.List.{List, [], ◌∷◌, ◌++◌}
use native.Mathlib.Omega.{arith}
use lib.Seq.{take-append-le, take_all, take-take, drop-append-le}
use lib.ListN.{length, drop_of_length-le, drop, set, take, length-replicate, length-drop}
use Rattle.model.specs.Basics.{fill, zeros}
use Rattle.model.specs.Model.{Extent, Geometry, Label}
use Rattle.model.proofs.Lists.{drop_take}
use Rattle.rules.specs.Layout.{extent_bytes, extents_bytes, fields3, format3, whole}
use Rattle.rules.specs.Slots.{with_extents}
use Rattle.rules.proofs.Bytes.{length_fill}
use Rattle.rules.proofs.LabelBack.{lengths3, lens3}
use Rattle.dscb_write.specs.Blank.{blank}
use Rattle.dscb_write.specs.Put.{put_at}
use Rattle.dscb_write.proofs.Extents.{extent_more, extents_first}
use Rattle.dscb_write.proofs.Filling.{drop_snoc, take_snoc, take_swap}
use Rattle.dscb_write.proofs.Putting.{lengths_set, put_field}
use Rattle.dscb_write.specs.Labels.{Format3, with_extent, first_extents}

-- NONE: no more than three extents
pub three_none : (g : Geometry) (l : Label) → length l.extents ≤ 3 → Format3 g l (blank 4 0x03 0xF3)
unfolding blank put_at format3
three_none g l h =
    let a : drop 3 l.extents ≡ [] = drop_of_length-le l.extents {i = 3} h in
    let b : drop 7 l.extents ≡ [] = drop_of_length-le l.extents {i = 7} (omega arith) in
    rw (a, b)

-- the two fields of extents
abbrev fours : Geometry → List Extent → List ℕ
fours g es = fill 40 (extents_bytes g 3 (take 4 (drop 3 es)))

abbrev nines : Geometry → List Extent → List ℕ
nines g es = fill 90 (extents_bytes g 7 (drop 7 es))

-- OTHER EXTENTS: bytes in either field
three_extents : (g : Geometry) (l : Label) (r : List ℕ) → Format3 g l r → (es : List Extent)
    → (o : ℕ) (xs : List ℕ) → o + length xs ≤ 40 → put_at (fours g l.extents) o xs ≡ fours g es
    → (p : ℕ) (ys : List ℕ) → p + length ys ≤ 90 → put_at (nines g l.extents) p ys ≡ nines g es
    → (i j : ℕ) → i ≡ 4 + o → j ≡ 45 + p → Format3 g (with_extents es l.ttr l) (put_at (put_at r i xs) j ys)
unfolding format3
three_extents g l r is es o xs h e p ys k f i j a b =
    let fs : List (List ℕ) = fields3 g l in
    let m = length_fill 40 (extents_bytes g 3 (take 4 (drop 3 es))) in
    ap (λ (x : List ℕ). put_at (put_at x i xs) j ys) is
    ∙ ap (λ (x : List ℕ). put_at x j ys) (put_field 1 lengths3 fs (lens3 g l) (omega arith) o xs h i a ∙ ap (λ (x : List ℕ). whole (set fs 1 x)) e)
    ∙ put_field 3 lengths3 (set fs 1 (fours g es)) (lengths_set 1 lengths3 fs (fours g es) (lens3 g l) m) (omega arith) p ys k j b
    ∙ ap (λ (x : List ℕ). whole (set (set fs 1 (fours g es)) 3 x)) f

nothing : (xs ys : List ℕ) → xs ≡ ys → put_at xs 0 [] ≡ ys
unfolding put_at
nothing xs ys e = e

module _ (g : Geometry) (l : Label) (r : List ℕ) (is : Format3 g l r) where
  abbrev es : List Extent
  es = l.extents

  -- ONE EXTENT MORE: among extents 3 to 6, and behind them
  pub more_in_three : (e : Extent) (n : ℕ) → length es ≡ n → 3 ≤ n → n < 7 → Format3 g (with_extent e l) (put_at r (4 + 10 * (n - 3)) (extent_bytes g n e))
  unfolding put_at
  more_in_three e n c h k =
      let d : length (drop 3 es) ≡ n - 3 = length-drop 3 es ∙ ap (λ (m : ℕ). m - 3) c in
      let a : take 4 (drop 3 es) ≡ drop 3 es = take_all 4 (drop 3 es) (omega arith) in
      let b : take 4 (drop 3 (es ++ e ∷ [])) ≡ drop 3 es ++ e ∷ [] =
      ap (take 4) (drop-append-le 3 es (e ∷ []) (omega arith)) ∙ take_snoc 4 (drop 3 es) e (omega arith) ∙ ap (λ (x : List Extent). x ++ e ∷ []) a in
      three_extents g l r is (es ++ e ∷ []) (10 * (n - 3)) (extent_bytes g n e) (omega arith)
      (ap (λ (x : List Extent). put_at (fill 40 (extents_bytes g 3 x)) (10 * (n - 3)) (extent_bytes g n e)) a
      ∙ ap (λ (m : ℕ). put_at (fill 40 (extents_bytes g 3 (drop 3 es))) (10 * m) (extent_bytes g n e)) (sym d)
      ∙ extent_more g 40 3 (drop 3 es) e n (omega arith) (omega arith)
      ∙ ap (λ (x : List Extent). fill 40 (extents_bytes g 3 x)) (sym b))
      0 [] (omega arith)
      (nothing (nines g es) (nines g (es ++ e ∷ [])) (ap (λ (x : List Extent). fill 90 (extents_bytes g 7 x)) (sym (drop_snoc 7 es e (omega arith)))))
      (4 + 10 * (n - 3)) 45 refl refl

  pub more_past_three : (e : Extent) (n : ℕ) → length es ≡ n → 7 ≤ n → n < 16 → Format3 g (with_extent e l) (put_at r (45 + 10 * (n - 7)) (extent_bytes g n e))
  unfolding put_at
  more_past_three e n c h k =
      let d : length (drop 7 es) ≡ n - 7 = length-drop 7 es ∙ ap (λ (m : ℕ). m - 7) c in
      let q = length-drop 3 es in
      let a : take 4 (drop 3 (es ++ e ∷ [])) ≡ take 4 (drop 3 es) =
      ap (take 4) (drop-append-le 3 es (e ∷ []) (omega arith)) ∙ take-append-le 4 (drop 3 es) (e ∷ []) (omega arith) in
      three_extents g l r is (es ++ e ∷ []) 0 [] (omega arith)
      (nothing (fours g es) (fours g (es ++ e ∷ [])) (ap (λ (x : List Extent). fill 40 (extents_bytes g 3 x)) (sym a)))
      (10 * (n - 7)) (extent_bytes g n e) (omega arith)
      (ap (λ (m : ℕ). put_at (fill 90 (extents_bytes g 7 (drop 7 es))) (10 * m) (extent_bytes g n e)) (sym d)
      ∙ extent_more g 90 7 (drop 7 es) e n (omega arith) (omega arith)
      ∙ ap (λ (x : List Extent). fill 90 (extents_bytes g 7 x)) (sym (drop-append-le 7 es (e ∷ []) (omega arith))))
      4 (45 + 10 * (n - 7)) refl refl

  -- THE FIRST n
  pub first_in_three : (n : ℕ) → 3 ≤ n → n < 7 → Format3 g (first_extents n l) (put_at (put_at r (4 + 10 * (n - 3)) (zeros (44 - (4 + 10 * (n - 3))))) 45 (zeros 90))
  first_in_three n h k =
      let z = length-replicate {A = ℕ} (44 - (4 + 10 * (n - 3))) 0 in
      let w : 44 - (4 + 10 * (n - 3)) ≡ 40 - 10 * (n - 3) = omega arith in
      let v : 0 ≡ n - 7 = omega arith in
      three_extents g l r is (take n es) (10 * (n - 3)) (zeros (44 - (4 + 10 * (n - 3)))) (omega arith)
      (ap (λ (m : ℕ). put_at (fours g es) (10 * (n - 3)) (zeros m)) w
      ∙ extents_first g 40 3 (take 4 (drop 3 es)) (n - 3) (omega arith)
      ∙ ap (λ (x : List Extent). fill 40 (extents_bytes g 3 x)) (take_swap (n - 3) 4 (drop 3 es) ∙ ap (take 4) (sym (drop_take 3 n es))))
      0 (zeros 90) (omega arith)
      (extents_first g 90 7 (drop 7 es) 0 (omega arith)
      ∙ ap (λ (x : List Extent). fill 90 (extents_bytes g 7 x)) (ap (λ (m : ℕ). take m (drop 7 es)) v ∙ sym (drop_take 7 n es)))
      (4 + 10 * (n - 3)) 45 refl refl

  pub first_past_three : (n : ℕ) → 7 ≤ n → n ≤ 16 → Format3 g (first_extents n l) (put_at r (45 + 10 * (n - 7)) (zeros (135 - (45 + 10 * (n - 7)))))
  unfolding put_at
  first_past_three n h k =
      let z = length-replicate {A = ℕ} (135 - (45 + 10 * (n - 7))) 0 in
      let w : 135 - (45 + 10 * (n - 7)) ≡ 90 - 10 * (n - 7) = omega arith in
      three_extents g l r is (take n es) 0 [] (omega arith)
      (nothing (fours g es) (fours g (take n es))
      (ap (λ (x : List Extent). fill 40 (extents_bytes g 3 x)) (sym (ap (take 4) (drop_take 3 n es) ∙ take-take 4 (n - 3) (drop 3 es) (omega arith)))))
      (10 * (n - 7)) (zeros (135 - (45 + 10 * (n - 7)))) (omega arith)
      (ap (λ (m : ℕ). put_at (nines g es) (10 * (n - 7)) (zeros m)) w
      ∙ extents_first g 90 7 (drop 7 es) (n - 7) (omega arith)
      ∙ ap (λ (x : List Extent). fill 90 (extents_bytes g 7 x)) (sym (drop_take 7 n es)))
      4 (45 + 10 * (n - 7)) refl refl
