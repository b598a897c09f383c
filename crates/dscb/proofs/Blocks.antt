-- Rows of extents in a record: the layout's field, and the ten bytes of each extent. Assumes nothing.
use mathlib.Core.Path.{◌≡◌, refl, sym, ap, ap₂, ◌∙◌, subst}
use mathlib.Core.Bool.{cond}
use mathlib.Core.List.{List, [], ◌∷◌, ◌++◌}
use Prim.Native.Nat.{ℕ, zero, suc, ◌+◌, ◌-◌, ◌*◌, ◌≤◌, ◌<◌}
use native.Mathlib.Nat.{add-zero, zero-add, sub-zero}
use native.Mathlib.Omega.{arith}
use borrow.Author.Tests.{le-ltb, lt-ltb, ltb-false, ltb-true}
use lib.Dec.{ltb}
use lib.ListN.{length, get_or, take, drop, length-drop, length-take, take-append-drop}
use lib.Seq.{drop-drop, get_or-drop, get_or-take, take_all}
use Rattle.model.specs.Basics.{fill, part, zeros}
use Rattle.model.specs.Model.{Extent, Geometry, extent, run}
use Rattle.model.proofs.Lists.{by, part_part}
use Rattle.rules.specs.Layout.{extent_bytes, extent_part, extents_bytes}
use Rattle.rules.proofs.Bytes.{fill_split, length_fill}
use Rattle.dscb.proofs.Records.{length_part}
use Rattle.dscb.proofs.Tens.{in_format1, in_format3, in_rest3}
use Rattle.dscb.proofs.Cutting.{zeros_part}

abbrev pub no_extent : Extent
no_extent = extent 0 (run 0 0)

-- the ten bytes that are written for extent number e
abbrev pub ten_for : Geometry → List Extent → ℕ → List ℕ
ten_for g es e = cond (ltb e (length es)) (extent_bytes g e (get_or es e no_extent)) (zeros 10)

-- the same for the j-th of some that are counted from a
abbrev ten_in : Geometry → ℕ → List Extent → ℕ → List ℕ
ten_in g a es j = cond (ltb j (length es)) (extent_bytes g (a + j) (get_or es j no_extent)) (zeros 10)

fill_front : (m : ℕ) (a b : List ℕ) → fill (length a + m) (a ++ b) ≡ a ++ fill m b
fill_front m [] b = ap (λ (n : ℕ). fill n b) (zero-add m)
fill_front m (x ∷ a) b =
    let e : suc (length a) + m ≡ suc (length a + m) = omega arith in
    ap (λ (n : ℕ). fill n (x ∷ (a ++ b))) e ∙ ap (λ (l : List ℕ). x ∷ l) (fill_front m a b)

-- ---- a row of extents by its tens

first_ten : (g : Geometry) (k a : ℕ) (e : Extent) (es : List Extent)
    → fill (10 * suc k) (extents_bytes g a (e ∷ es)) ≡ extent_bytes g a e ++ fill (10 * k) (extents_bytes g (suc a) es)
first_ten g k a e es =
    let q : 10 * suc k ≡ 10 + 10 * k = omega arith in
    ap (λ (n : ℕ). fill n (extents_bytes g a (e ∷ es))) q ∙ fill_front (10 * k) (extent_bytes g a e) (extents_bytes g (suc a) es)

row_at : (g : Geometry) (k a : ℕ) (es : List Extent) → length es ≤ k → (j : ℕ) → j < k → part (10 * j) 10 (fill (10 * k) (extents_bytes g a es)) ≡ ten_in g a es j
row_at g k a [] h j u =
    let f : fill (10 * k) [] ≡ zeros (10 * k) = fill_split (10 * k) [] (omega arith) ∙ ap zeros (sub-zero (10 * k)) in
    rw (le-ltb j 0 (omega arith)) (ap (part (10 * j) 10) f ∙ zeros_part (10 * j) 10 (10 * k) (omega arith))
row_at g zero a (e ∷ es) h j u = absurd (omega arith)
row_at g (suc k) a (e ∷ es) h zero u =
    rw (lt-ltb 0 (suc (length es)) (omega arith)) (ap (part 0 10) (first_ten g k a e es) ∙ ap (λ (x : ℕ). extent_bytes g x e) (sym (add-zero a)))
row_at g (suc k) a (e ∷ es) h (suc j) u =
    let q : 10 * suc j ≡ 10 + 10 * j = omega arith in
    let n : suc a + j ≡ a + suc j = omega arith in
    let y = extent_bytes g a e ++ fill (10 * k) (extents_bytes g (suc a) es) in
    ap₂ (λ (i : ℕ) (x : List ℕ). part i 10 x) q (first_ten g k a e es)
    ∙ ap (take 10) (sym (drop-drop (10 * j) 10 y))
    ∙ row_at g k (suc a) es (omega arith) j (omega arith)
    ∙ by (ltb j (length es))
    (λ t. let v : j < length es = ltb-true _ _ t in rw (t, lt-ltb (suc j) (suc (length es)) (omega arith)) (ap (λ (x : ℕ). extent_bytes g x (get_or es j no_extent)) n))
    (λ t. let v : length es ≤ j = ltb-false _ _ t in rw (t, le-ltb (suc j) (suc (length es)) (omega arith)))

-- two rows with the same tens are the same
tens_eq : (k : ℕ) (xs ys : List ℕ) → length xs ≡ 10 * k → length ys ≡ 10 * k → ((j : ℕ) → j < k → part (10 * j) 10 xs ≡ part (10 * j) 10 ys) → xs ≡ ys
tens_eq zero [] [] p q h = refl
tens_eq zero [] (y ∷ ys) p q h = absurd (omega arith)
tens_eq zero (x ∷ xs) ys p q h = absurd (omega arith)
tens_eq (suc k) xs ys p q h =
    let next : (l : List ℕ) (j : ℕ) → part (10 * j) 10 (drop 10 l) ≡ part (10 * suc j) 10 l
    = λ l j. let e : 10 + 10 * j ≡ 10 * suc j = omega arith in ap (take 10) (drop-drop (10 * j) 10 l ∙ ap (λ (i : ℕ). drop i l) e) in
    sym (take-append-drop 10 xs)
    ∙ ap₂ (λ (a b : List ℕ). a ++ b) (h 0 (omega arith))
    (tens_eq k (drop 10 xs) (drop 10 ys) (length-drop 10 xs ∙ omega arith) (length-drop 10 ys ∙ omega arith)
    (λ j u. next xs j ∙ h (suc j) (omega arith) ∙ sym (next ys j)))
    ∙ take-append-drop 10 ys

-- extents from number a on, m of them at most
shift : (g : Geometry) (a m : ℕ) (es : List Extent) (j : ℕ) → j < m → ten_in g a (take m (drop a es)) j ≡ ten_for g es (a + j)
shift g a m es j u =
    let xs = take m (drop a es) in
    let l = length-take m (drop a es) in
    let d = length-drop a es in
    by (ltb (a + j) (length es))
    (λ t.
    let v : a + j < length es = ltb-true _ _ t in
    rw (t, lt-ltb j (length xs) (omega arith)) (ap (extent_bytes g (a + j)) (get_or-take m (drop a es) j no_extent u ∙ get_or-drop a es j no_extent)))
    (λ t. let v : length es ≤ a + j = ltb-false _ _ t in rw (t, le-ltb j (length xs) (omega arith)))

-- ---- the extents of a label in its records

module _ (g : Geometry) (es : List Extent) (f1 f3 : List ℕ) where
  -- extents lo to hi - 1 stand as they are written
  abbrev pub Stand : ℕ → ℕ → Type 0
  Stand lo hi = (e : ℕ) → lo ≤ e → e < hi → extent_part f1 f3 e ≡ ten_for g es e

  -- k extents from number a on stand in the record r from place p on
  module _ (r : List ℕ) (p k a : ℕ) (place : (e : ℕ) → a ≤ e → e < a + k → extent_part f1 f3 e ≡ part (p + 10 * (e - a)) 10 r) where
    at_place : (j : ℕ) → j < k → extent_part f1 f3 (a + j) ≡ part (p + 10 * j) 10 r
    at_place j u =
        let e : a + j - a ≡ j = omega arith in
        place (a + j) (omega arith) (omega arith) ∙ ap (λ (x : ℕ). part (p + 10 * x) 10 r) e

    gather : p + 10 * k ≤ length r → Stand a (a + k) → fill (10 * k) (extents_bytes g a (take k (drop a es))) ≡ part p (10 * k) r
    gather h s =
        let xs = take k (drop a es) in
        let l = length-take k (drop a es) in
        tens_eq k (fill (10 * k) (extents_bytes g a xs)) (part p (10 * k) r) (length_fill (10 * k) (extents_bytes g a xs)) (length_part p (10 * k) r h)
        (λ j u.
        row_at g k a xs (omega arith) j u
        ∙ shift g a k es j u
        ∙ sym (s (a + j) (omega arith) (omega arith))
        ∙ at_place j u
        ∙ sym (part_part p (10 * k) (10 * j) 10 r (omega arith)))

    spread : part p (10 * k) r ≡ fill (10 * k) (extents_bytes g a (take k (drop a es))) → Stand a (a + k)
    spread f e u v =
        let j : ℕ = e - a in
        let q : a + j ≡ e = omega arith in
        let xs = take k (drop a es) in
        let l = length-take k (drop a es) in
        let w : j < k = omega arith in
        subst (λ (x : ℕ). extent_part f1 f3 x ≡ ten_for g es x) q
        (at_place j w ∙ sym (part_part p (10 * k) (10 * j) 10 r (omega arith)) ∙ ap (part (10 * j) 10) f ∙ row_at g k a xs (omega arith) j w ∙ shift g a k es j w)

  module _ (l1 : length f1 ≡ 140) (l3 : length f3 ≡ 140) where
    place1 : (e : ℕ) → 0 ≤ e → e < 3 → extent_part f1 f3 e ≡ part (105 + 10 * (e - 0)) 10 f1
    place1 e u v = in_format1 f1 f3 e l1 l3 v ∙ ap (λ (x : ℕ). part (105 + 10 * x) 10 f1) (sym (sub-zero e))

    -- the three of the format 1
    pub gather1 : Stand 0 3 → fill 30 (extents_bytes g 0 (take 3 es)) ≡ part 105 30 f1
    gather1 s = gather f1 105 3 0 place1 (omega arith) s

    pub spread1 : part 105 30 f1 ≡ fill 30 (extents_bytes g 0 (take 3 es)) → Stand 0 3
    spread1 f = spread f1 105 3 0 place1 f

    -- the four and the nine of the format 3
    pub gather3 : Stand 3 7 → fill 40 (extents_bytes g 3 (take 4 (drop 3 es))) ≡ part 4 40 f3
    gather3 s = gather f3 4 4 3 (λ e u v. in_format3 f1 f3 e l1 l3 u v) (omega arith) s

    pub spread3 : part 4 40 f3 ≡ fill 40 (extents_bytes g 3 (take 4 (drop 3 es))) → Stand 3 7
    spread3 f = spread f3 4 4 3 (λ e u v. in_format3 f1 f3 e l1 l3 u v) f

    nine : length es ≤ 16 → take 9 (drop 7 es) ≡ drop 7 es
    nine h = take_all 9 (drop 7 es) (omega (arith, length-drop 7 es))

    pub gather7 : length es ≤ 16 → Stand 7 16 → fill 90 (extents_bytes g 7 (drop 7 es)) ≡ part 45 90 f3
    gather7 h s =
        ap (λ (xs : List Extent). fill 90 (extents_bytes g 7 xs)) (sym (nine h)) ∙ gather f3 45 9 7 (λ e u v. in_rest3 f1 f3 e l1 l3 u v) (omega arith) s

    pub spread7 : length es ≤ 16 → part 45 90 f3 ≡ fill 90 (extents_bytes g 7 (drop 7 es)) → Stand 7 16
    spread7 h f =
        spread f3 45 9 7 (λ e u v. in_rest3 f1 f3 e l1 l3 u v) (f ∙ ap (λ (xs : List Extent). fill 90 (extents_bytes g 7 xs)) (sym (nine h)))
