-- A label written as a format 1, with its format 3, is read back. Assumes nothing.
use mathlib.Core.Path.{◌≡◌, refl, sym, ap, ap₂, ◌∙◌}
use mathlib.Core.Bool.{true}
use mathlib.Core.List.{List, [], ◌∷◌, ◌++◌, map, append_assoc}
use Prim.Native.Nat.{ℕ, zero, suc, ◌+◌, ◌-◌, ◌≤◌, ◌<◌, ◌*◌, ◌/◌, ◌%◌}
use native.Mathlib.Nat.{zero-add, add-zero, div-add-mod'}
use native.Mathlib.Omega.{arith}
use lib.ListN.{length, take, drop, get_or, length-take, length-drop}
use lib.Seq.{get_or-drop, get_or-take, drop-drop, take_all, take-add}
use lib.Dec.{ltb, eqb}
use borrow.Author.Tests.{lt-ltb, eq-eqb, ltb-true, ltb-false}
use Rattle.model.specs.Basics.{fill, get3, part, up_from, zeros}
use Rattle.model.specs.Model.{Extent, Geometry, Label, extent, run}
use Rattle.model.proofs.Lists.{All_at, by}
use Rattle.rules.specs.Layout.{extent_bytes, extent_part, extents_bytes, fields1, fields3, format1, format3, link, whole}
use Rattle.rules.specs.Reading.{read_extent, read_extents, read_label, record_at, slot_at, track_at}
use Rattle.rules.proofs.Bytes.{be2_back, be3_back, fill_split, length_fill}
use Rattle.rules.proofs.Fields.{Lengths, byte_at, field_at, length_whole, rest_at}
use Rattle.rules.specs.Predicates.{GoodExtent, GoodLabel}

-- ---- addresses

-- four bytes of a track
track_back : (h t : ℕ) → (t / h / 256 * 256 + t / h % 256) * h + (t % h / 256 * 256 + t % h % 256) ≡ t
track_back h t = rw (be2_back (t / h), be2_back (t % h)) (div-add-mod' t h)

pub length_link : (g : Geometry) (k : ℕ) → length (link g k) ≡ 5
length_link g zero = refl
length_link g (suc k) = refl

link_back : (g : Geometry) (k : ℕ) (rest : List ℕ) → slot_at g (link g k ++ rest) 0 ≡ k
link_back g zero rest = let z : track_at g.heads (link g 0) 0 - g.vtoc_start ≡ 0 = omega arith in rw z (omega arith)
link_back g (suc k) rest =
    let e = track_back g.heads (g.vtoc_start + suc k / g.records) in
    let d = div-add-mod' (suc k) g.records in
    rw e (let f : g.vtoc_start + suc k / g.records - g.vtoc_start ≡ suc k / g.records = omega arith in rw f (omega arith))

-- reading at a place is reading at the start of what is left
slot_drop : (g : Geometry) (r : List ℕ) (i : ℕ) → slot_at g (drop i r) 0 ≡ slot_at g r i
slot_drop g r i =
    let e : i + 2 + 1 ≡ i + 3 = omega arith in
    rw (get_or-drop i r 0 0, get_or-drop i r 1 0, get_or-drop i r 2 0, get_or-drop i r 3 0, get_or-drop i r 4 0, add-zero, e)

pub slot_back : (g : Geometry) (r rest : List ℕ) (i k : ℕ) → drop i r ≡ link g k ++ rest → slot_at g r i ≡ k
slot_back g r rest i k e = sym (slot_drop g r i) ∙ ap (λ (x : List ℕ). slot_at g x 0) e ∙ link_back g k rest

-- ---- extents

pub extent_back : (g : Geometry) (k : ℕ) (e : Extent) → 1 ≤ e.over.count → read_extent g.heads (extent_bytes g k e) ≡ e
extent_back g k e full =
    λ i. record { type_byte = e.type_byte; over = record { start = track_back g.heads e.over.start i; count = count i } }
  where
    count : (read_extent g.heads (extent_bytes g k e)).over.count ≡ e.over.count
    count = rw (track_back g.heads e.over.start, track_back g.heads (e.over.start + e.over.count - 1)) (omega arith)

length_extents : (g : Geometry) (k : ℕ) (es : List Extent) → length (extents_bytes g k es) ≡ 10 * length es
length_extents g k [] = refl
length_extents g k (e ∷ es) = let i = length_extents g (suc k) es in omega arith

abbrev no_extent : Extent
no_extent = extent 0 (run 0 0)

-- the j-th extent in a row of them, with anything after the row
row_at : (g : Geometry) (k : ℕ) (es : List Extent) (rest : List ℕ) (j : ℕ) → j < length es → part (10 * j) 10 (extents_bytes g k es ++ rest) ≡ extent_bytes g (k + j) (get_or es j no_extent)
row_at g k [] rest j h = absurd (omega arith)
row_at g k (e ∷ es) rest zero h = ap (λ (x : ℕ). extent_bytes g x e) (sym (add-zero k))
row_at g k (e ∷ es) rest (suc j) h =
    let a : 10 * suc j ≡ 10 + 10 * j = omega arith in
    let b : suc k + j ≡ k + suc j = omega arith in
    ap (λ (x : ℕ). part x 10 (extents_bytes g k (e ∷ es) ++ rest)) a
    ∙ ap (take 10) (sym (drop-drop (10 * j) 10 (extents_bytes g k (e ∷ es) ++ rest)))
    ∙ row_at g (suc k) es rest j (omega arith)
    ∙ ap (λ (x : ℕ). extent_bytes g x (get_or es j no_extent)) b

-- the same at its place in a record whose field of n bytes from i on holds the row
place_row : (g : Geometry) (r rest : List ℕ) (i n k : ℕ) (es : List Extent) → drop i r ≡ fill n (extents_bytes g k es) ++ rest → 10 * length es ≤ n
    → (j : ℕ) → j < length es → part (i + 10 * j) 10 r ≡ extent_bytes g (k + j) (get_or es j no_extent)
place_row g r rest i n k es e h j u =
    let l = length_extents g k es in
    let z = zeros (n - length (extents_bytes g k es)) in
    ap (take 10) (sym (drop-drop (10 * j) i r))
    ∙ ap (λ (x : List ℕ). part (10 * j) 10 x) (e ∙ ap (λ (x : List ℕ). x ++ rest) (fill_split n (extents_bytes g k es) (omega arith)) ∙ append_assoc (extents_bytes g k es) z rest)
    ∙ row_at g k es (z ++ rest) j u

-- a list is what its index gives
pub map_up : {A : Type 0} (f : ℕ → A) (a : ℕ) (d : A) (xs : List A) → ((i : ℕ) → i < length xs → f (a + i) ≡ get_or xs i d) → map f (up_from a (length xs)) ≡ xs
map_up f a d [] h = refl
map_up f a d (x ∷ xs) h =
    ap₂ (λ (y : _) (ys : List _). y ∷ ys) (ap f (sym (add-zero a)) ∙ h 0 (omega arith))
    (map_up f (suc a) d xs (λ i u. let e : suc a + i ≡ a + suc i = omega arith in ap f e ∙ h (suc i) (omega arith)))

-- ---- a format 1, with its format 3

length_part : (i n : ℕ) (r : List ℕ) → i + n ≤ length r → length (part i n r) ≡ n
length_part i n r h = length-take n (drop i r) ∙ omega (arith, length-drop i r)

abbrev pub lengths1 : List ℕ
lengths1 = 44 ∷ 1 ∷ 14 ∷ 1 ∷ 34 ∷ 1 ∷ 3 ∷ 3 ∷ 4 ∷ 30 ∷ 5 ∷ []

abbrev pub lengths3 : List ℕ
lengths3 = 4 ∷ 40 ∷ 1 ∷ 90 ∷ 5 ∷ []

pub lens1 : (g : Geometry) (l : Label) → GoodLabel g l → Lengths lengths1 (fields1 g l)
lens1 g l h =
    let a = h.attributes_length in (
      h.name_length,
      (
        refl,
        (
          length_part 0 14 l.attributes (omega arith),
          (
            refl,
            (
              length_part 14 34 l.attributes (omega arith),
              (
                refl,
                (
                  refl,
                  (
                    refl,
                    (length_part 48 4 l.attributes (omega arith), (length_fill 30 (extents_bytes g 0 (take 3 l.extents)), (length_link g l.slot3, tt))),
                  ),
                ),
              ),
            ),
          ),
        ),
      ),
    )

pub lens3 : (g : Geometry) (l : Label) → Lengths lengths3 (fields3 g l)
lens3 g l =
    (refl, (length_fill 40 (extents_bytes g 3 (take 4 (drop 3 l.extents))), (refl, (length_fill 90 (extents_bytes g 7 (drop 7 l.extents)), (refl, tt)))))

pub length_1 : (g : Geometry) (l : Label) → GoodLabel g l → length (format1 g l) ≡ 140
unfolding format1
length_1 g l x = length_whole lengths1 (fields1 g l) (lens1 g l x)

pub length_3 : (g : Geometry) (l : Label) → length (format3 g l) ≡ 140
unfolding format3
length_3 g l = length_whole lengths3 (fields3 g l) (lens3 g l)

three_parts : (xs : List ℕ) → length xs ≡ 52 → part 0 14 xs ++ part 14 34 xs ++ part 48 4 xs ≡ xs
three_parts xs h =
    ap (λ (x : List ℕ). x ++ take 4 (drop 48 xs)) (sym (take-add 14 34 xs))
    ∙ sym (take-add 48 4 xs)
    ∙ take_all 52 xs (omega arith)

module _ (g : Geometry) (l : Label) (h : GoodLabel g l) where
  abbrev r : List ℕ
  r = whole (fields1 g l)

  ls : Lengths lengths1 (fields1 g l)
  ls = lens1 g l h

  name_back : part 0 44 r ≡ l.name
  name_back = field_at 0 lengths1 (fields1 g l) ls (omega arith)

  attributes_back : part 45 14 r ++ part 60 34 r ++ part 101 4 r ≡ l.attributes
  attributes_back =
      ap₂ (λ (x y : List ℕ). x ++ y) (ap₂ (λ (x y : List ℕ). x ++ y) (field_at 2 lengths1 (fields1 g l) ls (omega arith)) (field_at 4 lengths1 (fields1 g l) ls (omega arith))) (field_at 8 lengths1 (fields1 g l) ls (omega arith))
      ∙ three_parts l.attributes h.attributes_length

  count_back : get_or r 59 0 ≡ length l.extents
  count_back = byte_at lengths1 (fields1 g l) ls 59

  unit_back : get_or r 94 0 ≡ l.unit
  unit_back = byte_at lengths1 (fields1 g l) ls 94

  secondary_back : get3 r 95 ≡ l.secondary
  secondary_back = rw (byte_at lengths1 (fields1 g l) ls 95, byte_at lengths1 (fields1 g l) ls 96, byte_at lengths1 (fields1 g l) ls 97) (be3_back l.secondary)

  ttr_back : get3 r 98 ≡ l.ttr
  ttr_back = rw (byte_at lengths1 (fields1 g l) ls 98, byte_at lengths1 (fields1 g l) ls 99, byte_at lengths1 (fields1 g l) ls 100) (be3_back l.ttr)

  third_back : slot_at g r 135 ≡ l.slot3
  third_back = slot_back g r [] 135 l.slot3 (rest_at 10 lengths1 (fields1 g l) ls (omega arith))

  -- the extents: three in the format 1, four and nine in the format 3
  module _ (r3 : List ℕ) (len3 : length r3 ≡ 140) (is3 : 3 < length l.extents → r3 ≡ whole (fields3 g l)) where
    abbrev es : List Extent
    es = l.extents

    in_format1 : (e : ℕ) → e < length es → e < 3 → part (105 + 10 * e) 10 r ≡ extent_bytes g e (get_or es e no_extent)
    in_format1 e u k =
        let n = length-take 3 es in
        place_row g r (link g l.slot3 ++ []) 105 30 0 (take 3 es) (rest_at 9 lengths1 (fields1 g l) ls (omega arith)) (omega arith) e (omega arith)
        ∙ ap₂ (extent_bytes g) (zero-add e) (get_or-take 3 es e no_extent k)

    in_format3 : (i n k m : ℕ) (rest : List ℕ) → 3 < length es → drop i (whole (fields3 g l)) ≡ fill n (extents_bytes g k (take m (drop k es))) ++ rest → 10 * m ≤ n
        → (e : ℕ) → k ≤ e → e < k + m → e < length es → part (i + 10 * (e - k)) 10 r3 ≡ extent_bytes g e (get_or es e no_extent)
    in_format3 i n k m rest many f w e low high u =
        let a = length-take m (drop k es) in
        let b = length-drop k es in
        let c : k + (e - k) ≡ e = omega arith in
        ap (part (i + 10 * (e - k)) 10) (is3 many)
        ∙ place_row g (whole (fields3 g l)) rest i n k (take m (drop k es)) f (omega arith) (e - k) (omega arith)
        ∙ ap₂ (extent_bytes g) c (get_or-take m (drop k es) (e - k) no_extent (omega arith) ∙ get_or-drop k es (e - k) no_extent ∙ ap (λ (x : ℕ). get_or es x no_extent) c)

    extent_at : (e : ℕ) → e < length es → extent_part r r3 e ≡ extent_bytes g e (get_or es e no_extent)
    unfolding extent_part
    extent_at e u =
        let l1 : eqb (length r) 140 ≡ true = eq-eqb _ _ (length_whole lengths1 (fields1 g l) ls) in
        let l3 : eqb (length r3) 140 ≡ true = eq-eqb _ _ len3 in
        let most = h.most in
        rw (l1, l3)
        (by (ltb e 3)
        (λ k. let k' : e < 3 = ltb-true _ _ k in rw k (in_format1 e u k'))
        (λ k.
        let k' : 3 ≤ e = ltb-false _ _ k in
        rw k
        (by (ltb e 7)
        (λ j.
        let j' : e < 7 = ltb-true _ _ j in
        rw j (in_format3 4 40 3 4 (whole (drop 2 (fields3 g l))) (omega arith) (rest_at 1 lengths3 (fields3 g l) (lens3 g l) (omega arith)) (omega arith) e k' j' u))
        (λ j.
        let j' : 7 ≤ e = ltb-false _ _ j in
        rw (j, lt-ltb e 16 (omega arith))
        (in_format3 45 90 7 9 (whole (drop 4 (fields3 g l))) (omega arith) (rest_at 3 lengths3 (fields3 g l) (lens3 g l) (omega arith) ∙ nine) (omega arith) e j' (omega arith) u)))))
      where
        nine : whole (drop 3 (fields3 g l)) ≡ fill 90 (extents_bytes g 7 (take 9 (drop 7 es))) ++ whole (drop 4 (fields3 g l))
        nine = let m = h.most in let d = length-drop 7 es in ap (λ (x : List Extent). fill 90 (extents_bytes g 7 x) ++ whole (drop 4 (fields3 g l))) (sym (take_all 9 (drop 7 es) (omega arith)))

    extents_back : read_extents g.heads r r3 (length es) ≡ es
    unfolding read_extents
    extents_back = map_up (λ e. read_extent g.heads (extent_part r r3 e)) 0 no_extent es (λ e u. ap (λ (x : ℕ). read_extent g.heads (extent_part r r3 x)) (zero-add e) ∙ ap (read_extent g.heads) (extent_at e u) ∙ extent_back g e (get_or es e no_extent) (All_at (GoodExtent g) no_extent es h.extents e u).full)

-- THE ROUND TRIP of a label
pub label_back : (g : Geometry) (l : Label) → GoodLabel g l → (rs : List (List ℕ)) → length (record_at rs l.slot3) ≡ 140
    → (3 < length l.extents → record_at rs l.slot3 ≡ format3 g l) → read_label g rs l.slot (format1 g l) ≡ l
unfolding read_label format1 format3
label_back g l h rs len3 is3 =
    λ i. record {
      slot = l.slot;
      name = name_back g l h i;
      attributes = attributes_back g l h i;
      unit = unit_back g l h i;
      secondary = secondary_back g l h i;
      ttr = ttr_back g l h i;
      extents = ex i;
      slot3 = third_back g l h i;
    }
  where
    ex : read_extents g.heads (whole (fields1 g l)) (record_at rs (slot_at g (whole (fields1 g l)) 135)) (get_or (whole (fields1 g l)) 59 0) ≡ l.extents
    ex = ap₂ (λ (n k : ℕ). read_extents g.heads (whole (fields1 g l)) (record_at rs k) n) (count_back g l h) (third_back g l h)
        ∙ extents_back g l h (record_at rs l.slot3) len3 is3
