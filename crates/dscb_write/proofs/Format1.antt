-- The format 1 of a label: what the operations on its record make of it. Assumes nothing.
use Prim.Native.Nat.{ℕ, ◌+◌, ◌≤◌, ◌<◌, ◌-◌, ◌*◌}
use mathlib.Core.Path.{◌≡◌, ◌∙◌, refl, ap, subst, sym}
use mathlib.Core.List.{List, [], ◌∷◌, ◌++◌, map}
use native.Mathlib.Omega.{arith}
use lib.ListN.{take, length-take, length, drop, get_or, set, length-drop, length-replicate, length-append}
use lib.Seq.{take_all, length-take-le, take-take, take-append-le}
use Rattle.model.specs.Basics.{be3, fill, part, zeros}
use Rattle.model.specs.Model.{Extent, Geometry, Label}
use Rattle.rules.specs.Layout.{extent_bytes, extents_bytes, fields1, format1, link, whole}
use Rattle.rules.specs.Slots.{with_extents, with_name, with_slots}
use Rattle.rules.proofs.Bytes.{length_fill}
use Rattle.rules.proofs.Fields.{Lengths, start_of}
use Rattle.rules.proofs.LabelBack.{length_link, lengths1}
use Rattle.dscb_write.specs.Put.{put_at}
use Rattle.dscb_write.proofs.Extents.{extent_more, extents_first}
use Rattle.dscb_write.proofs.Filling.{take_snoc, take_swap}
use Rattle.dscb_write.proofs.Putting.{Built, built_next, lengths_set, put_field, set_field}
use Rattle.dscb_write.specs.Labels.{Format1, with_extent, first_extents, new_label, with_ttr}

pub part_long : (i n : ℕ) (r : List ℕ) → i + n ≤ length r → length (part i n r) ≡ n
part_long i n r h = length-take n (drop i r) ∙ omega (arith, length-drop i r)

lens : (g : Geometry) (l : Label) → length l.name ≡ 44 → length l.attributes ≡ 52 → Lengths lengths1 (fields1 g l)
lens g l n a = (
  n,
  (
    refl,
    (
      part_long 0 14 l.attributes (omega arith),
      (
        refl,
        (
          part_long 14 34 l.attributes (omega arith),
          (refl, (refl, (refl, (part_long 48 4 l.attributes (omega arith), (length_fill 30 (extents_bytes g 0 (take 3 l.extents)), (length_link g l.slot3, tt)))))),
        ),
      ),
    ),
  ),
)

-- the field of the first three extents: as it is, with one more, with the first n
same_three : (g : Geometry) (es fs : List Extent) → take 3 es ≡ take 3 fs → put_at (fill 30 (extents_bytes g 0 (take 3 es))) 0 [] ≡ fill 30 (extents_bytes g 0 (take 3 fs))
unfolding put_at
same_three g es fs e = ap (λ (x : List Extent). fill 30 (extents_bytes g 0 x)) e

three_more : (g : Geometry) (es : List Extent) (e : Extent) (n : ℕ) → length es ≡ n → n < 3
    → put_at (fill 30 (extents_bytes g 0 (take 3 es))) (10 * n) (extent_bytes g n e) ≡ fill 30 (extents_bytes g 0 (take 3 (es ++ e ∷ [])))
three_more g es e n c h =
    let a : take 3 es ≡ es = take_all 3 es (omega arith) in
    let b : take 3 (es ++ e ∷ []) ≡ es ++ e ∷ [] = take_snoc 3 es e (omega arith) ∙ ap (λ (x : List Extent). x ++ e ∷ []) a in
    ap (λ (x : List Extent). put_at (fill 30 (extents_bytes g 0 x)) (10 * n) (extent_bytes g n e)) a
    ∙ ap (λ (k : ℕ). put_at (fill 30 (extents_bytes g 0 es)) (10 * k) (extent_bytes g n e)) (sym c)
    ∙ extent_more g 30 0 es e n (omega arith) (omega arith)
    ∙ ap (λ (x : List Extent). fill 30 (extents_bytes g 0 x)) (sym b)

three_first : (g : Geometry) (es : List Extent) (n : ℕ) → n ≤ 3
    → put_at (fill 30 (extents_bytes g 0 (take 3 es))) (10 * n) (zeros (135 - (105 + 10 * n))) ≡ fill 30 (extents_bytes g 0 (take 3 (take n es)))
three_first g es n h =
    let w : 135 - (105 + 10 * n) ≡ 30 - 10 * n = omega arith in
    ap (λ (m : ℕ). put_at (fill 30 (extents_bytes g 0 (take 3 es))) (10 * n) (zeros m)) w
    ∙ extents_first g 30 0 (take 3 es) n (omega arith) ∙ ap (λ (x : List Extent). fill 30 (extents_bytes g 0 x)) (take_swap n 3 es)

module _ (g : Geometry) (l : Label) (r : List ℕ) (is : Format1 g l r) where
  abbrev fs : List (List ℕ)
  fs = fields1 g l

  ls : Lengths lengths1 fs
  ls = lens g l is.name_length is.attributes_length

  -- A FIELD of the record
  one_field : (k : ℕ) → k < 11 → (xs : List ℕ) → length xs ≡ get_or lengths1 k 0 → put_at r (start_of k lengths1) xs ≡ whole (set fs k xs)
  unfolding format1
  one_field k h xs e = ap (λ (x : List ℕ). put_at x (start_of k lengths1) xs) is.bytes ∙ set_field k lengths1 fs ls h xs e

  pub named_again : (n : List ℕ) → length n ≡ 44 → Format1 g (with_name n l) (put_at r 0 n)
  unfolding format1
  named_again n e = record { name_length = e; attributes_length = is.attributes_length; bytes = one_field 0 (omega arith) n e }

  pub ttr_again : (t : ℕ) → Format1 g (with_ttr t l) (put_at r 98 (be3 t))
  unfolding format1
  ttr_again t = record { name_length = is.name_length; attributes_length = is.attributes_length; bytes = one_field 7 (omega arith) (be3 t) refl }

  pub linked_again : (k s : ℕ) → Format1 g (with_slots s k l) (put_at r 135 (link g k))
  unfolding format1
  linked_again k s = record { name_length = is.name_length; attributes_length = is.attributes_length; bytes = one_field 10 (omega arith) (link g k) (length_link g k) }

  -- OTHER EXTENTS: the count, and bytes in the field of the first three
  one_extents : (es : List Extent) (o : ℕ) (xs : List ℕ) → o + length xs ≤ 30
      → put_at (fill 30 (extents_bytes g 0 (take 3 l.extents))) o xs ≡ fill 30 (extents_bytes g 0 (take 3 es))
      → (i : ℕ) → i ≡ 105 + o → Format1 g (with_extents es l.ttr l) (put_at (set r 59 (length es)) i xs)
  unfolding format1 put_at
  one_extents es o xs h e i at =
      let c : List ℕ = length es ∷ [] in
      record {
        name_length = is.name_length;
        attributes_length = is.attributes_length;
        bytes =
            ap (λ (x : List ℕ). put_at x i xs) (one_field 3 (omega arith) c refl)
            ∙ put_field 9 lengths1 (set fs 3 c) (lengths_set 3 lengths1 fs c ls refl) (omega arith) o xs h i at
            ∙ ap (λ (x : List ℕ). whole (set (set fs 3 c) 9 x)) e;
      }

  -- ONE EXTENT MORE: among the first three, and behind them
  pub more_in_one : (e : Extent) (n : ℕ) → length l.extents ≡ n → n < 3 → Format1 g (with_extent e l) (put_at (set r 59 (n + 1)) (105 + 10 * n) (extent_bytes g n e))
  more_in_one e n c h =
      subst (λ (k : ℕ). Format1 g (with_extent e l) (put_at (set r 59 k) (105 + 10 * n) (extent_bytes g n e))) (length-append l.extents (e ∷ []) ∙ ap (λ (k : ℕ). k + 1) c)
      (one_extents (l.extents ++ e ∷ []) (10 * n) (extent_bytes g n e) (omega arith) (three_more g l.extents e n c h) (105 + 10 * n) refl)

  pub more_past_one : (e : Extent) (n : ℕ) → length l.extents ≡ n → 3 ≤ n → Format1 g (with_extent e l) (set r 59 (n + 1))
  unfolding put_at
  more_past_one e n c h =
      subst (λ (k : ℕ). Format1 g (with_extent e l) (set r 59 k)) (length-append l.extents (e ∷ []) ∙ ap (λ (k : ℕ). k + 1) c)
      (one_extents (l.extents ++ e ∷ []) 0 [] (omega arith) (same_three g l.extents (l.extents ++ e ∷ []) (sym (take-append-le 3 l.extents (e ∷ []) (omega arith)))) 105 refl)

  -- THE FIRST n
  pub first_in_one : (n : ℕ) → n ≤ length l.extents → n < 3 → Format1 g (first_extents n l) (put_at (set r 59 n) (105 + 10 * n) (zeros (135 - (105 + 10 * n))))
  first_in_one n c h =
      let z = length-replicate {A = ℕ} (135 - (105 + 10 * n)) 0 in
      subst (λ (k : ℕ). Format1 g (first_extents n l) (put_at (set r 59 k) (105 + 10 * n) (zeros (135 - (105 + 10 * n))))) (length-take-le n l.extents c)
      (one_extents (take n l.extents) (10 * n) (zeros (135 - (105 + 10 * n))) (omega arith) (three_first g l.extents n (omega arith)) (105 + 10 * n) refl)

  pub first_past_one : (n : ℕ) → n ≤ length l.extents → 3 ≤ n → Format1 g (first_extents n l) (set r 59 n)
  unfolding put_at
  first_past_one n c h =
      subst (λ (k : ℕ). Format1 g (first_extents n l) (set r 59 k)) (length-take-le n l.extents c)
      (one_extents (take n l.extents) 0 [] (omega arith) (same_three g l.extents (take n l.extents) (sym (take-take 3 n l.extents h))) 105 refl)

-- A NEW LABEL: its fields put one after the other
pub new_is : (name at : List ℕ) (unit secondary : ℕ) → length name ≡ 44 → length at ≡ 52 → (g : Geometry)
    → Format1 g (new_label name at unit secondary)
    (put_at (put_at (put_at (put_at (set (set (put_at (zeros 140) 0 name) 44 0xF1) 94 unit) 95 (be3 secondary)) 45 (part 0 14 at)) 60 (part 14 34 at)) 101 (part 48 4 at))
unfolding format1 put_at
new_is name at unit secondary n a g =
    let z : Built lengths1 (map zeros lengths1) (zeros 140) = record { bytes = refl; long = (refl, (refl, (refl, (refl, (refl, (refl, (refl, (refl, (refl, (refl, (refl, tt))))))))))) } in
    let b = built_next z 0 (omega arith) name n in
    let c = built_next b 1 (omega arith) (0xF1 ∷ []) refl in
    let d = built_next c 5 (omega arith) (unit ∷ []) refl in
    let e = built_next d 6 (omega arith) (be3 secondary) refl in
    let f = built_next e 2 (omega arith) (part 0 14 at) (part_long 0 14 at (omega arith)) in
    let h = built_next f 4 (omega arith) (part 14 34 at) (part_long 14 34 at (omega arith)) in
    let i = built_next h 8 (omega arith) (part 48 4 at) (part_long 48 4 at (omega arith)) in
    record { name_length = n; attributes_length = a; bytes = i.bytes }
