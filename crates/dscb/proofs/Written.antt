-- A record that passes its tests is what the layout writes for what is read from it, and what is written passes the tests.
-- Assumes nothing.
use mathlib.Core.Path.{◌≡◌, sym, ap, ap₂, ◌∙◌, subst}
use mathlib.Core.List.{List, [], ◌∷◌, ◌++◌, append_assoc}
use Prim.Native.Nat.{ℕ, suc, ◌+◌, ◌-◌, ◌*◌, ◌≤◌, ◌<◌}
use native.Mathlib.Nat.{lt_of_not-le, zero-add}
use native.Mathlib.Decide.{dec_le}
use native.Mathlib.Omega.{arith}
use borrow.Author.Tests.{le-ltb, lt-ltb, ltb-false, ltb-true}
use lib.Dec.{T, ltb}
use lib.ListN.{length, get_or, take, drop, length-append, length-map}
use lib.Seq.{drop_at, take_all, take_at}
use Rattle.model.specs.Basics.{fill, get3, part, up_from, zeros}
use Rattle.model.specs.Model.{Extent, Geometry, Label, tracks}
use Rattle.model.proofs.Lists.{All_at, by, length_up_from}
use Rattle.model.specs.Predicates.{All}
use Rattle.rules.specs.Layout.{extent_bytes, extent_part, extents_bytes, fields1, fields3, format1, format3, link, whole}
use Rattle.rules.specs.Reading.{read_extent, read_extents, read_label, record_at, slot_at}
use Rattle.rules.specs.Table.{good_name, good_unit}
use Rattle.rules.proofs.Bytes.{be3_back}
use Rattle.rules.proofs.Fields.{Lengths, byte_at, field_at}
use Rattle.rules.proofs.Keyed.{get_or_map_range}
use Rattle.rules.proofs.LabelBack.{length_1, length_3, lengths1, lengths3, lens1, lens3}
use Rattle.rules.specs.Predicates.{GoodExtent, GoodLabel}
use Rattle.rows.specs.Words.{Bytes, all_are}
use Rattle.dscb.specs.Tests.{good_ten}
use Rattle.dscb.proofs.Bytes10.{ten_good, ten_passes, ten_written, ten→}
use Rattle.rows.proofs.Rows.{are→}
use Rattle.dscb.proofs.Records.{length_part}
use Rattle.dscb.proofs.Tens.{extent_length, in_format1, in_format3, in_rest3}
use Rattle.dscb.specs.Forms.{extent_ok}
use Rattle.dscb.proofs.Blocks.{Stand, gather1, gather3, gather7, no_extent, spread1, spread3, spread7, ten_for}
use Rattle.dscb.proofs.Cutting.{alike_at, alike_is, be3_at, bytes_part, one_at, whole_cut}
use Rattle.dscb.proofs.Sound.{OneOk, ThreeOk, in_use, not_in_use}

-- ---- extents: tested, they stand as they are written; written, they pass

All_index : {A : Type 0} (P : A → Type 0) (d : A) (xs : List A) → ((i : ℕ) → i < length xs → P (get_or xs i d)) → All P xs
All_index P d [] h = tt
All_index P d (x ∷ xs) h = (h 0 (omega arith), All_index P d xs (λ i u. h (suc i) (omega arith)))

module _ (g : Geometry) (f1 f3 : List ℕ) (n : ℕ) where
  -- the extents that are read
  abbrev es : List Extent
  es = read_extents g.heads f1 f3 n

  abbrev x : ℕ → List ℕ
  x e = extent_part f1 f3 e

  pub read_length : length es ≡ n
  unfolding read_extents
  read_length = length-map (up_from 0 n) (λ e. read_extent g.heads (x e)) ∙ length_up_from 0 n

  pub read_at : (e : ℕ) → e < n → get_or es e no_extent ≡ read_extent g.heads (x e)
  unfolding read_extents
  read_at e u = get_or_map_range (λ e. read_extent g.heads (x e)) 0 n e no_extent u ∙ ap (λ (i : ℕ). read_extent g.heads (x i)) (zero-add e)

  module _ (l1 : length f1 ≡ 140) (l3 : length f3 ≡ 140) (b1 : Bytes f1) (b3 : Bytes f3) where
    bytes_extent : (e : ℕ) → e < 16 → Bytes (x e)
    bytes_extent e u =
        elim (dec_le 3 e) [
          | no h ↦ subst Bytes (sym (in_format1 f1 f3 e l1 l3 (lt_of_not-le h))) (bytes_part (105 + 10 * e) 10 f1 b1)
          | yes h ↦ elim (dec_le 7 e) [
            | no j ↦ subst Bytes (sym (in_format3 f1 f3 e l1 l3 h (lt_of_not-le j))) (bytes_part (4 + 10 * (e - 3)) 10 f3 b3)
            | yes j ↦ subst Bytes (sym (in_rest3 f1 f3 e l1 l3 j u)) (bytes_part (45 + 10 * (e - 7)) 10 f3 b3)
          ]
        ]

    module _ (e : ℕ) (u : e < 16) (p : T (extent_ok g.heads (tracks g) n e (x e))) where
      passed : e < n → T (good_ten g.heads (tracks g) e (x e))
      passed v = subst T (sym (in_use g.heads (tracks g) n e (x e) v)) p

      pub stands : x e ≡ ten_for g es e
      stands =
          let l = read_length in
          by (ltb e n)
          (λ q.
          let v : e < n = ltb-true _ _ q in
          let w = ten_written g e (x e) (extent_length f1 f3 e l1 l3 u) (bytes_extent e u) (ten→ g.heads (tracks g) e (x e) (passed v)) in
          rw (lt-ltb e (length es) (omega arith)) (sym (ap (extent_bytes g e) (read_at e v) ∙ w)))
          (λ q.
          let v : n ≤ e = ltb-false _ _ q in
          let z : T (all_are 0 (x e)) = subst T (sym (not_in_use g.heads (tracks g) n e (x e) v)) p in
          rw (le-ltb e (length es) (omega arith)) (are→ 0 (x e) z ∙ ap zeros (extent_length f1 f3 e l1 l3 u)))

      pub is_good : e < n → GoodExtent g (get_or es e no_extent)
      is_good v =
          subst (GoodExtent g) (sym (read_at e v))
          (ten_good g e (x e) (extent_length f1 f3 e l1 l3 u) (bytes_extent e u) (ten→ g.heads (tracks g) e (x e) (passed v)))

    pub all_good : n ≤ 16 → ((e : ℕ) → e < n → T (extent_ok g.heads (tracks g) n e (x e))) → All (GoodExtent g) es
    all_good m p = All_index (GoodExtent g) no_extent es (λ e u. let l = read_length in is_good e (omega arith) (p e (omega arith)) (omega arith))

pub extent_passes : (g : Geometry) → 1 ≤ g.heads → (es : List Extent) → All (GoodExtent g) es → (e : ℕ) (x : List ℕ) → x ≡ ten_for g es e
    → T (extent_ok g.heads (tracks g) (length es) e x)
extent_passes g pos es a e x q =
    by (ltb e (length es))
    (λ t.
    let v : e < length es = ltb-true _ _ t in
    let w : x ≡ extent_bytes g e (get_or es e no_extent) = rw t at q in
    subst T (in_use g.heads (tracks g) (length es) e x v)
    (subst (λ (y : List ℕ). T (good_ten g.heads (tracks g) e y)) (sym w) (ten_passes g pos e (get_or es e no_extent) (All_at (GoodExtent g) no_extent es a e v))))
    (λ t.
    let v : length es ≤ e = ltb-false _ _ t in
    let w : x ≡ zeros 10 = rw t at q in
    subst T (not_in_use g.heads (tracks g) (length es) e x v) (alike_is 0 10 x w))

-- ---- format 1 and format 3

module _ (A B C : List ℕ) (a : length A ≡ 14) (b : length B ≡ 34) (c : length C ≡ 4) where
  abbrev all3 : List ℕ
  all3 = A ++ B ++ C

  attr1 : part 0 14 all3 ≡ A
  attr1 = ap (take 14) (append_assoc A B C) ∙ take_at A (B ++ C) 14 a

  attr2 : part 14 34 all3 ≡ B
  attr2 = ap (λ (l : List ℕ). take 34 (drop 14 l)) (append_assoc A B C) ∙ ap (take 34) (drop_at A (B ++ C) 14 a) ∙ take_at B C 34 b

  attr3 : part 48 4 all3 ≡ C
  attr3 = let e : length (A ++ B) ≡ 48 = simp length-append (omega arith) in ap (take 4) (drop_at (A ++ B) C 48 e) ∙ take_all 4 C (omega arith)

  attr_length : length all3 ≡ 52
  attr_length = simp length-append (omega arith)

-- the record r in slot k, among the records rs
module _ (g : Geometry) (rs : List (List ℕ)) (k : ℕ) (r : List ℕ) (len : length r ≡ 140) where
  abbrev n : ℕ
  n = get_or r 59 0

  abbrev r3 : List ℕ
  r3 = record_at rs (slot_at g r 135)

  abbrev xs : List Extent
  xs = read_extents g.heads r r3 n

  abbrev A : List ℕ
  A = part 45 14 r

  abbrev B : List ℕ
  B = part 60 34 r

  abbrev C : List ℕ
  C = part 101 4 r

  a : length A ≡ 14
  a = length_part 45 14 r (omega arith)

  b : length B ≡ 34
  b = length_part 60 34 r (omega arith)

  c : length C ≡ 4
  c = length_part 101 4 r (omega arith)

  -- FORMAT 1: the label read is written as the record
  pub written1 : Bytes r → length r3 ≡ 140 → get_or r 44 0 ≡ 0xF1 → Stand g xs r r3 0 3 → link g (slot_at g r 135) ≡ part 135 5 r → format1 g (read_label g rs k r) ≡ r
  unfolding format1 read_label
  written1 bytes len3 id st linked =
      let p1 : 0xF1 ∷ [] ≡ part 44 1 r = ap (λ (y : ℕ). y ∷ []) (sym id) ∙ one_at r 44 (omega arith) in
      let p3 : length xs ∷ [] ≡ part 59 1 r = ap (λ (y : ℕ). y ∷ []) (read_length g r r3 n) ∙ one_at r 59 (omega arith) in
      let p5 = one_at r 94 (omega arith) in
      let p6 = be3_at r 95 (omega arith) bytes in
      let p7 = be3_at r 98 (omega arith) bytes in
      let q1 = attr1 A B C a b c in
      let q2 = attr2 A B C a b c in
      let q3 = attr3 A B C a b c in
      let p9 = gather1 g xs r r3 len len3 st in
      ap whole (λ i. part 0 44 r ∷ p1 i ∷ q1 i ∷ p3 i ∷ q2 i ∷ p5 i ∷ p6 i ∷ p7 i ∷ q3 i ∷ p9 i ∷ linked i ∷ []) ∙ whole_cut lengths1 0 r len

  -- FORMAT 3: and so is its format 3
  pub written3 : length r3 ≡ 140 → n ≤ 16 → ThreeOk r3 → Stand g xs r r3 3 16 → format3 g (read_label g rs k r) ≡ r3
  unfolding format3 read_label
  written3 len3 most ok st =
      let p0 = alike_at 0x03 0 4 r3 (omega arith) ok.key in
      let p1 = gather3 g xs r r3 len len3 (λ e u v. st e u (omega arith)) in
      let p2 : 0xF3 ∷ [] ≡ part 44 1 r3 = ap (λ (y : ℕ). y ∷ []) (sym ok.id) ∙ one_at r3 44 (omega arith) in
      let p3 = gather7 g xs r r3 len len3 (let l = read_length g r r3 n in omega arith) (λ e u v. st e (omega arith) v) in
      let p4 = alike_at 0 135 5 r3 (omega arith) ok.tail in
      ap whole (λ i. p0 i ∷ p1 i ∷ p2 i ∷ p3 i ∷ p4 i ∷ []) ∙ whole_cut lengths3 0 r3 len3

  -- GOOD: the label read obeys the rules
  pub good_label_lem : 1 ≤ k → OneOk r → All (GoodExtent g) xs → (n ≤ 3 → slot_at g r 135 ≡ 0) → (3 < n → 1 ≤ slot_at g r 135) → GoodLabel g (read_label g rs k r)
  unfolding read_label
  good_label_lem slot ok good few many =
      let l = read_length g r r3 n in
      let lo = ok.least in
      let hi = ok.most in
      record {
        slot = slot;
        name_length = length_part 0 44 r (omega arith);
        name = ok.name;
        attributes_length = attr_length A B C a b c;
        unit = ok.unit;
        least = omega arith;
        most = omega arith;
        extents = good;
        few = λ u. few (omega arith);
        many = λ u. many (omega arith);
      }

-- ---- and back

module _ (g : Geometry) (l : Label) (h : GoodLabel g l) where
  ls : Lengths lengths1 (fields1 g l)
  ls = lens1 g l h

  pub count_back : get_or (format1 g l) 59 0 ≡ length l.extents
  unfolding format1
  count_back = byte_at lengths1 (fields1 g l) ls 59

  unit_back : get_or (format1 g l) 94 0 ≡ l.unit
  unfolding format1
  unit_back = byte_at lengths1 (fields1 g l) ls 94

  secondary_back : get3 (format1 g l) 95 ≡ l.secondary
  unfolding format1
  secondary_back =
      rw (byte_at lengths1 (fields1 g l) ls 95, byte_at lengths1 (fields1 g l) ls 96, byte_at lengths1 (fields1 g l) ls 97) (be3_back l.secondary)

  pub name_back : part 0 44 (format1 g l) ≡ l.name
  unfolding format1
  name_back = field_at 0 lengths1 (fields1 g l) ls (omega arith)

  pub link1_back : part 135 5 (format1 g l) ≡ link g l.slot3
  unfolding format1
  link1_back = field_at 10 lengths1 (fields1 g l) ls (omega arith)

  block1 : part 105 30 (format1 g l) ≡ fill 30 (extents_bytes g 0 (take 3 l.extents))
  unfolding format1
  block1 = field_at 9 lengths1 (fields1 g l) ls (omega arith)

  pub one_back : OneOk (format1 g l)
  one_back =
      let n = count_back in
      let lo = h.least in
      let hi = h.most in
      record {
        least = omega arith;
        most = omega arith;
        unit = subst T (ap₂ good_unit (sym unit_back) (sym secondary_back)) h.unit;
        name = subst (λ (y : List ℕ). T (good_name y)) (sym name_back) h.name;
      }

  -- with any record in the place of the format 3
  pub stand1_back : (f3 : List ℕ) → length f3 ≡ 140 → Stand g l.extents (format1 g l) f3 0 3
  stand1_back f3 l3 = spread1 g l.extents (format1 g l) f3 (length_1 g l h) l3 block1

  block3 : part 4 40 (format3 g l) ≡ fill 40 (extents_bytes g 3 (take 4 (drop 3 l.extents)))
  unfolding format3
  block3 = field_at 1 lengths3 (fields3 g l) (lens3 g l) (omega arith)

  block7 : part 45 90 (format3 g l) ≡ fill 90 (extents_bytes g 7 (drop 7 l.extents))
  unfolding format3
  block7 = field_at 3 lengths3 (fields3 g l) (lens3 g l) (omega arith)

  pub stand3_back : Stand g l.extents (format1 g l) (format3 g l) 3 16
  stand3_back e u v =
      let l1 = length_1 g l h in
      let l3 = length_3 g l in
      elim (dec_le 7 e) [
        | no j ↦ spread3 g l.extents (format1 g l) (format3 g l) l1 l3 block3 e u (lt_of_not-le j)
        | yes j ↦ spread7 g l.extents (format1 g l) (format3 g l) l1 l3 h.most block7 e j v
      ]

  pub three_back : ThreeOk (format3 g l)
  unfolding format3
  three_back =
      let w = fields3 g l in
      record {
        id = byte_at lengths3 w (lens3 g l) 44;
        key = alike_is 0x03 4 (part 0 4 (whole w)) (field_at 0 lengths3 w (lens3 g l) (omega arith));
        tail = alike_is 0 5 (part 135 5 (whole w)) (field_at 4 lengths3 w (lens3 g l) (omega arith));
      }
