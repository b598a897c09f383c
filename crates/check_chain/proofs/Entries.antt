-- The entries of a format 5 compared with the runs, one after the other, and the record that they make. Assumes nothing.
use mathlib.Core.Path.{◌≡◌, refl, sym, ap, ap₂, ◌∙◌, subst}
use mathlib.Core.Bool.{Bool, true, false}
use mathlib.Core.List.{List, [], ◌∷◌, ◌++◌}
use Prim.Native.Nat.{ℕ, zero, suc, ◌+◌, ◌-◌, ◌*◌, ◌/◌, ◌%◌, ◌≤◌, ◌<◌}
use native.Mathlib.Nat.{div-add-mod', le_refl, mod-lt, sub-zero}
use native.Mathlib.Omega.{arith}
use borrow.Author.Tests.{eq-eqb, eqb-true, lt-ltb, ltb-false, ltb-true, ne_eqb}
use Rattle.std.specs.Prelude.{None, Option, Some}
use Rattle.std.specs.Bool.{then_some}
use lib.Dec.{eqb, ltb}
use lib.ListN.{drop, get_or, length, length-drop, replicate, take, take-append-drop}
use lib.Seq.{drop-cons, drop-drop, drop-nil, take-nil, take-take}
use Rattle.model.specs.Basics.{be2, fill, flat, get2, part, zeros}
use Rattle.model.specs.Model.{Geometry, Run, run}
use Rattle.model.proofs.Lists.{and_l, and_r, by, clash, drop_take, is_true, true_is}
use Rattle.rules.specs.Layout.{entry, fields5, format5, whole}
use Rattle.rules.proofs.Bytes.{be2_back}
use Rattle.rules.proofs.Fields.{field_at}
use Rattle.rules.proofs.TableBack.{lens5, lengths5}
use Rattle.bitmap.specs.Map.{NextRun, free_from}
use Rattle.bitmap.proofs.Walk.{free_from_end}
use Rattle.rows.specs.Words.{Bytes, all_are}
use Rattle.dscb.proofs.Bytes10.{cyl_of, five_of, head_of, two_back}
use Rattle.rows.proofs.Rows.{and_false, are→, →are}
use Rattle.dscb.proofs.Stops.{cylinder_past}
use Rattle.dscb.proofs.Records.{length_part}
use Rattle.dscb.proofs.Cutting.{whole_cut}
use Rattle.check_chain.specs.Entries.{HoldsRuns, Rows, RowsOf, entries_of, entry_ok}

-- ---- one entry

-- the stop: a free extent is not the whole volume, so an entry with all its cylinders is not its entry
pub many_cylinders : (c h s n : ℕ) (x : List ℕ) → n < c * h → c ≤ get2 x 2 → false ≡ entry_ok h s n x
many_cylinders c h s n x u v =
    let p = cylinder_past c h (get2 x 2) v in rw (ne_eqb (get2 x 2 * h + get_or x 4 0) n (λ e. absurd (omega arith)), and_false, and_false)

-- and its own entry does not meet it
pub few_cylinders : (c h s n : ℕ) (x : List ℕ) → n < c * h → entry_ok h s n x ≡ true → get2 x 2 < c
few_cylinders c h s n x u e = by (ltb (get2 x 2) c) (λ q. ltb-true _ _ q) (λ q. clash e (sym (many_cylinders c h s n x u (ltb-false _ _ q))))

module _ (g : Geometry) (pos : 1 ≤ g.heads) (s c : ℕ) where
  abbrev H : ℕ
  H = g.heads

  five_bytes : (a b d e o : ℕ) → b < 256 → e < 256 → o < H → a * 256 + b ≡ s → (d * 256 + e) * H + o ≡ c → entry g (run s c) ≡ a ∷ b ∷ d ∷ e ∷ o ∷ []
  five_bytes a b d e o u v w p q =
      let y : c / H ≡ d * 256 + e = ap (λ (z : ℕ). z / H) (sym q) ∙ cyl_of (d * 256 + e) H o w in
      let z : c % H ≡ o = ap (λ (z : ℕ). z % H) (sym q) ∙ head_of (d * 256 + e) H o w in
      ap₂ (λ (x y : List ℕ). x ++ y) (ap be2 (sym p) ∙ two_back a b u) (ap₂ (λ (x : List ℕ) (y : ℕ). x ++ (y ∷ [])) (ap be2 y ∙ two_back d e v) z)

  pub entry_yes : (x : List ℕ) → length x ≡ 5 → Bytes x → entry_ok H s c x ≡ true → entry g (run s c) ≡ x
  entry_yes x l bs e =
      let t = true_is e in
      let p = is_true (and_l (eqb (get2 x 0) s) _ t) in
      let u = and_r (eqb (get2 x 0) s) _ t in
      let q = is_true (and_l (ltb (get_or x 4 0) H) _ u) in
      let r = is_true (and_r (ltb (get_or x 4 0) H) _ u) in
      five_bytes (get_or x 0 0) (get_or x 1 0) (get_or x 2 0) (get_or x 3 0) (get_or x 4 0) (bs 1) (bs 3) (ltb-true _ _ q) (eqb-true _ _ p) (eqb-true _ _ r) ∙ sym (five_of x l)

  entry_passes : entry_ok H s c (entry g (run s c)) ≡ true
  entry_passes =
      let p : s / 256 * 256 + s % 256 ≡ s = be2_back s in
      let q : c / H / 256 * 256 + c / H % 256 ≡ c / H = be2_back (c / H) in
      let r : (c / H / 256 * 256 + c / H % 256) * H + c % H ≡ c = ap (λ (z : ℕ). z * H + c % H) q ∙ div-add-mod' c H in
      rw (eq-eqb _ _ p, lt-ltb _ _ (mod-lt c pos), eq-eqb _ _ r)

  pub entry_no : (x : List ℕ) → entry_ok H s c x ≡ false → entry g (run s c) ≡ x → ⊥
  entry_no x e q = clash (ap (entry_ok H s c) (sym q) ∙ entry_passes) e

-- ---- w entries: j are done, and from track t on the runs are left

module _ (g : Geometry) where
  more_run : (w : ℕ) (r : Run) (f : List Run) → entries_of g (suc w) (r ∷ f) ≡ entry g r ++ entries_of g w f
  more_run w r f = let e : 5 * suc w ≡ suc (suc (suc (suc (suc (5 * w))))) = omega arith in ap (λ (k : ℕ). fill k (entry g r ++ flat (entry g) (take w f))) e

fill_none : (k : ℕ) → fill k [] ≡ zeros k
fill_none zero = refl
fill_none (suc k) = ap (λ (l : List ℕ). 0 ∷ l) (fill_none k)

pub record EntriesGoing (g : Geometry) (m : List ℕ) (n at w : ℕ) (x : List ℕ) (j t : ℕ) : Type 0 where
  pub up_to : t ≤ n
  pub left : free_from m n t ≡ drop j (free_from m n at)
  pub into : entries_of g (w - j) (free_from m n t) ≡ drop (5 * j) x → entries_of g w (free_from m n at) ≡ x
  pub back : entries_of g w (free_from m n at) ≡ x → entries_of g (w - j) (free_from m n t) ≡ drop (5 * j) x

module _ (g : Geometry) (m : List ℕ) (n at w : ℕ) (x : List ℕ) where
  abbrev E : ℕ → ℕ → List ℕ
  E j t = entries_of g (w - j) (free_from m n t)

  pub going_none : at ≤ n → EntriesGoing g m n at w x 0 at
  going_none h =
      record {
        up_to = h;
        left = refl;
        into = λ e. subst (λ (k : ℕ). entries_of g k (free_from m n at) ≡ x) (sub-zero w) e;
        back = λ e. subst (λ (k : ℕ). entries_of g k (free_from m n at) ≡ x) (sym (sub-zero w)) e;
      }

  module _ (j t a b : ℕ) (h : j < w) (o : EntriesGoing g m n at w x j t) (r : NextRun m n t a b) (u : a < n) where
    abbrev due : List ℕ
    due = entry g (run a (b - a))

    -- what is due, and the rest
    split : E j t ≡ due ++ E (j + 1) b
    split =
        let k : w - j ≡ suc (w - (j + 1)) = omega arith in
        ap₂ (λ (i : ℕ) (l : List Run). entries_of g i l) k (r.more u).1 ∙ more_run g (w - (j + 1)) (run a (b - a)) (free_from m n b)

    pub going_next : due ≡ part (5 * j) 5 x → EntriesGoing g m n at w x (j + 1) b
    going_next d =
        let k : 5 * j + 5 ≡ 5 * (j + 1) = omega arith in
        let D : drop 5 (drop (5 * j) x) ≡ drop (5 * (j + 1)) x = drop-drop 5 (5 * j) x ∙ ap (λ (i : ℕ). drop i x) k in
        record {
          up_to = r.high;
          left = sym (ap (drop 1) (sym o.left ∙ (r.more u).1)) ∙ drop-drop 1 j (free_from m n at);
          into = λ e. o.into (split ∙ ap₂ (λ (y z : List ℕ). y ++ z) d (e ∙ sym D) ∙ take-append-drop 5 (drop (5 * j) x));
          back = λ e. ap (drop 5) (sym split ∙ o.back e) ∙ D;
        }

    pub going_bad : (due ≡ part (5 * j) 5 x → ⊥) → entries_of g w (free_from m n at) ≡ x → ⊥
    going_bad d e = d (ap (take 5) (sym split ∙ o.back e))

  -- no run is left: zeros to the end
  pub going_ends : (j t a b : ℕ) (ok : Bool) → j ≤ w → length x ≡ 5 * w → EntriesGoing g m n at w x j t → NextRun m n t a b → n ≤ a → ok ≡ all_are 0 (drop (5 * j) x)
      → Rows g m n at w x (then_some ok n)
  going_ends j t a b ok h l o r u q = told ok q
    where
      none : drop j (free_from m n at) ≡ []
      none = sym o.left ∙ r.done u

      e : E j t ≡ zeros (5 * (w - j))
      e = ap (λ (f : List Run). fill (5 * (w - j)) (flat (entry g) f)) (ap (take (w - j)) (r.done u) ∙ take-nil (w - j)) ∙ fill_none (5 * (w - j))

      told : (ok : Bool) → ok ≡ all_are 0 (drop (5 * j) x) → Rows g m n at w x (then_some ok n)
      told true q =
          let k : j + (w - j) ≡ w = omega arith in
          let c : length (drop (5 * j) x) ≡ 5 * (w - j) = omega (arith, length-drop (5 * j) x) in
          record {
            up_to = le_refl n;
            rest = free_from_end m n ∙ sym (sym (ap (λ (i : ℕ). drop i (free_from m n at)) k) ∙ sym (drop-drop (w - j) j (free_from m n at)) ∙ ap (drop (w - j)) none ∙ drop-nil (w - j));
            bytes = o.into (e ∙ sym (are→ 0 (drop (5 * j) x) (true_is (sym q)) ∙ ap zeros c));
          }
      told false q = λ i. clash (ap (all_are 0) (sym (sym e ∙ o.back i)) ∙ is_true (→are 0 (5 * (w - j)))) (sym q)

  pub going_done : (j t : ℕ) → w ≤ j → j ≤ w → length x ≡ 5 * w → EntriesGoing g m n at w x j t → RowsOf g m n at w x t
  going_done j t h k l o =
      let e : j ≡ w = omega arith in
      let z : w - j ≡ 0 = omega arith in
      record {
        up_to = o.up_to;
        rest = o.left ∙ ap (λ (i : ℕ). drop i (free_from m n at)) e;
        bytes = o.into (ap (λ (i : ℕ). entries_of g i (free_from m n t)) z ∙ sym (lib.ListN.drop_of_length-le x {i = 5 * j} (omega arith)));
      }

-- ---- the record

byte_part : (r : List ℕ) (i : ℕ) → i < length r → part i 1 r ≡ get_or r i 0 ∷ []
byte_part r i h = ap (take 1) (drop-cons r i 0 h)

module _ (g : Geometry) (m : List ℕ) (n at : ℕ) (r : List ℕ) where
  abbrev F : List Run
  F = free_from m n at

  -- x has w entries
  rows_of : (w : ℕ) (x : List ℕ) (at : ℕ) → length x ≡ 5 * w → (o : Option ℕ) → Rows g m n at (length x / 5) x o → Rows g m n at w x o
  rows_of w x at l o y = let e : length x / 5 ≡ w = omega arith in subst (λ (k : ℕ). Rows g m n at k x o) e y

  -- what a format 5 has at its places
  at_field : (i : ℕ) → i < 5 → (k : ℕ) → format5 g (take 26 F) k ≡ r → part (Rattle.rules.proofs.Fields.start_of i lengths5) (get_or lengths5 i 0) r ≡ Rattle.rules.proofs.Fields.field i (fields5 g (take 26 F) k)
  unfolding format5
  at_field i h k e = ap (part (Rattle.rules.proofs.Fields.start_of i lengths5) (get_or lengths5 i 0)) (sym e) ∙ field_at i lengths5 (fields5 g (take 26 F) k) (lens5 g (take 26 F) k) h

  front_is : entries_of g 8 F ≡ fill 40 (flat (entry g) (take 8 (take 26 F)))
  front_is = ap (λ (l : List Run). fill 40 (flat (entry g) l)) (sym (take-take 8 26 F (omega arith)))

  rear_is : entries_of g 18 (drop 8 F) ≡ fill 90 (flat (entry g) (drop 8 (take 26 F)))
  rear_is = ap (λ (l : List Run). fill 90 (flat (entry g) l)) (sym (drop_take 8 26 F))

  pub header_bad : all_are 0x05 (part 0 4 r) ≡ false → (k : ℕ) → format5 g (take 26 F) k ≡ r → ⊥
  header_bad e k q = clash (ap (all_are 0x05) (at_field 0 (omega arith) k q) ∙ is_true (→are 0x05 4)) e

  pub id_bad : length r ≡ 140 → (get_or r 44 0 ≡ 0xF5 → ⊥) → (k : ℕ) → format5 g (take 26 F) k ≡ r → ⊥
  id_bad l e k q = e (ap (λ (x : List ℕ). get_or x 0 0) (sym (byte_part r 44 (omega arith)) ∙ at_field 2 (omega arith) k q))

  pub front_bad : length r ≡ 140 → Rows g m n at (length (part 4 40 r) / 5) (part 4 40 r) None → (k : ℕ) → format5 g (take 26 F) k ≡ r → ⊥
  front_bad l x k q = rows_of 8 (part 4 40 r) at (length_part 4 40 r (omega arith)) None x (front_is ∙ sym (at_field 1 (omega arith) k q))

  pub listed : length r ≡ 140 → all_are 0x05 (part 0 4 r) ≡ true → get_or r 44 0 ≡ 0xF5 → (t : ℕ) → Rows g m n at (length (part 4 40 r) / 5) (part 4 40 r) (Some t)
      → (o : Option ℕ) → Rows g m n t (length (part 45 90 r) / 5) (part 45 90 r) o → HoldsRuns g m n at r o
  unfolding format5
  listed l a i t x' o y' = told o (rows_of 18 (part 45 90 r) t (length_part 45 90 r (omega arith)) o y')
    where
      x : RowsOf g m n at 8 (part 4 40 r) t
      x = rows_of 8 (part 4 40 r) at (length_part 4 40 r (omega arith)) (Some t) x'

      rear : entries_of g 18 (free_from m n t) ≡ fill 90 (flat (entry g) (drop 8 (take 26 F)))
      rear = ap (entries_of g 18) x.rest ∙ rear_is

      told : (o : Option ℕ) → Rows g m n t 18 (part 45 90 r) o → HoldsRuns g m n at r o
      told None y = λ k e. y (rear ∙ sym (at_field 3 (omega arith) k e))
      told (Some next) y =
          record {
            up_to = y.up_to;
            rest = y.rest ∙ ap (drop 18) x.rest ∙ drop-drop 18 8 F;
            bytes = λ k e.
                let p0 : part 0 4 r ≡ replicate 4 0x05 = are→ 0x05 (part 0 4 r) (true_is a) ∙ ap (λ (j : ℕ). replicate j 0x05) (length_part 0 4 r (omega arith)) in
                let p1 : part 4 40 r ≡ fill 40 (flat (entry g) (take 8 (take 26 F))) = sym x.bytes ∙ front_is in
                let p2 : part 44 1 r ≡ 0xF5 ∷ [] = byte_part r 44 (omega arith) ∙ ap (λ (b : ℕ). b ∷ []) i in
                let p3 : part 45 90 r ≡ fill 90 (flat (entry g) (drop 8 (take 26 F))) = sym y.bytes ∙ rear in
                let w : whole (part 0 4 r ∷ part 4 40 r ∷ part 44 1 r ∷ part 45 90 r ∷ part 135 5 r ∷ []) ≡ r = whole_cut lengths5 0 r l in
                sym
                (sym w
                ∙ ap₂ (λ (b c : List ℕ). whole (b ∷ c ∷ part 44 1 r ∷ part 45 90 r ∷ part 135 5 r ∷ [])) p0 p1
                ∙ ap₂ (λ (b c : List ℕ). whole (replicate 4 0x05 ∷ fill 40 (flat (entry g) (take 8 (take 26 F))) ∷ b ∷ c ∷ part 135 5 r ∷ [])) p2 p3
                ∙ ap (λ (b : List ℕ). whole (replicate 4 0x05 ∷ fill 40 (flat (entry g) (take 8 (take 26 F))) ∷ (0xF5 ∷ []) ∷ fill 90 (flat (entry g) (drop 8 (take 26 F))) ∷ b ∷ [])) (sym e));
          }

pub listed_at : (g : Geometry) (m : List ℕ) (n n' at : ℕ) (r r' : List ℕ) (o : Option ℕ) → n ≡ n' → r ≡ r' → HoldsRuns g m n at r o → HoldsRuns g m n' at r' o
listed_at g m n n' at r r' o w e x = subst (λ (z : ℕ). HoldsRuns g m z at r' o) w (subst (λ (y : List ℕ). HoldsRuns g m n at y o) e x)
