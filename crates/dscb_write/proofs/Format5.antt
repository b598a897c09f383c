-- The format 5: an entry more, and the next format 5. Assumes nothing.
use Prim.Native.Nat.{ℕ, ◌+◌, ◌-◌, ◌*◌, ◌/◌, ◌%◌, ◌≤◌, ◌<◌, zero, suc}
use mathlib.Core.Path.{◌≡◌, ◌∙◌, sym, ap₂, ap, refl}
use mathlib.Core.List.{List, [], ◌∷◌, ◌++◌}
use native.Mathlib.Omega.{arith}
use lib.Seq.{take-append-le, take_all, drop-append-le}
use lib.ListN.{length, drop, set, take, length-drop, drop_of_length-le}
use borrow.Author.Tests.{ltb-true, ltb-false}
use lib.Dec.{ltb}
use native.Mathlib.Nat.{le_refl}
use Rattle.model.specs.Basics.{fill, flat}
use Rattle.model.specs.Model.{Geometry, Run, run}
use Rattle.model.proofs.Lists.{by}
use Rattle.rules.specs.Reading.{entry_place}
use Rattle.rules.specs.Layout.{entry, fields5, format5, link, whole}
use Rattle.rules.proofs.Fields.{length_whole}
use Rattle.rules.proofs.LabelBack.{length_link}
use Rattle.rules.proofs.TableBack.{lengths5, lens5}
use Rattle.bitmap.specs.Map.{NextRun, free_from}
use Rattle.bitmap.proofs.Walk.{free_from_end}
use Rattle.dscb_write.specs.Blank.{blank}
use Rattle.dscb_write.specs.Fives.{Fills}
use Rattle.dscb_write.specs.Put.{put_at}
use Rattle.dscb_write.proofs.Extents.{entry_more}
use Rattle.dscb_write.proofs.Filling.{drop_snoc, take_snoc}
use Rattle.dscb_write.proofs.Putting.{put_field, set_field}

-- the bytes of an entry, with w whole cylinders and o tracks
pub entry_bytes : (g : Geometry) (s c w o : ℕ) → s < 65536 → w < 65536 → w ≡ c / g.heads → o ≡ c % g.heads
    → ◌≡◌ {A = List ℕ} (s / 256 % 256 ∷ s % 256 ∷ w / 256 % 256 ∷ w % 256 ∷ o ∷ []) (entry g (run s c))
entry_bytes g s c w o hs hw ew eo =
    let a : s / 256 % 256 ≡ s / 256 = omega arith in
    let b : w / 256 % 256 ≡ w / 256 = omega arith in
    rw (a, b, ew, eo)

-- NONE
pub five_none : (g : Geometry) → blank 4 0x05 0xF5 ≡ format5 g [] 0
unfolding blank put_at format5
five_none g = refl

-- THE NEXT format 5, whatever stood there
pub five_linked : (g : Geometry) (f : List Run) (k m : ℕ) (r : List ℕ) → r ≡ format5 g f k → put_at r 135 (link g m) ≡ format5 g f m
unfolding format5
five_linked g f k m r is =
    ap (λ (x : List ℕ). put_at x 135 (link g m)) is ∙ set_field 4 lengths5 (fields5 g f k) (lens5 g f k) (omega arith) (link g m) (length_link g m)

module _ (g : Geometry) (f : List Run) (x : Run) (k : ℕ) (r : List ℕ) (is : r ≡ format5 g f k) where
  low : length f < 8 → put_at r (4 + 5 * length f) (entry g x) ≡ format5 g (f ++ x ∷ []) k
  unfolding format5
  low h =
      let a : take 8 f ≡ f = take_all 8 f (omega arith) in
      let b : take 8 (f ++ x ∷ []) ≡ f ++ x ∷ [] = take_snoc 8 f x h ∙ ap (λ (y : List Run). y ++ x ∷ []) a in
      ap (λ (y : List ℕ). put_at y (4 + 5 * length f) (entry g x)) is
      ∙ put_field 1 lengths5 (fields5 g f k) (lens5 g f k) (omega arith) (5 * length f) (entry g x) (omega arith) (4 + 5 * length f) refl
      ∙ ap₂ (λ (y z : List ℕ). whole (set (set (fields5 g f k) 1 y) 3 z))
      (ap (λ (y : List Run). put_at (fill 40 (flat (entry g) y)) (5 * length f) (entry g x)) a
      ∙ entry_more g 40 f x (omega arith)
      ∙ ap (λ (y : List Run). fill 40 (flat (entry g) y)) (sym b))
      (ap (λ (y : List Run). fill 90 (flat (entry g) y)) (sym (drop_snoc 8 f x h)))

  high : 8 ≤ length f → length f < 26 → put_at r (45 + 5 * (length f - 8)) (entry g x) ≡ format5 g (f ++ x ∷ []) k
  unfolding format5
  high h u =
      let d : length f - 8 ≡ length (drop 8 f) = sym (length-drop 8 f) in
      let o : 45 + 5 * (length f - 8) ≡ 45 + 5 * length (drop 8 f) = ap (λ (n : ℕ). 45 + 5 * n) d in
      ap₂ (λ (y : List ℕ) (i : ℕ). put_at y i (entry g x)) is o
      ∙ put_field 3 lengths5 (fields5 g f k) (lens5 g f k) (omega arith) (5 * length (drop 8 f)) (entry g x) (omega arith) (45 + 5 * length (drop 8 f)) refl
      ∙ ap₂ (λ (y z : List ℕ). whole (set (set (fields5 g f k) 1 y) 3 z))
      (ap (λ (y : List Run). fill 40 (flat (entry g) y)) (sym (take-append-le 8 f (x ∷ []) h)))
      (entry_more g 90 (drop 8 f) x (omega arith) ∙ ap (λ (y : List Run). fill 90 (flat (entry g) y)) (sym (drop-append-le 8 f (x ∷ []) h)))

  -- ONE ENTRY MORE
  pub five_more : (j : ℕ) → length f ≡ j → j < 26 → put_at r (entry_place j) (entry g x) ≡ format5 g (f ++ x ∷ []) k
  five_more j c u =
      by (ltb j 8)
      (λ b.
      let v : j < 8 = ltb-true _ _ b in
      rw (b, ← c) (low (omega arith)))
      (λ b.
      let v : 8 ≤ j = ltb-false _ _ b in
      rw (b, ← c) (high (omega arith) (omega arith)))

-- ---- filled from the map, run by run

next_of : {A : Type 0} (F : List A) (j : ℕ) (x : A) (rest : List A) → drop j F ≡ x ∷ rest
    → (length (take j F) ≡ j) × (take (j + 1) F ≡ take j F ++ x ∷ []) × (drop (j + 1) F ≡ rest)
next_of F zero x rest e = (refl, ap (take 1) e, ap (drop 1) e)
next_of [] (suc j) x rest e = absurd (let z : ◌≡◌ {A = ℕ} 0 1 = cc in omega arith)
next_of (y ∷ F) (suc j) x rest e =
    let i = next_of F j x rest e in
    let k : suc j + 1 ≡ suc (j + 1) = omega arith in (
      ap suc i.0,
      ap (λ (m : ℕ). take m (y ∷ F)) k ∙ ap (λ (l : List _). y ∷ l) i.1,
      ap (λ (m : ℕ). drop m (y ∷ F)) k ∙ i.2,
    )

-- j entries are in the record, and the runs from track t on are left
pub five_long : (g : Geometry) (f : List Run) (k : ℕ) → length (format5 g f k) ≡ 140
unfolding format5
five_long g f k = length_whole lengths5 (fields5 g f k) (lens5 g f k)

pub record Filling (g : Geometry) (m : List ℕ) (n at k j t : ℕ) (r : List ℕ) : Type 0 where
  pub up_to : t ≤ n
  pub left : free_from m n t ≡ drop j (free_from m n at)
  pub bytes : r ≡ format5 g (take j (free_from m n at)) k

module _ (g : Geometry) (m : List ℕ) (n at k : ℕ) where
  abbrev F : List Run
  F = free_from m n at

  pub filling_none : at ≤ n → (r : List ℕ) → r ≡ format5 g [] k → Filling g m n at k 0 at r
  filling_none h r e = record { up_to = h; left = refl; bytes = e }

  pub filling_next : (j t a b : ℕ) (r : List ℕ) → j < 26 → Filling g m n at k j t r → NextRun m n t a b → a < n
      → Filling g m n at k (j + 1) b (put_at r (entry_place j) (entry g (run a (b - a))))
  filling_next j t a b r h f x u =
      let s = next_of F j (run a (b - a)) (free_from m n b) (sym f.left ∙ (x.more u).1) in
      record {
        up_to = x.high;
        left = sym s.2;
        bytes = five_more g (take j F) (run a (b - a)) k r f.bytes j s.0 h ∙ ap (λ (l : List Run). format5 g l k) (sym s.1);
      }

  -- no run is left
  pub filling_ends : (j t a b : ℕ) (r : List ℕ) → j ≤ 26 → Filling g m n at k j t r → NextRun m n t a b → n ≤ a → Fills g m n at k r n
  filling_ends j t a b r h f x u =
      let e : drop j F ≡ [] = sym f.left ∙ x.done u in
      let l : length F ≤ j = omega (arith, length-drop j F, ap length e) in
      record {
        bytes = f.bytes ∙ ap (λ (y : List Run). format5 g y k) (take_all j F l ∙ sym (take_all 26 F (omega arith)));
        rest = free_from_end m n ∙ sym (drop_of_length-le F {i = 26} (omega arith));
        up_to = le_refl n;
      }
