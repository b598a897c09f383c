-- The lines of a listing, one behind the other. Assumes nothing.
use mathlib.Core.Path.{◌≡◌, refl, sym, ap, ap₂, ◌∙◌, subst}
use mathlib.Core.List.{List, [], ◌∷◌, ◌++◌, append_assoc, append-nil}
use Prim.Native.Nat.{ℕ, zero, suc, ◌+◌, ◌-◌, ◌*◌, ◌/◌, ◌%◌, ◌≤◌, ◌<◌}
use native.Mathlib.Omega.{arith}
use native.Mathlib.Decide.{dec_le}
use native.Mathlib.Nat.{lt_of_not-le}
use borrow.Author.Tests.{lt-ltb, le-ltb}
use borrow.Rule.Slice.PartMut.{put_mid, mid_of}
use lib.Dec.{ltb}
use lib.ListN.{length, take, drop, length-append, length-drop, drop_of_length-le}
use lib.Seq.{length-take-le, take_all, take-append-add}
use Rattle.model.specs.Basics.{flat, up_from}
use Rattle.model.specs.Model.{Geometry, Label, Run, run, runs}
use Rattle.model.proofs.Lists.{All_range, All_unflat, by}
use Rattle.model.specs.Predicates.{All}
use Rattle.rules.specs.Listing.{data_line, decimal, decimal_to, free_line, line}
use Rattle.bitmap.specs.Map.{NextRun, free_from, is_free}
use Rattle.check_table.specs.Labels.{at_slot, labels_below}
use Rattle.check_table.proofs.Scan.{below_next}
use Rattle.rows.specs.Text.{Written}
use Rattle.rows.proofs.Text.{then, write_none}
use Rattle.listing.specs.Text.{Line}
use Rattle.listing.proofs.Fields.{line_length}
use Rattle.listing.specs.Whole.{span_line}

-- ---- a line, written behind what is there

pub widen : {i m r : ℕ} {s o o' : List ℕ} (k : ℕ) → m ≤ k → Written i s m o o' r → Written i s k o o' r
widen k h w = record { long = w.long; end = let x = w.end in omega arith; text = w.text }

pub reads : {i m r : ℕ} {s o o' : List ℕ} (s' : List ℕ) → s ≡ s' → Written i s m o o' r → Written i s' m o o' r
reads {i} {m} {r} {s} {o} {o'} s' e w = subst (λ (x : List ℕ). Written i x m o o' r) e w

pub first_line : {s o o' : List ℕ} {r : ℕ} → Line s o o' r → Written 0 s 64 o o' r
first_line l = record { long = l.long; end = let x = l.end in omega arith; text = l.text }

-- `&mut o[a..]` was lent to the writing of a line and is back
module _ (s o p : List ℕ) (a r : ℕ) (room : a + 64 ≤ length o) (l : Line s (mid_of a (length o - a) o) p r) where
  whole_part : mid_of a (length o - a) o ≡ drop a o
  whole_part = take_all (length o - a) (drop a o) (let e = length-drop a o in omega arith)

  none_behind : drop (length o - a) (drop a o) ≡ []
  none_behind = drop_of_length-le (drop a o) {i = length o - a} (let e = length-drop a o in omega arith)

  part_long : length p ≡ length o - a
  part_long = l.long ∙ ap length whole_part ∙ length-drop a o

  front_long : length (take a o) ≡ a
  front_long = length-take-le a o (omega arith)

  back : put_mid a (length o - a) o p ≡ take a o ++ p
  back = ap (λ (x : List ℕ). take a o ++ (p ++ x)) none_behind ∙ ap (λ (x : List ℕ). take a o ++ x) (append-nil p)

  long_line : length s ≡ r
  long_line = line_length s (mid_of a (length o - a) o) p r (let e = ap length whole_part ∙ length-drop a o in omega arith) l

  pub placed : (most : ℕ) → length s ≤ most → Written a s most o (put_mid a (length o - a) o p) (a + r)
  placed most h =
      record {
        long = ap length back ∙ length-append (take a o) p ∙ (let x = part_long in let y = front_long in omega arith);
        end = let x = long_line in omega arith;
        text =
            ap (take (a + r)) back
            ∙ ap (λ (k : ℕ). take (k + r) (take a o ++ p)) (sym front_long)
            ∙ take-append-add (take a o) p r
            ∙ ap (λ (x : List ℕ). take a o ++ x) l.text;
      }

  pub placed_64 : Written a s 64 o (put_mid a (length o - a) o p) (a + r)
  placed_64 = placed 64 (let x = long_line in let y = l.end in omega arith)

-- ---- how long the line of a free extent is

decimal_most : (k n : ℕ) → length (decimal_to k n) ≤ k
decimal_most zero n = omega arith
decimal_most (suc k) n =
    by (ltb n 10)
    (λ e. rw e (omega arith))
    (λ e. rw e (let p = length-append (decimal_to k (n / 10)) ((0x30 + n % 10) ∷ []) in let i = decimal_most k (n / 10) in omega arith))

two_fields : (x : ℕ) (d e : List ℕ) → length (line x (d ∷ e ∷ [])) ≡ 4 + length d + length e
two_fields x d e =
    let p = length-append ((0x20 ∷ d) ++ ((0x20 ∷ e) ++ [])) (0x0A ∷ []) in
    let q = length-append (0x20 ∷ d) ((0x20 ∷ e) ++ []) in
    let u = length-append (0x20 ∷ e) [] in
    omega arith

at_most : (a b c : ℕ) → c ≡ 4 + a + b → a ≤ 5 → b ≤ 5 → c ≤ 14
at_most a b c e h k = omega arith

free_most : (r : Run) → length (free_line r) ≤ 14
free_most r =
    at_most (length (decimal r.start)) (length (decimal r.count)) (length (free_line r))
    (two_fields 0x46 (decimal r.start) (decimal r.count)) (decimal_most 5 r.start) (decimal_most 5 r.count)

-- ---- free extents

span_none : (a b : ℕ) → b ≤ a → span_line a b ≡ []
unfolding span_line
span_none a b h = rw (le-ltb a b h)

span_one : (a b : ℕ) → a < b → span_line a b ≡ free_line (run a (b - a))
unfolding span_line
span_one a b h = rw (lt-ltb a b h)

pub no_span : (a b : ℕ) (o : List ℕ) (at : ℕ) → b ≤ a → Written at (span_line a b) 14 o o at
no_span a b o at h = reads (span_line a b) (sym (span_none a b h)) (write_none o at 14)

pub one_span : (a b : ℕ) (o p : List ℕ) (at r : ℕ) → a < b → at + 64 ≤ length o → Line (free_line (run a (b - a))) (mid_of at (length o - at) o) p r
    → Written at (span_line a b) 14 o (put_mid at (length o - at) o p) (at + r)
one_span a b o p at r h room l =
    reads (span_line a b) (sym (span_one a b h)) (placed (free_line (run a (b - a))) o p at r room l 14 (free_most (run a (b - a))))

free_end : (m : List ℕ) (n t : ℕ) → n ≤ t → free_from m n t ≡ []
unfolding free_from
free_end m n t h = ap (runs (is_free m) t) (let e : n - t ≡ 0 = omega arith in e)

abbrev free_text : List ℕ → ℕ → ℕ → List ℕ
free_text m n t = flat free_line (free_from m n t)

free_step : (m : List ℕ) (n s a b : ℕ) → NextRun m n s a b → free_text m n s ≡ span_line a b ++ free_text m n b
free_step m n s a b x =
    elim (dec_le n a) [
      | yes u ↦
          let l = x.low in
          let h = x.high in
          ap (flat free_line) (x.done u)
          ∙ sym (ap₂ (λ (y z : List ℕ). y ++ z) (span_none a b (omega arith)) (ap (flat free_line) (free_end m n b (omega arith))))
      | no u ↦
          let w = x.more (lt_of_not-le u) in
          ap (flat free_line) w.1 ∙ ap (λ (y : List ℕ). y ++ free_text m n b) (sym (span_one a b w.0))
    ]

pub run_on : (m : List ℕ) (n s a b : ℕ) → NextRun m n s a b → s < n → s < b
run_on m n s a b x u =
    let f = x.from in
    let l = x.low in
    elim (dec_le n a) [
      | yes k ↦ omega arith
      | no k ↦ let w = (x.more (lt_of_not-le k)).0 in omega arith
    ]

-- the lines of the free extents that start before track t stand in the buffer, and those from t on are to come
pub record FreeSoFar (m : List ℕ) (n at : ℕ) (o o' : List ℕ) (p t : ℕ) : Type 0 where
  pub so : List ℕ
  pub done : Written at so (14 * t) o o' p
  pub rest : so ++ free_text m n t ≡ free_text m n 0

pub free_next : {m : List ℕ} {n at p q t a b : ℕ} {o o₁ o₂ : List ℕ} → FreeSoFar m n at o o₁ p t → t < n → NextRun m n t a b → Written p (span_line a b) 14 o₁ o₂ q → FreeSoFar m n at o o₂ q b
free_next {m} {n} {at} {p} {q} {t} {a} {b} x u y w =
    record {
      so = x.so ++ span_line a b;
      done = widen (14 * b) (let l = run_on m n t a b y u in omega arith) (then x.done w);
      rest = append_assoc x.so (span_line a b) (free_text m n b) ∙ ap (λ (z : List ℕ). x.so ++ z) (sym (free_step m n t a b y)) ∙ x.rest;
    }

pub free_done : {m : List ℕ} {n at p t : ℕ} {o o' : List ℕ} → FreeSoFar m n at o o' p t → t ≤ n → n ≤ t → Written at (free_text m n 0) (14 * n) o o' p
free_done {m} {n} {at} {p} {t} x u v =
    reads (free_text m n 0)
    (sym (append-nil x.so) ∙ ap (λ (z : List ℕ). x.so ++ z) (sym (ap (flat free_line) (free_end m n t v))) ∙ x.rest)
    (widen (14 * n) (omega arith) x.done)

-- ---- data sets

flat_append : {A : Type 0} (f : A → List ℕ) (xs ys : List A) → flat f (xs ++ ys) ≡ flat f xs ++ flat f ys
flat_append f [] ys = refl
flat_append f (x ∷ xs) ys = ap (λ (z : List ℕ). f x ++ z) (flat_append f xs ys) ∙ sym (append_assoc (f x) (flat f xs) (flat f ys))

module _ (g : Geometry) (t : List ℕ) where
  none_yet : flat data_line (labels_below g t 0) ≡ []
  unfolding labels_below
  none_yet = refl

  pub data_start : (at : ℕ) (o : List ℕ) → Written at (flat data_line (labels_below g t 0)) (64 * 0) o o at
  data_start at o = reads (flat data_line (labels_below g t 0)) (sym none_yet) (write_none o at (64 * 0))

  pub data_next : {at p q : ℕ} {o o₁ o₂ : List ℕ} (k : ℕ) → Written at (flat data_line (labels_below g t k)) (64 * k) o o₁ p
      → Written p (flat data_line (at_slot g t k)) 64 o₁ o₂ q → Written at (flat data_line (labels_below g t (k + 1))) (64 * (k + 1)) o o₂ q
  data_next k x w =
      reads (flat data_line (labels_below g t (k + 1)))
      (sym (ap (flat data_line) (below_next g t k) ∙ flat_append data_line (labels_below g t k) (at_slot g t k)))
      (widen (64 * (k + 1)) (omega arith) (then x w))

  pub slot_labels : (P : Label → Type 0) (n k : ℕ) → All P (labels_below g t n) → k < n → All P (at_slot g t k)
  unfolding labels_below
  slot_labels P n k a u = All_range (λ i. All P (at_slot g t i)) 0 n (All_unflat P (at_slot g t) (up_from 0 n) a) k (omega arith) (omega arith)
