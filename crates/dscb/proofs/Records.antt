-- Records in a table: what is put is read back, the others stay. Assumes nothing.
use mathlib.Core.Path.{◌≡◌, refl, sym, ap, ◌∙◌}
use mathlib.Core.List.{List, [], ◌++◌, append-nil}
use Prim.Native.Nat.{ℕ, zero, suc, ◌+◌, ◌-◌, ◌*◌, ◌≤◌, ◌<◌}
use native.Mathlib.Nat.{lt_of_not-le}
use native.Mathlib.Decide.{dec_le}
use native.Mathlib.Omega.{arith}
use lib.ListN.{length, take, drop, length-append, length-take, length-drop, drop_of_length-le, take-append-drop}
use lib.Seq.{drop-drop, take_at, take_all, take-length, take-append-le, drop-append-le, drop-append-add}
use borrow.Rule.Slice.PartMut.{put_mid, mid_of}
use Rattle.model.specs.Basics.{part}
use Rattle.rules.specs.Reading.{chop, record_at}
use Rattle.dscb.specs.Records.{put_record, slot_bytes}

pub length_part : (i n : ℕ) (r : List ℕ) → i + n ≤ length r → length (part i n r) ≡ n
length_part i n r h = length-take n (drop i r) ∙ omega (arith, length-drop i r)

-- `&mut t[a..]` was lent to a copy of r and is back
pub copied_in : (t r p : List ℕ) (a : ℕ) → a + length r ≤ length t → p ≡ take (length r) r ++ drop (length r) (mid_of a (length t - a) t)
    → put_mid a (length t - a) t p ≡ take a t ++ (r ++ drop (a + length r) t)
copied_in t r p a h e =
    let all : take (length t - a) (drop a t) ≡ drop a t = take_all (length t - a) (drop a t) (simp length-drop (omega arith)) in
    let none : drop (length t - a) (drop a t) ≡ [] = drop_of_length-le (drop a t) {i = length t - a} (simp length-drop (omega arith)) in
    rw (e, none, all, take-length, drop-drop, append-nil)

module _ (t : List ℕ) (k : ℕ) (r : List ℕ) (len : length r ≡ 140) (fits : 140 * k + 140 ≤ length t) where
  abbrev front : List ℕ
  front = take (140 * k) t

  long : length front ≡ 140 * k
  long = length-take (140 * k) t ∙ omega arith

  pub put_length : length (put_record t k r) ≡ length t
  unfolding put_record
  put_length = simp (length-append, length-take, length-drop) (omega arith)

  -- the record just put
  pub put_same : slot_bytes (put_record t k r) k ≡ r
  unfolding put_record
  put_same =
      ap (λ (n : ℕ). take 140 (drop n (front ++ (r ++ drop (140 * k + 140) t)))) (sym long)
      ∙ ap (take 140) (lib.Seq.drop-append_seam front (r ++ drop (140 * k + 140) t))
      ∙ take_at r (drop (140 * k + 140) t) 140 len

  before : (j : ℕ) → j < k → slot_bytes (put_record t k r) j ≡ slot_bytes t j
  unfolding put_record
  before j h =
      let a : length (drop (140 * j) front) ≡ 140 * k - 140 * j = length-drop (140 * j) front ∙ omega (arith, long) in
      let b : 140 ≤ length (drop (140 * j) t) = simp length-drop (omega arith) in
      let split : t ≡ front ++ drop (140 * k) t = sym (take-append-drop (140 * k) t) in
      ap (take 140) (drop-append-le (140 * j) front (r ++ drop (140 * k + 140) t) (omega (arith, long)))
      ∙ take-append-le 140 (drop (140 * j) front) (r ++ drop (140 * k + 140) t) (omega arith)
      ∙ sym (take-append-le 140 (drop (140 * j) front) (drop (140 * k) t) (omega arith))
      ∙ sym (ap (take 140) (drop-append-le (140 * j) front (drop (140 * k) t) (omega (arith, long))))
      ∙ ap (λ (x : List ℕ). slot_bytes x j) (sym split)

  after : (j : ℕ) → k < j → slot_bytes (put_record t k r) j ≡ slot_bytes t j
  unfolding put_record
  after j h =
      let n : ℕ = 140 * j - (140 * k + 140) in
      let e : length front + (length r + n) ≡ 140 * j = omega (arith, long) in
      let f : 140 * k + 140 + n ≡ 140 * j = omega arith in
      ap (λ (x : ℕ). part x 140 (front ++ (r ++ drop (140 * k + 140) t))) (sym e)
      ∙ ap (take 140) (drop-append-add front (r ++ drop (140 * k + 140) t) (length r + n) ∙ drop-append-add r (drop (140 * k + 140) t) n ∙ drop-drop n (140 * k + 140) t)
      ∙ ap (λ (x : ℕ). part x 140 t) f

  -- any other record
  pub put_other : (j : ℕ) → (j ≡ k → ⊥) → slot_bytes (put_record t k r) j ≡ slot_bytes t j
  put_other j ne =
      elim (dec_le k j) [
        | yes h ↦ after j (elim (dec_le j k) [ yes g ↦ absurd (ne (omega arith)) | no g ↦ lt_of_not-le g ])
        | no h ↦ before j (lt_of_not-le h)
      ]

-- ---- the table as the list of its records

pub length_chop : (n : ℕ) (t : List ℕ) → length (chop n t) ≡ n
length_chop zero t = refl
length_chop (suc n) t = ap suc (length_chop n (drop 140 t))

pub chop_slot : (n : ℕ) (t : List ℕ) (k : ℕ) → k < n → record_at (chop n t) k ≡ slot_bytes t k
chop_slot zero t k h = absurd (omega arith)
chop_slot (suc n) t zero h = refl
chop_slot (suc n) t (suc k) h =
    let e : 140 + 140 * k ≡ 140 * suc k = omega arith in
    chop_slot n (drop 140 t) k (omega arith) ∙ ap (take 140) (drop-drop (140 * k) 140 t ∙ ap (λ (x : ℕ). drop x t) e)
