-- Rows of bytes: from place i to the next, bytes that are all alike, and two rows compared. Assumes nothing.
use mathlib.Core.Path.{◌≡◌, refl, sym, ap, ap₂, ◌∙◌}
use mathlib.Core.Bool.{Bool, true, false, ◌&&◌}
use mathlib.Core.List.{List, [], ◌∷◌, ◌++◌}
use Prim.Native.Nat.{ℕ, zero, suc, ◌+◌, ◌-◌, ◌≤◌, ◌<◌}
use native.Mathlib.Numerals.{add-one}
use native.Mathlib.Omega.{arith}
use borrow.Author.Tests.{eq-eqb, ne_eqb, eqb-true, eqb-false}
use lib.Bits.{bit_or, bit_xor, or_add_and, and_le_l, and_le_r, xor_add_and, xor_self}
use lib.Dec.{T, eqb, eqb→eq, eqb_refl}
use lib.ListN.{length, get_or, take, drop, replicate, length-drop, drop_of_length-le}
use lib.Seq.{drop-cons, take_all}
use Rattle.model.specs.Basics.{same}
use Rattle.model.proofs.Lists.{and_l, and_r, both, by}
use Rattle.rows.specs.Words.{all_are}

pub rest : (l : List ℕ) (i : ℕ) → i < length l → drop i l ≡ get_or l i 0 ∷ drop (i + 1) l
rest l i h = rw (add-one, drop-cons l i 0)

pub and_false : (t : Bool) → t && false ≡ false
and_false true = refl
and_false false = refl

pub and_true : (t : Bool) → t && true ≡ t
and_true true = refl
and_true false = refl

pub and_assoc : (a b c : Bool) → (a && b) && c ≡ a && (b && c)
and_assoc true b c = refl
and_assoc false b c = refl

-- ---- all alike

-- what is gathered stays 0 as long as the bytes are v
pub gather_rows : (a x v : ℕ) → eqb (bit_or a (bit_xor x v)) 0 ≡ eqb a 0 && eqb x v
gather_rows a x v =
    let o = or_add_and a (bit_xor x v) in
    let l = and_le_l a (bit_xor x v) in
    let r = and_le_r a (bit_xor x v) in
    let p = xor_add_and x v in
    let q = and_le_l x v in
    let s = and_le_r x v in
    by (eqb a 0)
    (λ h.
    let z : a ≡ 0 = eqb-true _ _ h in
    by (eqb x v)
    (λ k.
    let y : x ≡ v = eqb-true _ _ k in
    let e : bit_xor x v ≡ 0 = ap (λ (w : ℕ). bit_xor w v) y ∙ xor_self v in
    rw (h, k) (eq-eqb (bit_or a (bit_xor x v)) 0 (omega arith)))
    (λ k. rw (h, k) (ne_eqb (bit_or a (bit_xor x v)) 0 (λ e. eqb-false x v k (omega arith)))))
    (λ h. rw h (ne_eqb (bit_or a (bit_xor x v)) 0 (λ e. eqb-false a 0 h (omega arith))))

pub are_next : (a v : ℕ) (l : List ℕ) (i : ℕ) → i < length l
    → eqb a 0 && all_are v (drop i l) ≡ eqb (bit_or a (bit_xor (get_or l i 0) v)) 0 && all_are v (drop (i + 1) l)
unfolding all_are
are_next a v l i h = rw (rest l i h, gather_rows a (get_or l i 0) v, and_assoc)

pub are_end : (a v : ℕ) (l : List ℕ) (i : ℕ) → length l ≤ i → eqb a 0 && all_are v (drop i l) ≡ eqb a 0
unfolding all_are
are_end a v l i h = rw (drop_of_length-le l {i = i} h) (and_true (eqb a 0))

-- all are v: it is v, so many times
pub are→ : (v : ℕ) (xs : List ℕ) → T (all_are v xs) → xs ≡ replicate (length xs) v
unfolding all_are
are→ v [] t = refl
are→ v (x ∷ xs) t = ap₂ (λ (y : ℕ) (ys : List ℕ). y ∷ ys) (eqb→eq x v (and_l (eqb x v) _ t)) (are→ v xs (and_r (eqb x v) _ t))

pub →are : (v n : ℕ) → T (all_are v (replicate n v))
unfolding all_are
→are v zero = tt
→are v (suc n) = both (eqb v v) _ (eqb_refl v) (→are v n)

pub are_append : (v : ℕ) (xs ys : List ℕ) → all_are v (xs ++ ys) ≡ all_are v xs && all_are v ys
unfolding all_are
are_append v [] ys = refl
are_append v (x ∷ xs) ys = ap (λ (b : Bool). eqb x v && b) (are_append v xs ys) ∙ sym (and_assoc (eqb x v) (all_are v xs) (all_are v ys))

-- ---- two rows

-- from two bytes to the next, and where no more are left
pub same_next : (u x y : ℕ) (a a' b b' : List ℕ) → a ≡ x ∷ a' → b ≡ y ∷ b' → eqb u 0 && same a b ≡ eqb (bit_or u (bit_xor x y)) 0 && same a' b'
same_next u x y a a' b b' e f = rw (e, f, gather_rows u x y, and_assoc)

pub same_end : (u : ℕ) (a b : List ℕ) → a ≡ [] → b ≡ [] → eqb u 0 && same a b ≡ eqb u 0
same_end u a b e f = rw (e, f) (and_true (eqb u 0))

-- lists of two lengths are two lists
pub same_long : (a b : List ℕ) → (length a ≡ length b → ⊥) → same a b ≡ false
same_long [] [] n = absurd (n refl)
same_long [] (y ∷ ys) n = refl
same_long (x ∷ xs) [] n = refl
same_long (x ∷ xs) (y ∷ ys) n = rw (same_long xs ys (λ e. n (ap suc e)), and_false)

-- ---- a sum that fits

-- `&l[i..]` is lent
pub from_place : (l : List ℕ) (i : ℕ) → take (length l - i) (drop i l) ≡ drop i l
from_place l i = take_all (length l - i) (drop i l) (omega (arith, length-drop i l))
