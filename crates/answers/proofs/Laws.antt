-- The answer bytes grow from the front, zeros after them. Assumes nothing.
use mathlib.Core.Path.{◌≡◌, refl, sym, ap, ap₂, ◌∙◌}
use mathlib.Core.List.{List, [], ◌∷◌, ◌++◌, append_assoc, append-nil, map}
use Prim.Native.Nat.{ℕ, zero, suc, ◌+◌, ◌-◌, ◌*◌, ◌/◌, ◌%◌, ◌≤◌, ◌<◌}
use native.Mathlib.Nat.{mul-suc, mul-zero}
use native.Mathlib.Numerals.{add-one}
use native.Mathlib.Omega.{arith}
use borrow.Rule.Slice.PartMut.{put_mid}
use lib.ListN.{drop, get_or, length, length-append, length-take, set, take}
use lib.Seq.{take-suc}
use Rattle.model.specs.Basics.{be2, fill, flat, zeros}
use Rattle.model.specs.Model.{Run, total}
use Rattle.rules.specs.Calls.{answer, given_back, granted, numbers}
use Rattle.choose_pieces.specs.Grant.{row}
use Rattle.dscb_write.specs.Put.{put_at}
use Rattle.dscb_write.proofs.Filling.{put_fill}
use Rattle.answers.specs.Bytes24.{piece_bytes}

-- ---- a number of two bytes

two_set : (r : List ℕ) (at a b : ℕ) → at + 2 ≤ length r → set (set r at a) (suc at) b ≡ take at r ++ (a ∷ b ∷ drop 2 (drop at r))
two_set [] at a b h = absurd (omega arith)
two_set (x ∷ []) at a b h = absurd (omega arith)
two_set (x ∷ y ∷ r) zero a b h = refl
two_set (x ∷ y ∷ r) (suc at) a b h = ap (λ (l : List ℕ). x ∷ l) (two_set (y ∷ r) at a b (omega arith))

-- copied over the two bytes from place `at` on
pub two_put : (r : List ℕ) (at v : ℕ) → v < 65536 → at + 2 ≤ length r → put_mid at (at + 2 - at) r (v / 256 % 256 ∷ v % 256 ∷ []) ≡ put_at r at (be2 v)
unfolding put_at
two_put r at v u h =
    let e : v / 256 % 256 ≡ v / 256 = omega arith in
    let k : at + 2 - at ≡ 2 = omega arith in
    rw (e, k, add-one at) (sym (two_set r at (v / 256) (v % 256) h))

-- ---- one after the other

module _ {A : Type 0} (f : A → List ℕ) where
  flat_snoc : (xs : List A) (x : A) → flat f (xs ++ x ∷ []) ≡ flat f xs ++ f x
  flat_snoc [] x = append-nil (f x)
  flat_snoc (y ∷ ys) x = ap (λ (l : List ℕ). f y ++ l) (flat_snoc ys x) ∙ sym (append_assoc (f y) (flat f ys) (f x))

  module _ (w : ℕ) (wide : (x : A) → length (f x) ≡ w) where
    flat_length : (xs : List A) → length (flat f xs) ≡ w * length xs
    flat_length [] = sym (mul-zero w)
    flat_length (x ∷ xs) = length-append (f x) (flat f xs) ∙ ap₂ (λ (a b : ℕ). a + b) (wide x) (flat_length xs) ∙ omega (arith, mul-suc w (length xs))

    -- THE NEXT ONE, behind `front` and i of them
    flat_put : (n : ℕ) (front : List ℕ) (xs : List A) (d : A) (i at : ℕ) → i < length xs → at ≡ length front + w * i → at + w ≤ n
        → put_at (fill n (front ++ flat f (take i xs))) at (f (get_or xs i d)) ≡ fill n (front ++ flat f (take (i + 1) xs))
    flat_put n front xs d i at u e h =
        let a = length-take i xs in
        let m : length (take i xs) ≡ i = omega arith in
        let l : length (front ++ flat f (take i xs)) ≡ at = length-append front (flat f (take i xs)) ∙ ap (λ (k : ℕ). length front + k) (flat_length (take i xs) ∙ ap (λ (k : ℕ). w * k) m) ∙ sym e in
        let k = wide (get_or xs i d) in
        ap (λ (o : ℕ). put_at (fill n (front ++ flat f (take i xs))) o (f (get_or xs i d))) (sym l)
        ∙ put_fill n (front ++ flat f (take i xs)) (f (get_or xs i d)) (omega arith)
        ∙ ap (fill n)
        (append_assoc front (flat f (take i xs)) (f (get_or xs i d))
        ∙ ap (λ (x : List ℕ). front ++ x) (sym (flat_snoc (take i xs) (get_or xs i d)) ∙ ap (flat f) (sym (take-suc xs i d u) ∙ ap (λ (k : ℕ). take k xs) (sym (add-one i)))))

-- ---- numbers

-- the first i numbers
unfoldable pub numbers_to : List ℕ → ℕ → List ℕ
numbers_to ns i = fill 24 ([] ++ flat be2 (take i ns))

pub numbers_none : (ns : List ℕ) → zeros 24 ≡ numbers_to ns 0
unfolding numbers_to
numbers_none ns = refl

pub numbers_next : (ns : List ℕ) (i : ℕ) → i < length ns → length ns ≡ 6 → put_at (numbers_to ns i) (2 * i) (be2 (get_or ns i 0)) ≡ numbers_to ns (i + 1)
unfolding numbers_to
numbers_next ns i u e = flat_put be2 2 (λ x. refl) 24 [] ns 0 i (2 * i) u (omega arith) (omega arith)

pub numbers_all : (ns : List ℕ) (i : ℕ) → length ns ≡ 6 → 6 ≤ i → numbers_to ns i ≡ answer (numbers ns)
unfolding numbers_to
numbers_all ns i e h = ap (λ (x : List ℕ). fill 24 (flat be2 x)) (lib.Seq.take_all i ns (omega arith))

pub back_is : (n : ℕ) → put_at (zeros 24) 0 (be2 n) ≡ answer (given_back n)
unfolding put_at
back_is n = refl

-- ---- pieces

-- t tracks, k pieces, and the first i of these
unfoldable pub pieces_to : ℕ → ℕ → List (List ℕ) → ℕ → List ℕ
pieces_to t k ps i = fill 24 ((t / 256 ∷ t % 256 ∷ k ∷ []) ++ flat piece_bytes (take i ps))

pub pieces_none : (t k : ℕ) (ps : List (List ℕ)) → lib.ListN.set (put_at (zeros 24) 0 (be2 t)) 2 k ≡ pieces_to t k ps 0
unfolding pieces_to put_at
pieces_none t k ps = refl

pub pieces_next : (t k : ℕ) (ps : List (List ℕ)) (i : ℕ) → i < length ps → length ps ≡ 5 → put_at (pieces_to t k ps i) (3 + 4 * i) (piece_bytes (get_or ps i [])) ≡ pieces_to t k ps (i + 1)
unfolding pieces_to
pieces_next t k ps i u e = flat_put piece_bytes 4 (λ x. refl) 24 (t / 256 ∷ t % 256 ∷ k ∷ []) ps [] i (3 + 4 * i) u (omega arith) (omega arith)

flat_rows : (ps : List Run) → flat piece_bytes (map row ps) ≡ flat (λ p. be2 p.start ++ be2 p.count) ps
flat_rows [] = refl
flat_rows (p ∷ ps) = ap (λ (x : List ℕ). be2 p.start ++ be2 p.count ++ x) (flat_rows ps)

pub pieces_all : (t k : ℕ) (gs : List (List ℕ)) (i : ℕ) → i ≤ k → k ≤ i → (ps : List Run) → length ps ≡ k → total ps ≡ t → take k gs ≡ map row ps → pieces_to t k gs i ≡ answer (granted ps)
unfolding pieces_to
pieces_all t k gs i u w ps l e h =
    let q : i ≡ k = omega arith in
    let r : flat piece_bytes (take i gs) ≡ flat (λ p. be2 p.start ++ be2 p.count) ps = ap (λ (x : ℕ). flat piece_bytes (take x gs)) q ∙ ap (flat piece_bytes) h ∙ flat_rows ps in
    rw (r, ← e, ← l)
