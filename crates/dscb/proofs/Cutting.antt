-- A record cut into fields of given lengths, and parts of parts. Assumes nothing.
use mathlib.Core.Path.{◌≡◌, sym, ap, ◌∙◌, subst}
use mathlib.Core.List.{List, [], ◌∷◌, ◌++◌}
use Prim.Native.Nat.{ℕ, zero, suc, ◌+◌, ◌-◌, ◌≤◌, ◌<◌, ◌/◌, ◌%◌}
use native.Mathlib.Omega.{arith}
use lib.Dec.{T}
use lib.ListN.{length, get_or, take, drop, replicate, drop_of_length-le, length-replicate, take-append-drop, replicate-append-replicate}
use lib.Seq.{drop_at, drop-cons, drop-drop, get_or-drop, take_at}
use Rattle.model.specs.Basics.{be3, get3, part, sum_of, zeros}
use Rattle.rules.specs.Layout.{whole}
use Rattle.rows.specs.Words.{Bytes, all_are}
use Rattle.rows.proofs.Rows.{are→, →are}
use Rattle.dscb.proofs.Records.{length_part}

abbrev pub cut_at : ℕ → List ℕ → List ℕ → List (List ℕ)
cut_at i [] r = []
cut_at i (n ∷ ns) r = part i n r ∷ cut_at (i + n) ns r

-- the fields make up the record
pub whole_cut : (ns : List ℕ) (i : ℕ) (r : List ℕ) → length r ≡ i + sum_of (λ n. n) ns → whole (cut_at i ns r) ≡ drop i r
whole_cut [] i r e = sym (drop_of_length-le r {i = i} (omega arith))
whole_cut (n ∷ ns) i r e =
    ap (λ (l : List ℕ). part i n r ++ l) (whole_cut ns (i + n) r (omega arith) ∙ sym (drop-drop n i r)) ∙ take-append-drop n (drop i r)

-- ---- numbers at a place

pub one_at : (r : List ℕ) (i : ℕ) → i < length r → get_or r i 0 ∷ [] ≡ part i 1 r
one_at r i h = sym (ap (take 1) (drop-cons r i 0 h))

two_at : (r : List ℕ) (i : ℕ) → i + 1 < length r → get_or r i 0 ∷ get_or r (i + 1) 0 ∷ [] ≡ part i 2 r
two_at r i h =
    let a : i + 1 ≡ suc i = omega arith in
    ap (λ (l : List ℕ). get_or r i 0 ∷ l) (one_at r (i + 1) h ∙ ap (λ (j : ℕ). part j 1 r) a) ∙ sym (ap (take 2) (drop-cons r i 0 (omega arith)))

three_at : (r : List ℕ) (i : ℕ) → i + 2 < length r → get_or r i 0 ∷ get_or r (i + 1) 0 ∷ get_or r (i + 2) 0 ∷ [] ≡ part i 3 r
three_at r i h =
    let a : i + 1 ≡ suc i = omega arith in
    let b : i + 2 ≡ i + 1 + 1 = omega arith in
    ap (λ (j : ℕ). get_or r i 0 ∷ get_or r (i + 1) 0 ∷ get_or r j 0 ∷ []) b
    ∙ ap (λ (l : List ℕ). get_or r i 0 ∷ l) (two_at r (i + 1) (omega arith) ∙ ap (λ (j : ℕ). part j 2 r) a)
    ∙ sym (ap (take 3) (drop-cons r i 0 (omega arith)))

pub be3_at : (r : List ℕ) (i : ℕ) → i + 2 < length r → Bytes r → be3 (get3 r i) ≡ part i 3 r
be3_at r i h s =
    let a = s i in
    let b = s (i + 1) in
    let c = s (i + 2) in
    let x : get3 r i / 65536 ≡ get_or r i 0 = omega arith in
    let y : get3 r i / 256 % 256 ≡ get_or r (i + 1) 0 = omega arith in
    let z : get3 r i % 256 ≡ get_or r (i + 2) 0 = omega arith in
    (λ j. x j ∷ y j ∷ z j ∷ []) ∙ three_at r i h

-- ---- bytes all alike

pub alike_at : (v i n : ℕ) (r : List ℕ) → i + n ≤ length r → T (all_are v (part i n r)) → replicate n v ≡ part i n r
alike_at v i n r h t = sym (are→ v (part i n r) t ∙ ap (λ (k : ℕ). replicate k v) (length_part i n r h))

pub alike_is : (v n : ℕ) (xs : List ℕ) → xs ≡ replicate n v → T (all_are v xs)
alike_is v n xs e = subst (λ (y : List ℕ). T (all_are v y)) (sym e) (→are v n)

-- ---- parts of parts

pub zeros_part : (i n m : ℕ) → i + n ≤ m → part i n (zeros m) ≡ zeros n
zeros_part i n m h =
    let k : ℕ = m - i - n in
    let e : m ≡ i + (n + k) = omega arith in
    ap (part i n) (ap zeros e ∙ sym (replicate-append-replicate i (n + k) 0) ∙ ap (λ (x : List ℕ). zeros i ++ x) (sym (replicate-append-replicate n k 0)))
    ∙ ap (take n) (drop_at (zeros i) (zeros n ++ zeros k) i (length-replicate i 0))
    ∙ take_at (zeros n) (zeros k) n (length-replicate n 0)

pub bytes_part : (i n : ℕ) (r : List ℕ) → Bytes r → Bytes (part i n r)
bytes_part i n r b = bytes_take n (drop i r) (λ j. subst (λ (x : ℕ). x < 256) (sym (get_or-drop i r j 0)) (b (i + j)))
  where
    bytes_take : (n : ℕ) (xs : List ℕ) → Bytes xs → Bytes (take n xs)
    bytes_take zero xs h zero = omega arith
    bytes_take zero xs h (suc j) = omega arith
    bytes_take (suc n) [] h j = h j
    bytes_take (suc n) (x ∷ xs) h zero = h 0
    bytes_take (suc n) (x ∷ xs) h (suc j) = bytes_take n xs (λ i. h (suc i)) j
