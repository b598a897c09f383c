-- Rows of bytes compared eight at a time, as numbers. Assumes nothing.
use mathlib.Core.Path.{◌≡◌, refl, sym, ap, ap₂, ◌∙◌, subst}
use mathlib.Core.Bool.{Bool, true, ◌&&◌}
use mathlib.Core.List.{List, [], ◌∷◌}
use Prim.Native.Nat.{ℕ, zero, suc, ◌+◌, ◌-◌, ◌*◌, ◌≤◌, ◌<◌}
use native.Mathlib.Nat.{add-zero}
use native.Mathlib.Omega.{arith}
use borrow.Author.Tests.{eq-eqb, ne_eqb, eqb-true, eqb-false, ltb-true, ltb-false}
use lib.Bits.{bit_or, bit_xor, or_zero_l, xor_zero_r}
use lib.Dec.{T, eqb, ltb}
use lib.ListN.{length, get_or, drop, replicate, length-replicate, get_or-replicate, drop_of_length-le, get_or-eq_default}
use lib.Seq.{drop-drop}
use Rattle.model.specs.Basics.{same}
use Rattle.model.proofs.Lists.{and_l, and_r, by, clash, is_true, same_refl, same→eq, true_is}
use Rattle.rows.specs.Words.{Bytes, all_are, word8}
use Rattle.rows.proofs.Rows.{and_assoc, and_false, and_true, gather_rows, rest}

-- ---- bytes as the digits of a number

-- k bytes from place i on, the low one first
abbrev low : ℕ → List ℕ → ℕ → ℕ
low zero s i = 0
low (suc k) s i = get_or s i 0 + low k s (i + 1) * 256

low_eight : (s : List ℕ) (i : ℕ) → word8 s i ≡ low 8 s i
unfolding word8
low_eight s i =
    let e2 : i + 1 + 1 ≡ i + 2 = omega arith in
    let e3 : i + 2 + 1 ≡ i + 3 = omega arith in
    let e4 : i + 3 + 1 ≡ i + 4 = omega arith in
    let e6 : i + 4 + 1 + 1 ≡ i + 4 + 2 = omega arith in
    let e7 : i + 4 + 2 + 1 ≡ i + 4 + 3 = omega arith in
    rw (e2, e3, e4, e6, e7) (omega arith)

digit : (x y p q : ℕ) → x < 256 → y < 256 → eqb (x + p * 256) (y + q * 256) ≡ eqb x y && eqb p q
digit x y p q u v =
    by (eqb x y)
    (λ h.
    let a : x ≡ y = eqb-true _ _ h in
    by (eqb p q)
    (λ k. let b : p ≡ q = eqb-true _ _ k in rw (h, k) (eq-eqb (x + p * 256) (y + q * 256) (omega arith)))
    (λ k. rw (h, k) (ne_eqb (x + p * 256) (y + q * 256) (λ e. eqb-false p q k (omega arith)))))
    (λ h. rw h (ne_eqb (x + p * 256) (y + q * 256) (λ e. eqb-false x y h (omega arith))))

-- a and b, of bytes: their next k are the same just where the numbers are
same_low : (k : ℕ) (a b : List ℕ) (i : ℕ) → Bytes a → Bytes b → i + k ≤ length a → i + k ≤ length b
    → same (drop i a) (drop i b) ≡ eqb (low k a i) (low k b i) && same (drop (i + k) a) (drop (i + k) b)
same_low zero a b i x y u v = rw (add-zero i)
same_low (suc k) a b i x y u v =
    let e : i + suc k ≡ i + 1 + k = omega arith in
    rw (rest a i (omega arith), rest b i (omega arith), digit (get_or a i 0) (get_or b i 0) (low k a (i + 1)) (low k b (i + 1)) (x i) (y i), and_assoc, e)
    (ap (λ (t : Bool). eqb (get_or a i 0) (get_or b i 0) && t) (same_low k a b (i + 1) x y (omega arith) (omega arith)))

-- the same rows have the same ends
same_tail : (a b : List ℕ) (k : ℕ) → same a b ≡ same (drop k a) (drop k b) && same a b
same_tail a b k =
    by (same a b)
    (λ h.
    let t : same (drop k a) (drop k b) ≡ true =
    is_true (subst (λ (z : List ℕ). T (same (drop k a) (drop k z))) (same→eq a b (true_is h)) (same_refl (drop k a))) in
    rw (h, t))
    (λ h. rw (h, and_false))

-- nothing is unlike in two words laid one upon the other just where nothing is in either
or_test : (a b : ℕ) → eqb (bit_or a b) 0 ≡ eqb a 0 && eqb b 0
or_test a b = ap (λ (z : ℕ). eqb (bit_or a z) 0) (sym (xor_zero_r b)) ∙ gather_rows a b 0

-- ---- what is unlike among the bytes from place k on and the first i is gathered in u

pub record Compared (k : ℕ) (a b : List ℕ) (u i : ℕ) : Type 0 where
  pub rows : same a b ≡ eqb u 0 && same (drop i a) (drop i b)
  pub last : eqb u 0 ≡ true → same (drop k a) (drop k b) ≡ true

pub compared : (k : ℕ) (a b : List ℕ) (u i : ℕ) → k ≤ i → Compared k a b u i → same a b ≡ eqb u 0
compared k a b u i h p =
    by (eqb u 0)
    (λ z.
    let m : ℕ = i - k in
    let n : k + m ≡ i = omega arith in
    let d : drop k a ≡ drop k b = same→eq (drop k a) (drop k b) (true_is (p.last z)) in
    let e : drop i a ≡ drop i b = ap (λ (j : ℕ). drop j a) (sym n) ∙ sym (drop-drop m k a) ∙ ap (drop m) d ∙ drop-drop m k b ∙ ap (λ (j : ℕ). drop j b) n in
    p.rows ∙ rw (z, e) (is_true (same_refl (drop i b))))
    (λ z. p.rows ∙ rw z)

module _ (a b : List ℕ) (x : Bytes a) (y : Bytes b) (l : length b ≡ length a) where
  same_eight : (i : ℕ) → i + 8 ≤ length a → same (drop i a) (drop i b) ≡ eqb (word8 a i) (word8 b i) && same (drop (i + 8) a) (drop (i + 8) b)
  same_eight i u = rw (low_eight a i, low_eight b i) (same_low 8 a b i x y u (omega arith))

  unlike : (i : ℕ) → eqb (bit_xor (word8 a i) (word8 b i)) 0 ≡ eqb (word8 a i) (word8 b i)
  unlike i = ap (λ (z : ℕ). eqb z 0) (sym (or_zero_l (bit_xor (word8 a i) (word8 b i)))) ∙ gather_rows 0 (word8 a i) (word8 b i)

  last_words : 8 ≤ length a → Compared (length a - 8) a b (bit_xor (word8 a (length a - 8)) (word8 b (length a - 8))) 0
  last_words u =
      let k : ℕ = length a - 8 in
      let e : same (drop k a) (drop k b) ≡ eqb (word8 a k) (word8 b k) =
      same_eight k (omega arith)
      ∙ rw (drop_of_length-le a {i = k + 8} (omega arith), drop_of_length-le b {i = k + 8} (omega arith)) (and_true (eqb (word8 a k) (word8 b k))) in
      record {
        rows = rw (unlike k) (subst (λ (t : Bool). same a b ≡ t && same a b) e (same_tail a b k));
        last = λ h. e ∙ sym (unlike k) ∙ h;
      }

  next_words : (k u i : ℕ) → i + 8 ≤ length a → Compared k a b u i → Compared k a b (bit_or u (bit_xor (word8 a i) (word8 b i))) (i + 8)
  next_words k u i h p = record {
    rows = p.rows ∙ rw (gather_rows u (word8 a i) (word8 b i), same_eight i h, and_assoc);
    last = λ q. p.last (is_true (and_l (eqb u 0) _ (true_is (sym (gather_rows u (word8 a i) (word8 b i)) ∙ q))));
  }

  -- the eight bytes before place k too
  before_words : (k u i : ℕ) → k + 8 ≤ length a → Compared (k + 8) a b u i → Compared k a b (bit_or u (bit_xor (word8 a k) (word8 b k))) i
  before_words k u i h p =
      let both : eqb (bit_or u (bit_xor (word8 a k) (word8 b k))) 0 ≡ eqb u 0 && eqb (word8 a k) (word8 b k) = gather_rows u (word8 a k) (word8 b k) in
      record {
        rows = by (eqb (word8 a k) (word8 b k))
            (λ t. p.rows ∙ rw (both, t, and_true (eqb u 0)))
            (λ f. by (same a b)
            (λ s. clash (eq-eqb (word8 a k) (word8 b k) (ap (λ (z : List ℕ). word8 z k) (same→eq a b (true_is s)))) f)
            (λ s. s ∙ rw (both, f, and_false (eqb u 0))));
        last = λ q.
            let t = true_is (sym both ∙ q) in
            let w : eqb (word8 a k) (word8 b k) ≡ true = is_true (and_r (eqb u 0) (eqb (word8 a k) (word8 b k)) t) in
            same_eight k h ∙ rw (w, p.last (is_true (and_l (eqb u 0) (eqb (word8 a k) (word8 b k)) t)));
      }

  module _ (m n : ℕ) where
    pub compare_last : 8 ≤ length a → m ≡ word8 a (length a - 8) → n ≡ word8 b (length a - 8) → Compared (length a - 8) a b (bit_xor m n) 0
    compare_last u e f = subst (λ (z : ℕ). Compared (length a - 8) a b z 0) (sym (ap₂ bit_xor e f)) (last_words u)

    pub compare_next : (k u i : ℕ) → i + 8 ≤ length a → m ≡ word8 a i → n ≡ word8 b i → Compared k a b u i → Compared k a b (bit_or u (bit_xor m n)) (i + 8)
    compare_next k u i h e f p = subst (λ (z : ℕ). Compared k a b (bit_or u z) (i + 8)) (sym (ap₂ bit_xor e f)) (next_words k u i h p)

    compare_before : (k u i : ℕ) → k + 8 ≤ length a → m ≡ word8 a k → n ≡ word8 b k → Compared (k + 8) a b u i → Compared k a b (bit_or u (bit_xor m n)) i
    compare_before k u i h e f p = subst (λ (z : ℕ). Compared k a b (bit_or u z) i) (sym (ap₂ bit_xor e f)) (before_words k u i h p)

-- ---- all alike: the other row is one byte so many times

pub are_same : (v : ℕ) (xs : List ℕ) → all_are v xs ≡ same xs (replicate (length xs) v)
unfolding all_are
are_same v [] = refl
are_same v (x ∷ xs) = ap (λ (t : Bool). eqb x v && t) (are_same v xs)

alike_bytes : (n v : ℕ) → v < 256 → Bytes (replicate n v)
alike_bytes n v h j =
    by (ltb j n)
    (λ q. let w : j < n = ltb-true _ _ q in rw (get_or-replicate n j v 0 w) h)
    (λ q. let w : n ≤ j = ltb-false _ _ q in
    rw (get_or-eq_default (replicate n v) 0 {n = j} (rw (length-replicate n v) w)) (omega arith))

alike_eight : (n v i : ℕ) → i + 8 ≤ n → word8 (replicate n v) i ≡ v * 0x0101_0101_0101_0101
unfolding word8
alike_eight n v i h =
    let at : (j : ℕ) → j < n → get_or (replicate n v) j 0 ≡ v = λ j u. get_or-replicate n j v 0 u in
    rw (
      at i (omega arith),
      at (i + 1) (omega arith),
      at (i + 2) (omega arith),
      at (i + 3) (omega arith),
      at (i + 4) (omega arith),
      at (i + 4 + 1) (omega arith),
      at (i + 4 + 2) (omega arith),
      at (i + 4 + 3) (omega arith),
    ) (omega arith)

module _ (s : List ℕ) (v : ℕ) (x : Bytes s) (w : v < 256) where
  abbrev row : List ℕ
  row = replicate (length s) v

  abbrev bytes : Bytes row
  bytes = alike_bytes (length s) v w

  abbrev long : length row ≡ length s
  long = length-replicate (length s) v

  alike_word : (t i : ℕ) → i + 8 ≤ length s → t ≡ v → t * 0x0101_0101_0101_0101 ≡ word8 row i
  alike_word t i h f = ap (λ (z : ℕ). z * 0x0101_0101_0101_0101) f ∙ sym (alike_eight (length s) v i h)

  pub alike_last : (m t : ℕ) → 8 ≤ length s → m ≡ word8 s (length s - 8) → t ≡ v → Compared (length s - 8) s row (bit_xor m (t * 0x0101_0101_0101_0101)) 0
  alike_last m t h e f = compare_last s row x bytes long m (t * 0x0101_0101_0101_0101) h e (alike_word t (length s - 8) (omega arith) f)

  pub alike_next : (m t k u i : ℕ) → i + 8 ≤ length s → m ≡ word8 s i → t ≡ v → Compared k s row u i
      → Compared k s row (bit_or u (bit_xor m (t * 0x0101_0101_0101_0101))) (i + 8)
  alike_next m t k u i h e f p = compare_next s row x bytes long m (t * 0x0101_0101_0101_0101) k u i h e (alike_word t i h f) p

  alike_before : (m t k u i : ℕ) → k + 8 ≤ length s → m ≡ word8 s k → t ≡ v → Compared (k + 8) s row u i
      → Compared k s row (bit_or u (bit_xor m (t * 0x0101_0101_0101_0101))) i
  alike_before m t k u i h e f p = compare_before s row x bytes long m (t * 0x0101_0101_0101_0101) k u i h e (alike_word t k h f) p

  pub alike : (k u i : ℕ) → k ≤ i → Compared k s row u i → all_are v s ≡ eqb u 0
  alike k u i h p = are_same v s ∙ compared k s row u i h p

  -- ---- short rows: the last word and the first; for more than 16 bytes the second and the last but one

  abbrev apart : ℕ → ℕ → ℕ
  apart m t = bit_xor m (t * 0x0101_0101_0101_0101)

  first_word : (t p q : ℕ) → t ≡ v → 8 ≤ length s → p ≡ word8 s (length s - 8) → q ≡ word8 s 0 → Compared (length s - 8) s row (bit_or (apart p t) (apart q t)) 8
  first_word t p q f h e₁ e₂ = alike_next q t (length s - 8) (apart p t) 0 h e₂ f (alike_last p t h e₁ f)

  pub two_words : (t p q : ℕ) → t ≡ v → 8 ≤ length s → length s ≤ 16 → p ≡ word8 s (length s - 8) → q ≡ word8 s 0 → all_are v s ≡ eqb (bit_or (apart p t) (apart q t)) 0
  two_words t p q f h g e₁ e₂ = alike (length s - 8) _ 8 (omega arith) (first_word t p q f h e₁ e₂)

  pub four_words : (t p q y z : ℕ) → t ≡ v → 16 ≤ length s → length s ≤ 32 → p ≡ word8 s (length s - 8) → q ≡ word8 s 0 → y ≡ word8 s 8 → z ≡ word8 s (length s - 16)
      → all_are v s ≡ eqb (bit_or (bit_or (apart p t) (apart q t)) (bit_or (apart y t) (apart z t))) 0
  four_words t p q y z f h g e₁ e₂ e₃ e₄ =
      let k : ℕ = length s - 16 in
      let n : length s - 8 ≡ k + 8 = omega arith in
      let ends : ℕ = bit_or (apart p t) (apart q t) in
      let c : Compared (k + 8) s row (bit_or ends (apart y t)) 16 =
      alike_next y t (k + 8) ends 8 h e₃ f (subst (λ (j : ℕ). Compared j s row ends 8) n (first_word t p q f (omega arith) e₁ e₂)) in
      alike k _ 16 (omega arith) (alike_before z t k (bit_or ends (apart y t)) 16 (omega arith) e₄ f c)
      ∙ rw (or_test (bit_or ends (apart y t)) (apart z t), or_test ends (apart y t), or_test ends (bit_or (apart y t) (apart z t)), or_test (apart y t) (apart z t), and_assoc)
