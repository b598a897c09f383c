-- A field that is filled from its beginning, zeros after: a part more, or cut short. Assumes nothing.
use Prim.Native.Nat.{ℕ, zero, suc, ◌+◌, ◌-◌, ◌*◌, ◌≤◌, ◌<◌}
use mathlib.Core.Path.{◌≡◌, ◌∙◌, ap, sym, ap₂, refl}
use mathlib.Core.List.{List, [], ◌∷◌, ◌++◌, append_assoc, append-nil}
use native.Mathlib.Omega.{arith}
use lib.ListN.{drop_of_length-le, length-take, length-replicate, take-append-drop, length-append, length-drop, drop, take, replicate-append-replicate, length}
use lib.Seq.{take_all, take-append-add, drop-drop, take-nil}
use native.Mathlib.Nat.{mul-suc, mul-zero}
use borrow.Rule.Slice.PartMut.{put_mid, Post-is}
use Rattle.model.specs.Basics.{fill, zeros}
use Rattle.rules.proofs.Bytes.{fill_split, length_fill}
use Rattle.dscb_write.specs.Put.{put_at}
use Rattle.dscb_write.proofs.Putting.{fields_put, put_left, put_right}

-- what is put, with what stands before and behind it
put_is : (r : List ℕ) (i : ℕ) (xs : List ℕ) → i + length xs ≤ length r → put_at r i xs ≡ take i r ++ (xs ++ drop (i + length xs) r)
put_is r i xs h =
    let a = length-take i r in
    let b = length-drop i r in
    let c = length-take (length xs) (drop i r) in
    ap (λ (l : List ℕ). put_at l i xs) (sym (take-append-drop i r))
    ∙ put_right (take i r) (drop i r) 0 xs i (omega arith)
    ∙ ap (λ (l : List ℕ). take i r ++ l)
    (ap (λ (l : List ℕ). put_at l 0 xs) (sym (take-append-drop (length xs) (drop i r)))
    ∙ put_left (take (length xs) (drop i r)) (drop (length xs) (drop i r)) 0 xs (omega arith)
    ∙ ap₂ (λ (x y : List ℕ). x ++ y) (fields_put (take (length xs) (drop i r)) xs (omega arith)) (drop-drop (length xs) i r))

-- the same where a part was lent to a copy of xs
pub copied_over : (r : List ℕ) (a e : ℕ) (p xs : List ℕ) → p ≡ xs → e ≡ a + length xs → e ≤ length r → put_mid a (e - a) r p ≡ put_at r a xs
copied_over r a e p xs c w h =
    ap (put_mid a (e - a) r) c
    ∙ ap (λ (d : List ℕ). take a r ++ (xs ++ d)) (Post-is a e r (omega arith) ∙ ap (λ (n : ℕ). drop n r) w)
    ∙ sym (put_is r a xs (omega arith))

-- into zeros
zeros_put : (m : ℕ) (ys : List ℕ) → length ys ≤ m → put_at (zeros m) 0 ys ≡ ys ++ zeros (m - length ys)
zeros_put m ys h =
    let e : m ≡ length ys + (m - length ys) = omega arith in
    let z = length-replicate {A = ℕ} (length ys) 0 in
    ap (λ (k : ℕ). put_at (zeros k) 0 ys) e
    ∙ ap (λ (r : List ℕ). put_at r 0 ys) (sym (replicate-append-replicate (length ys) (m - length ys) 0))
    ∙ put_left (zeros (length ys)) (zeros (m - length ys)) 0 ys (omega arith)
    ∙ ap (λ (r : List ℕ). r ++ zeros (m - length ys)) (fields_put (zeros (length ys)) ys z)

-- A PART MORE, behind what is there
pub put_fill : (n : ℕ) (xs ys : List ℕ) → length xs + length ys ≤ n → put_at (fill n xs) (length xs) ys ≡ fill n (xs ++ ys)
put_fill n xs ys h =
    let l : length (xs ++ ys) ≡ length xs + length ys = length-append xs ys in
    let f : n - length xs - length ys ≡ n - length (xs ++ ys) = omega arith in
    ap (λ (r : List ℕ). put_at r (length xs) ys) (fill_split n xs (omega arith))
    ∙ put_right xs (zeros (n - length xs)) 0 ys (length xs) (omega arith)
    ∙ ap (λ (r : List ℕ). xs ++ r) (zeros_put (n - length xs) ys (omega arith) ∙ ap (λ (k : ℕ). ys ++ zeros k) f)
    ∙ sym (append_assoc xs ys (zeros (n - length (xs ++ ys))))
    ∙ sym (fill_split n (xs ++ ys) (omega arith))

fill_take : (o n : ℕ) (xs : List ℕ) → o ≤ n → take o (fill n xs) ++ zeros (n - o) ≡ fill n (take o xs)
fill_take zero n xs h = sym (fill_split n [] (omega arith))
fill_take (suc o) zero xs h = absurd (omega arith)
fill_take (suc o) (suc n) [] h =
    let e : suc n - suc o ≡ n - o = omega arith in
    ap (λ (k : ℕ). 0 ∷ (take o (fill n []) ++ zeros k)) e ∙ ap (λ (l : List ℕ). 0 ∷ l) (fill_take o n [] (omega arith) ∙ ap (fill n) (take-nil o))
fill_take (suc o) (suc n) (x ∷ xs) h =
    let e : suc n - suc o ≡ n - o = omega arith in
    ap (λ (k : ℕ). x ∷ (take o (fill n xs) ++ zeros k)) e ∙ ap (λ (l : List ℕ). x ∷ l) (fill_take o n xs (omega arith))

-- CUT SHORT: zeros from place o to the end
pub cut_fill : (n o : ℕ) (xs : List ℕ) → o ≤ n → put_at (fill n xs) o (zeros (n - o)) ≡ fill n (take o xs)
cut_fill n o xs h =
    let l = length_fill n xs in
    let z = length-replicate {A = ℕ} (n - o) 0 in
    put_is (fill n xs) o (zeros (n - o)) (omega arith)
    ∙ ap (λ (r : List ℕ). take o (fill n xs) ++ (zeros (n - o) ++ r)) (drop_of_length-le (fill n xs) {i = o + length (zeros (n - o))} (omega arith))
    ∙ ap (λ (r : List ℕ). take o (fill n xs) ++ r) (append-nil (zeros (n - o)))
    ∙ fill_take o n xs h

-- ---- rows: one after the other, each w bytes, made by its number

module _ {A : Type 0} (c : ℕ → A → List ℕ) where
  abbrev pub rows : ℕ → List A → List ℕ
  rows i [] = []
  rows i (x ∷ xs) = c i x ++ rows (suc i) xs

  rows_snoc : (i : ℕ) (xs : List A) (x : A) → rows i (xs ++ x ∷ []) ≡ rows i xs ++ c (i + length xs) x
  rows_snoc i [] x = let e : i ≡ i + 0 = omega arith in append-nil (c i x) ∙ ap (λ (k : ℕ). c k x) e
  rows_snoc i (y ∷ ys) x =
      let e : suc i + length ys ≡ i + suc (length ys) = omega arith in
      ap (λ (l : List ℕ). c i y ++ l) (rows_snoc (suc i) ys x ∙ ap (λ (k : ℕ). rows (suc i) ys ++ c k x) e)
      ∙ sym (append_assoc (c i y) (rows (suc i) ys) (c (i + suc (length ys)) x))

  module _ (w : ℕ) (wide : (i : ℕ) (x : A) → length (c i x) ≡ w) where
    rows_length : (i : ℕ) (xs : List A) → length (rows i xs) ≡ w * length xs
    rows_length i [] = sym (mul-zero w)
    rows_length i (x ∷ xs) =
        length-append (c i x) (rows (suc i) xs) ∙ ap₂ (λ (a b : ℕ). a + b) (wide i x) (rows_length (suc i) xs) ∙ omega (arith, mul-suc w (length xs))

    rows_take : (i n : ℕ) (xs : List A) → take (w * n) (rows i xs) ≡ rows i (take n xs)
    rows_take i zero xs = ap (λ (k : ℕ). take k (rows i xs)) (mul-zero w)
    rows_take i (suc n) [] = take-nil (w * suc n)
    rows_take i (suc n) (x ∷ xs) =
        let e : w * suc n ≡ length (c i x) + w * n = omega (arith, mul-suc w n, wide i x) in
        ap (λ (k : ℕ). take k (c i x ++ rows (suc i) xs)) e
        ∙ take-append-add (c i x) (rows (suc i) xs) (w * n)
        ∙ ap (λ (l : List ℕ). c i x ++ l) (rows_take (suc i) n xs)

    -- THE NEXT ONE, in a field of n bytes
    pub row_put : (n i : ℕ) (xs : List A) (x : A) → w * length xs + w ≤ n
        → put_at (fill n (rows i xs)) (w * length xs) (c (i + length xs) x) ≡ fill n (rows i (xs ++ x ∷ []))
    row_put n i xs x h =
        let l = rows_length i xs in
        let k = wide (i + length xs) x in
        ap (λ (o : ℕ). put_at (fill n (rows i xs)) o (c (i + length xs) x)) (sym l)
        ∙ put_fill n (rows i xs) (c (i + length xs) x) (omega arith)
        ∙ ap (fill n) (sym (rows_snoc i xs x))

    -- THE FIRST k
    pub row_cut : (n i : ℕ) (xs : List A) (k : ℕ) → w * k ≤ n
        → put_at (fill n (rows i xs)) (w * k) (zeros (n - w * k)) ≡ fill n (rows i (take k xs))
    row_cut n i xs k h = cut_fill n (w * k) (rows i xs) h ∙ ap (fill n) (rows_take i k xs)

-- ---- lists one longer

module _ {A : Type 0} where
  pub take_snoc : (n : ℕ) (xs : List A) (x : A) → length xs < n → take n (xs ++ x ∷ []) ≡ take n xs ++ x ∷ []
  take_snoc n xs x h =
      take_all n (xs ++ x ∷ []) (simp length-append (omega arith)) ∙ ap (λ (l : List A). l ++ x ∷ []) (sym (take_all n xs (omega arith)))

  pub drop_snoc : (n : ℕ) (xs : List A) (x : A) → length xs < n → drop n (xs ++ x ∷ []) ≡ drop n xs
  drop_snoc n xs x h =
      drop_of_length-le (xs ++ x ∷ []) {i = n} (simp length-append (omega arith)) ∙ sym (drop_of_length-le xs {i = n} (omega arith))

  pub take_swap : (k n : ℕ) (xs : List A) → take k (take n xs) ≡ take n (take k xs)
  take_swap zero n xs = sym (take-nil n)
  take_swap (suc k) zero xs = refl
  take_swap (suc k) (suc n) [] = refl
  take_swap (suc k) (suc n) (x ∷ xs) = ap (λ (l : List A). x ∷ l) (take_swap k n xs)
