-- Bytes put into a record: one part after the other, and into one field of several. Assumes nothing.
use Prim.Native.Nat.{ℕ, zero, suc, ◌+◌, ◌≤◌, ◌<◌, ◌-◌}
use mathlib.Core.Path.{◌≡◌, ◌∙◌, refl, sym, ap}
use mathlib.Core.List.{List, [], ◌∷◌, ◌++◌}
use native.Mathlib.Omega.{arith}
use lib.ListN.{get_or, length-set, length, set, replicate, length-replicate, replicate-append-replicate}
use lib.Seq.{set-append_left}
use Rattle.rules.specs.Layout.{whole}
use Rattle.rules.proofs.Fields.{Lengths, field, start_of}
use Rattle.dscb_write.specs.Put.{put_at}

-- ---- a part after another

pub put_then : (r : List ℕ) (i : ℕ) (xs ys : List ℕ) (j : ℕ) → j ≡ i + length xs → put_at (put_at r i xs) j ys ≡ put_at r i (xs ++ ys)
unfolding put_at
put_then r i [] ys j e = let f : j ≡ i = omega arith in ap (λ (k : ℕ). put_at r k ys) f
put_then r i (x ∷ xs) ys j e = put_then (set r i x) (i + 1) xs ys j (omega arith)

-- one byte more
pub put_next : (r : List ℕ) (i : ℕ) (xs : List ℕ) (j x : ℕ) → j ≡ i + length xs → set (put_at r i xs) j x ≡ put_at r i (xs ++ x ∷ [])
unfolding put_at
put_next r i xs j x e = put_then r i xs (x ∷ []) j e

-- two bytes, and four and more behind them
pub put_behind : (r : List ℕ) (i a b : ℕ) (xs ys : List ℕ) → length xs ≡ 4 → put_at (put_at (set (set r i a) (i + 1) b) (i + 2) xs) (i + 6) ys ≡ put_at r i (a ∷ b ∷ xs ++ ys)
unfolding put_at
put_behind r i a b xs ys e =
    let two : i + 2 ≡ i + 1 + 1 = omega arith in
    put_then (set (set r i a) (i + 1) b) (i + 2) xs ys (i + 6) (omega arith) ∙ ap (λ (k : ℕ). put_at (set (set r i a) (i + 1) b) k (xs ++ ys)) two

-- the record stays as long
put_long : (r : List ℕ) (i : ℕ) (xs : List ℕ) → length (put_at r i xs) ≡ length r
unfolding put_at
put_long r i [] = refl
put_long r i (x ∷ xs) = put_long (set r i x) (i + 1) xs ∙ length-set r i x

pub put_keeps : (r s : List ℕ) (i : ℕ) (xs : List ℕ) (n : ℕ) → s ≡ put_at r i xs → length r ≡ n → length s ≡ n
put_keeps r s i xs n e l = ap length e ∙ put_long r i xs ∙ l

-- in a loop: the same byte again
pub same_none : (r : List ℕ) (a v : ℕ) → r ≡ put_at r a (replicate (a - a) v)
unfolding put_at
same_none r a v = let e : a - a ≡ 0 = omega arith in rw e

pub same_more : (r : List ℕ) (a i v : ℕ) → a ≤ i → set (put_at r a (replicate (i - a) v)) i v ≡ put_at r a (replicate (i + 1 - a) v)
same_more r a i v h =
    let n = length-replicate (i - a) v in
    let e : (i - a) + 1 ≡ i + 1 - a = omega arith in
    put_next r a (replicate (i - a) v) i v (omega arith)
    ∙ ap (put_at r a) (replicate-append-replicate (i - a) 1 v ∙ ap (λ (k : ℕ). replicate k v) e)

-- ---- into one of two lists

pub put_left : (a b : List ℕ) (i : ℕ) (xs : List ℕ) → i + length xs ≤ length a → put_at (a ++ b) i xs ≡ put_at a i xs ++ b
unfolding put_at
put_left a b i [] h = refl
put_left a b i (x ∷ xs) h =
    let n = length-set a i x in
    ap (λ (r : List ℕ). put_at r (i + 1) xs) (set-append_left a b i x (omega arith)) ∙ put_left (set a i x) b (i + 1) xs (omega arith)

set_right : (a b : List ℕ) (i x : ℕ) → set (a ++ b) (length a + i) x ≡ a ++ set b i x
set_right [] b i x = let e : 0 + i ≡ i = omega arith in ap (λ (k : ℕ). set b k x) e
set_right (y ∷ a) b i x =
    let e : suc (length a) + i ≡ suc (length a + i) = omega arith in
    ap (λ (k : ℕ). set (y ∷ (a ++ b)) k x) e ∙ ap (λ (r : List ℕ). y ∷ r) (set_right a b i x)

pub put_right : (a b : List ℕ) (i : ℕ) (xs : List ℕ) (j : ℕ) → j ≡ length a + i → put_at (a ++ b) j xs ≡ a ++ put_at b i xs
unfolding put_at
put_right a b i [] j e = refl
put_right a b i (x ∷ xs) j e =
    ap (λ (k : ℕ). put_at (set (a ++ b) k x) (j + 1) xs) e
    ∙ ap (λ (r : List ℕ). put_at r (j + 1) xs) (set_right a b i x)
    ∙ put_right a (set b i x) (i + 1) xs (j + 1) (omega arith)

-- all of it
pub fields_put : (r xs : List ℕ) → length r ≡ length xs → put_at r 0 xs ≡ xs
unfolding put_at
fields_put [] [] e = refl
fields_put [] (x ∷ xs) e = absurd (omega arith)
fields_put (y ∷ r) [] e = absurd (omega arith)
fields_put (y ∷ r) (x ∷ xs) e =
    put_right (x ∷ []) r 0 xs 1 (omega arith) ∙ ap (λ (l : List ℕ). x ∷ l) (fields_put r xs (omega arith))

-- ---- into one field of a record

-- PUT INTO A FIELD: the others stay
pub put_field : (k : ℕ) (ns : List ℕ) (fs : List (List ℕ)) → Lengths ns fs → k < length ns
    → (o : ℕ) (xs : List ℕ) → o + length xs ≤ get_or ns k 0 → (i : ℕ) → i ≡ start_of k ns + o
    → put_at (whole fs) i xs ≡ whole (set fs k (put_at (field k fs) o xs))
put_field k [] fs l h o xs u i e = absurd (omega arith)
put_field k (n ∷ ns) [] l h o xs u i e = absurd l
put_field zero (n ∷ ns) (f ∷ fs) l h o xs u i e =
    let a = l.0 in
    let z : i ≡ o = omega arith in
    ap (λ (j : ℕ). put_at (f ++ whole fs) j xs) z ∙ put_left f (whole fs) o xs (omega arith)
put_field (suc k) (n ∷ ns) (f ∷ fs) l h o xs u i e =
    let a = l.0 in
    put_right f (whole fs) (start_of k ns + o) xs i (omega arith)
    ∙ ap (λ (r : List ℕ). f ++ r) (put_field k ns fs l.1 (omega arith) o xs u (start_of k ns + o) refl)

-- the field whole
pub set_field : (k : ℕ) (ns : List ℕ) (fs : List (List ℕ)) → Lengths ns fs → k < length ns
    → (xs : List ℕ) → length xs ≡ get_or ns k 0 → put_at (whole fs) (start_of k ns) xs ≡ whole (set fs k xs)
set_field k ns fs l h xs e =
    put_field k ns fs l h 0 xs (omega arith) (start_of k ns) (omega arith)
    ∙ ap (λ (f : List ℕ). whole (set fs k f)) (fields_put (field k fs) xs (field_length k ns fs l h ∙ sym e))
  where
    field_length : (k : ℕ) (ns : List ℕ) (fs : List (List ℕ)) → Lengths ns fs → k < length ns → length (field k fs) ≡ get_or ns k 0
    field_length k [] fs l h = absurd (omega arith)
    field_length k (n ∷ ns) [] l h = absurd l
    field_length zero (n ∷ ns) (f ∷ fs) l h = l.0
    field_length (suc k) (n ∷ ns) (f ∷ fs) l h = field_length k ns fs l.1 (omega arith)

pub lengths_set : (k : ℕ) (ns : List ℕ) (fs : List (List ℕ)) (xs : List ℕ) → Lengths ns fs → length xs ≡ get_or ns k 0 → Lengths ns (set fs k xs)
lengths_set k [] [] xs l e = tt
lengths_set k [] (f ∷ fs) xs l e = absurd l
lengths_set k (n ∷ ns) [] xs l e = absurd l
lengths_set zero (n ∷ ns) (f ∷ fs) xs l e = (e, l.1)
lengths_set (suc k) (n ∷ ns) (f ∷ fs) xs l e = (l.0, lengths_set k ns fs xs l.1 e)

-- a record made of fields of these lengths, and one of them put
pub record Built (ns : List ℕ) (fs : List (List ℕ)) (r : List ℕ) : Type 0 where
  pub bytes : r ≡ whole fs
  pub long : Lengths ns fs

pub built_next : {ns : List ℕ} {fs : List (List ℕ)} {r : List ℕ} → Built ns fs r → (k : ℕ) → k < length ns → (xs : List ℕ) → length xs ≡ get_or ns k 0
    → Built ns (set fs k xs) (put_at r (start_of k ns) xs)
built_next {ns} {fs} b k h xs e =
    record {
      bytes = ap (λ (x : List ℕ). put_at x (start_of k ns) xs) b.bytes ∙ set_field k ns fs b.long h xs e;
      long = lengths_set k ns fs xs b.long e;
    }
