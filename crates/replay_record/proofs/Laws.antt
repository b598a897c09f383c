-- Laws of the digest, of digits written one behind the other, and of bytes put. Assumes nothing.
use mathlib.Core.Path.{◌≡◌, refl, sym, ap, ap₂, ◌∙◌, subst}
use mathlib.Core.List.{List, [], ◌∷◌, ◌++◌, append-nil}
use Prim.Native.Nat.{ℕ, suc, ◌+◌, ◌-◌, ◌*◌, ◌/◌, ◌%◌, ◌≤◌, ◌<◌, min}
use native.Mathlib.Omega.{arith}
use native.Mathlib.Numerals.{add-one}
use lib.ListN.{length, take, drop, get_or, length-drop, length-append, drop_of_length-le}
use lib.Seq.{drop-cons, drop-drop, length-take-le, take-suc, take_all}
use borrow.Rule.Slice.PartMut.{mid_of, put_mid}
use Rattle.rows.specs.Text.{Written}
use Rattle.rows.proofs.Text.{then, write_none, written_whole}
use Rattle.dscb.proofs.Records.{copied_in}
use Rattle.std.specs.Int.{w32, to_be_bytes}
use Rattle.replay_record.specs.Asked.{over, over_at}
use Rattle.replay_record.specs.Line.{be4, digest, digest_from, hex, hex_byte, line_of, two_digits}

-- ---- writing

hex_append : (xs ys : List ℕ) → hex (xs ++ ys) ≡ hex xs ++ hex ys
unfolding hex
hex_append [] ys = refl
hex_append (x ∷ xs) ys = ap (λ (t : List ℕ). hex_byte x ++ t) (hex_append xs ys)

pub hex_none : (out : List ℕ) (i : ℕ) → Written i (hex []) 0 out out i
unfolding hex
hex_none out i = write_none out i 0

pub hex_one : (b : ℕ) → hex_byte b ≡ hex (b ∷ [])
unfolding hex
hex_one b = refl

pub hex_next : {at p r : ℕ} {o₀ o₁ o₂ : List ℕ} (s : List ℕ) (i : ℕ) → i < length s → Written at (hex (take i s)) (2 * i) o₀ o₁ p
    → Written p (hex_byte (get_or s i 0)) 2 o₁ o₂ r → Written at (hex (take (i + 1) s)) (2 * (i + 1)) o₀ o₂ r
hex_next {at} {p} {r} {o₀} {o₁} {o₂} s i h a b =
    let e : take (i + 1) s ≡ take i s ++ (get_or s i 0 ∷ []) = rw add-one (take-suc s i 0 h) in
    let f : hex (take i s) ++ hex_byte (get_or s i 0) ≡ hex (take (i + 1) s) = ap (λ (t : List ℕ). hex (take i s) ++ t) (hex_one (get_or s i 0)) ∙ sym (hex_append (take i s) (get_or s i 0 ∷ [])) ∙ ap hex (sym e) in
    let g : 2 * i + 2 ≡ 2 * (i + 1) = omega arith in
    subst (λ (n : ℕ). Written at (hex (take (i + 1) s)) n o₀ o₂ r) g (subst (λ (t : List ℕ). Written at t (2 * i + 2) o₀ o₂ r) f (then a b))

bytes_be4 : (v : ℕ) → v < 4294967296 → to_be_bytes w32 v ≡ be4 v
bytes_be4 v h = let e : v / 16777216 % 256 ≡ v / 16777216 = omega arith in rw e refl

pub four_hexes : {at p r : ℕ} {o₀ o₁ o₂ b : List ℕ} (v : ℕ) → v < 4294967296 → Written at (0x20 ∷ []) 1 o₀ o₁ p → b ≡ to_be_bytes w32 v
    → Written p (hex b) (2 * length b) o₁ o₂ r → Written at (0x20 ∷ hex (be4 v)) 9 o₀ o₂ r
four_hexes {at} {p} {r} {o₀} {o₁} {o₂} {b} v h w e x =
    let y : Written p (hex (be4 v)) 8 o₁ o₂ r = subst (λ (t : List ℕ). Written p (hex t) (2 * length t) o₁ o₂ r) (e ∙ bytes_be4 v h) x in
    then w y

hex_long : (s : List ℕ) → length (hex s) ≡ 2 * length s
unfolding hex
hex_long [] = refl
hex_long (x ∷ xs) = let e = hex_long xs in omega arith

line_long : (op res : ℕ) (ans : List ℕ) (t l : ℕ) → length ans ≡ 24 → length (line_of op res ans t l) ≡ 73
unfolding line_of hex
line_long op res ans t l k = let e = hex_long ans in simp length-append (omega arith)

pub line_done : {a b c d e f g : ℕ} {o₀ o₁ o₂ o₃ o₄ o₅ o₆ o₇ : List ℕ} (op res : ℕ) (ans : List ℕ) (t l : ℕ) → length o₀ ≡ 73 → length ans ≡ 24
    → Written 0 (hex_byte op) 2 o₀ o₁ a → Written a (0x20 ∷ two_digits res) 3 o₁ o₂ b → Written b (0x20 ∷ []) 1 o₂ o₃ c
    → Written c (hex ans) (2 * length ans) o₃ o₄ d → Written d (0x20 ∷ hex (be4 t)) 9 o₄ o₅ e → Written e (0x20 ∷ hex (be4 l)) 9 o₅ o₆ f
    → Written f (0x0A ∷ []) 1 o₆ o₇ g → o₇ ≡ line_of op res ans t l
unfolding line_of
line_done op res ans t l h k wa wb wc wd we wf wg =
    written_whole (line_long op res ans t l k ∙ sym h) (then wa (then wb (then (then wc wd) (then we (then wf wg)))))

-- ---- lengths and bytes put

over_none : (xs : List ℕ) → over xs [] ≡ []
unfolding over
over_none [] = refl
over_none (x ∷ xs) = refl

over_part : (xs t : List ℕ) (n m : ℕ) → n ≡ min (length xs) (length t) → m ≡ n → over xs t ≡ take n xs ++ drop m t
unfolding over
over_part [] t n m e h = let z : m ≡ 0 = omega arith in let y : n ≡ 0 = omega arith in rw (z, y)
over_part (x ∷ xs) [] n m e h = let z : m ≡ 0 = omega arith in let y : n ≡ 0 = omega arith in rw (z, y)
over_part (x ∷ xs) (y ∷ t) n m e h =
    let a : n ≡ suc (n - 1) = omega arith in
    let b : m ≡ suc (n - 1) = omega arith in
    subst (λ (k : ℕ). over (x ∷ xs) (y ∷ t) ≡ take k (x ∷ xs) ++ drop m (y ∷ t)) (sym a)
    (subst (λ (k : ℕ). over (x ∷ xs) (y ∷ t) ≡ take (suc (n - 1)) (x ∷ xs) ++ drop k (y ∷ t)) (sym b)
    (ap (λ (l : List ℕ). x ∷ l) (over_part xs t (n - 1) (n - 1) (omega arith) refl)))

-- no such place
pub over_behind : (t xs : List ℕ) (p : ℕ) → length t ≤ p → t ≡ over_at p xs t
unfolding over_at
over_behind t xs p h =
    sym (ap₂ (λ (a b : List ℕ). a ++ over xs b) (take_all p t h) (drop_of_length-le t {i = p} h) ∙ ap (λ (b : List ℕ). t ++ b) (over_none xs) ∙ append-nil t)

-- `&mut t[p..]` was lent to a copy of the first n bytes of xs and is back
pub over_copied : (t xs ys : List ℕ) (p n : ℕ) → p < length t → n ≡ min (length xs) (length t - p)
    → ys ≡ take (length (take n xs)) (take n xs) ++ drop (length (take n xs)) (mid_of p (length t - p) t) → put_mid p (length t - p) t ys ≡ over_at p xs t
unfolding over_at
over_copied t xs ys p n h e k =
    let long : length (take n xs) ≡ n = length-take-le n xs (omega arith) in
    let room : length (drop p t) ≡ length t - p = length-drop p t in
    let all : p + length (take n xs) ≤ length t = omega arith in
    copied_in t (take n xs) ys p all k
    ∙ ap (λ (l : List ℕ). take p t ++ l)
    (ap (λ (d : List ℕ). take n xs ++ d) (sym (drop-drop (length (take n xs)) p t)) ∙ sym (over_part xs (drop p t) n (length (take n xs)) (omega arith) (omega arith)))

-- ---- the digest

rest : (l : List ℕ) (i : ℕ) → i < length l → drop i l ≡ get_or l i 0 ∷ drop (i + 1) l
rest l i h = rw (add-one, drop-cons l i 0 h)

pub digest_next : (s : List ℕ) (i a b : ℕ) → i < length s
    → digest_from a b (drop i s) ≡ digest_from ((a + get_or s i 0) % 65521) ((b + (a + get_or s i 0) % 65521) % 65521) (drop (i + 1) s)
unfolding digest_from
digest_next s i a b h = rw (rest s i h)

pub digest_done : (s : List ℕ) (i a b : ℕ) → length s ≤ i → digest_from a b (drop i s) ≡ b * 65536 + a
unfolding digest_from
digest_done s i a b h = rw (drop_of_length-le s {i = i} h)

pub digest_start : (s : List ℕ) → digest s ≡ digest_from 1 0 (drop 0 s)
unfolding digest
digest_start s = refl
