-- The bits of words: of `&`, `|`, `^`, a complement, a shift, a block of ones. Assumes nothing.
use mathlib.Core.Path.{◌≡◌, refl, sym, ap, ◌∙◌}
use mathlib.Core.Logic.{◌⊎◌, inl, inr, ⊎_elim}
use Prim.Native.Nat.{ℕ, zero, suc, ◌+◌, ◌-◌, ◌*◌, ◌/◌, ◌%◌, ◌^◌, ◌≤◌, ◌<◌, min, max}
use native.Mathlib.Nat.{mul-one, pow-suc, mul_assoc, zero-div, div-one, div-eq_of_lt, lt_of_lt_of_le, lt_of_le_of_lt, lt_of_not-le}
use native.Mathlib.Decide.{dec_le}
use native.Mathlib.Omega.{arith}
use borrow.Author.Tests.{lt-ltb, le-ltb}
use lib.Dec.{ltb}
use lib.Count.{count_trailing_zeros, under}
use lib.Bits.{differ, bit_and, bit_or, bit_xor, and_shr, or_shr, xor_shr, and_step, or_step, xor_step, and_le_l, and_le_r, xor_lt, xor_add_and, or_add_and, shifted_even}
use lib.Pow.{field, mod-mod-pow, pow_pos, pow_mono, pow-add, shl_lt, shl-shr, shr-shr, ones_lt, ones_split, high, shl_exact}
use Rattle.model.specs.Basics.{bit}
use Rattle.bitmap.specs.Map.{bit_at}
use Rattle.bitmap.specs.Steps.{block}

pub le_or_lt : (a b : ℕ) → (a ≤ b) ⊎ (b < a)
le_or_lt a b = elim (dec_le a b) [ yes h ↦ inl h | no h ↦ inr (lt_of_not-le h) ]

-- ---- the operations

pub zero_bit : (j : ℕ) → bit_at 0 j ≡ 0
zero_bit j = ap (λ (x : ℕ). x % 2) (zero-div (2 ^ j))

pub and_bit : (a b j : ℕ) → bit_at (bit_and a b) j ≡ min (bit_at a j) (bit_at b j)
and_bit a b j = ap (λ (x : ℕ). x % 2) (and_shr a b j) ∙ omega (arith, and_step (a / 2 ^ j) (b / 2 ^ j))

pub or_bit : (a b j : ℕ) → bit_at (bit_or a b) j ≡ max (bit_at a j) (bit_at b j)
or_bit a b j = ap (λ (x : ℕ). x % 2) (or_shr a b j) ∙ omega (arith, or_step (a / 2 ^ j) (b / 2 ^ j))

-- two digits that differ, in sums, so that omega can use it
differ_sum : (x y : ℕ) → x < 2 → y < 2 → differ x y + min x y * 2 ≡ x + y
differ_sum zero zero u v = refl
differ_sum zero (suc zero) u v = refl
differ_sum zero (suc (suc y)) u v = absurd (omega arith)
differ_sum (suc zero) zero u v = refl
differ_sum (suc zero) (suc zero) u v = refl
differ_sum (suc zero) (suc (suc y)) u v = absurd (omega arith)
differ_sum (suc (suc x)) y u v = absurd (omega arith)

pub xor_bit : (a b j : ℕ) → bit_at (bit_xor a b) j + min (bit_at a j) (bit_at b j) * 2 ≡ bit_at a j + bit_at b j
xor_bit a b j =
    let e : bit_at (bit_xor a b) j ≡ bit_xor (a / 2 ^ j) (b / 2 ^ j) % 2 = ap (λ (x : ℕ). x % 2) (xor_shr a b j) in
    omega (arith, xor_step (a / 2 ^ j) (b / 2 ^ j), differ_sum (a / 2 ^ j % 2) (b / 2 ^ j % 2) (omega arith) (omega arith))

-- ---- shifts

-- a number shifted up has clear bits below
shl_low : (x s j : ℕ) → j < s → bit_at (x * 2 ^ s) j ≡ 0
shl_low x s j h =
    let d = s - suc j in
    let e : s ≡ suc d + j = omega arith in
    ap (λ (k : ℕ). bit_at (x * 2 ^ k) j) e
    ∙ ap (λ (y : ℕ). bit_at (x * y) j) (pow-add 2 (suc d) j)
    ∙ ap (λ (y : ℕ). bit_at y j) (sym (mul_assoc x (2 ^ suc d) (2 ^ j)))
    ∙ ap (λ (y : ℕ). y % 2) (shl-shr (x * 2 ^ suc d) j)
    ∙ shifted_even x d

-- and its own bits above those
shl_bit : (x s j : ℕ) → bit_at (x * 2 ^ s) (s + j) ≡ bit_at x j
shl_bit x s j = ap (λ (y : ℕ). y % 2) (sym (shr-shr (x * 2 ^ s) s j)) ∙ ap (λ (y : ℕ). bit_at y j) (shl-shr x s)

-- the lower bits of a number that is cut to a word
word_bit : (x j : ℕ) → j < 64 → bit_at (x % 2 ^ 64) j ≡ bit_at x j
word_bit x j h =
    let d = 63 - j in
    let e : 64 ≡ d + 1 + j = omega arith in
    ap (λ (k : ℕ). bit_at (x % 2 ^ k) j) e ∙ ap (λ (y : ℕ). y % 2) (field x (d + 1) j) ∙ mod-mod-pow (x / 2 ^ j) d 1

-- a number shifted down has its own bits, lower
pub shr_bit : (x s j : ℕ) → bit_at (x / 2 ^ s) j ≡ bit_at x (s + j)
shr_bit x s j = ap (λ (y : ℕ). y % 2) (shr-shr x s j)

-- a word shifted up by s: clear bits below, its own bits from bit s on
pub up_low : (x s j : ℕ) → s < 64 → j < s → bit_at (x * 2 ^ s % 2 ^ 64) j ≡ 0
up_low x s j g h = word_bit (x * 2 ^ s) j (omega arith) ∙ shl_low x s j h

pub up_bit : (x s j : ℕ) → s + j < 64 → bit_at (x * 2 ^ s % 2 ^ 64) (s + j) ≡ bit_at x j
up_bit x s j h = word_bit (x * 2 ^ s) (s + j) h ∙ shl_bit x s j

-- ---- a block of n ones from bit lo on: its bits below, inside, above

pub block_low : (lo n j : ℕ) → j < lo → bit_at (block lo n) j ≡ 0
unfolding block
block_low lo n j h = shl_low (2 ^ n - 1) lo j h

odd : (q : ℕ) → (2 ^ suc q - 1) % 2 ≡ 1
odd q = omega (arith, pow_pos q, pow-suc 2 q)

pub block_in : (lo n j : ℕ) → lo ≤ j → j < lo + n → bit_at (block lo n) j ≡ 1
unfolding block
block_in lo n j h k =
    let p = j - lo in
    let q = n - suc p in
    let ej : lo + p ≡ j = omega arith in
    let en : n ≡ suc q + p = omega arith in
    ap (λ (i : ℕ). bit_at ((2 ^ n - 1) * 2 ^ lo) i) (sym ej)
    ∙ ap (λ (x : ℕ). x % 2) (sym (shr-shr ((2 ^ n - 1) * 2 ^ lo) lo p))
    ∙ ap (λ (x : ℕ). bit_at x p) (shl-shr (2 ^ n - 1) lo)
    ∙ ap (λ (i : ℕ). bit_at (2 ^ i - 1) p) en
    ∙ ap (λ (x : ℕ). bit_at x p) (ones_split (suc q) p)
    ∙ ap (λ (x : ℕ). x % 2) (high (2 ^ suc q - 1) p (ones_lt p))
    ∙ odd q

pub block_high : (lo n j : ℕ) → lo + n ≤ j → bit_at (block lo n) j ≡ 0
unfolding block
block_high lo n j h =
    let e : n + lo ≤ j = omega arith in
    ap (λ (x : ℕ). x % 2) (div-eq_of_lt (lt_of_lt_of_le (shl_lt n lo (ones_lt n)) (pow_mono e)))

pub block_lt : (lo n : ℕ) → lo + n ≤ 64 → block lo n < 2 ^ 64
unfolding block
block_lt lo n h = lt_of_lt_of_le (shl_lt n lo (ones_lt n)) (pow_mono {i = n + lo} {j = 64} (omega arith))

-- a word of ones, shifted down and up again, is a block
pub ones_block : (lo n : ℕ) → lo + n ≤ 64 → (0xffff_ffff_ffff_ffff / 2 ^ (64 - n) * 2 ^ lo) % 2 ^ 64 ≡ block lo n
unfolding block
ones_block lo n h =
    let k = 64 - n in
    let s : 64 ≡ n + k = omega arith in
    let e : 0xffff_ffff_ffff_ffff ≡ 2 ^ (n + k) - 1 = ap (λ (i : ℕ). 2 ^ i - 1) s in
    let t : 0xffff_ffff_ffff_ffff / 2 ^ k ≡ 2 ^ n - 1 =
    ap (λ (x : ℕ). x / 2 ^ k) (e ∙ ones_split n k) ∙ high (2 ^ n - 1) k (ones_lt k) in
    ap (λ (x : ℕ). (x * 2 ^ lo) % 2 ^ 64) t ∙ shl_exact n lo 64 (ones_lt n) (omega arith)

pub all_ones : (j : ℕ) → j < 64 → bit_at 0xffff_ffff_ffff_ffff j ≡ 1
unfolding block
all_ones j h = ap (λ (y : ℕ). bit_at y j) (sym (mul-one (2 ^ 64 - 1))) ∙ block_in 0 64 j (omega arith) (omega arith)

-- ---- a bit that shows a difference

two_cases : (x : ℕ) → (x % 2 ≡ 0) ⊎ (x % 2 ≡ 1)
two_cases x = go (x % 2) refl
  where
    go : (r : ℕ) → x % 2 ≡ r → (x % 2 ≡ 0) ⊎ (x % 2 ≡ 1)
    go zero e = inl e
    go (suc zero) e = inr e
    go (suc (suc r)) e = absurd (omega arith)

-- a number that is not 0 has a bit that is set
some_bit : (k y : ℕ) → y < 2 ^ k → (y ≡ 0 → ⊥) → (j : ℕ) × (j < k) × (bit_at y j ≡ 1)
some_bit zero y h n = absurd (n (omega arith))
some_bit (suc k) y h n =
    ⊎_elim
    (λ e.
    let r : (j : ℕ) × (j < k) × (bit_at (y / 2) j ≡ 1) = some_bit k (y / 2) (omega (arith, pow-suc 2 k)) (λ z. n (omega arith)) in
    (1 + r.0, omega (arith, r.1), ap (λ (x : ℕ). x % 2) (sym (shr-shr y 1 r.0)) ∙ r.2))
    (λ e. (0, omega arith, ap (λ (x : ℕ). x % 2) (div-one y) ∙ e))
    (two_cases y)

-- where x & m is not m, a bit of m is clear in x
pub lacks : (x m : ℕ) → m < 2 ^ 64 → (bit_and x m ≡ m → ⊥) → (j : ℕ) × (j < 64) × (bit_at m j ≡ 1) × (bit_at x j ≡ 0)
lacks x m f n =
    let y = bit_xor (bit_and x m) m in
    let s = xor_add_and (bit_and x m) m in
    let l = and_le_l (bit_and x m) m in
    let l' = and_le_r (bit_and x m) m in
    let d : y ≡ 0 → ⊥ = λ z. n (omega arith) in
    let r = some_bit 64 y (xor_lt 64 (bit_and x m) m (lt_of_le_of_lt (and_le_r x m) f) f) d in
    let b = xor_bit (bit_and x m) m r.0 in
    let a = and_bit x m r.0 in
    let o = r.2 in
    (r.0, r.1, omega arith, omega arith)

-- no bit is set above a word
pub above_word : (x j : ℕ) → x < 2 ^ 64 → 64 ≤ j → bit_at x j ≡ 0
above_word x j h k = ap (λ (y : ℕ). y % 2) (div-eq_of_lt (lt_of_lt_of_le h (pow_mono {i = 64} {j = j} k)))

-- ---- the complement

pub not_bit : (x j : ℕ) → j < 64 → bit_at (bit_xor x 0xffff_ffff_ffff_ffff) j ≡ 1 - bit_at x j
not_bit x j h = omega (arith, xor_bit x 0xffff_ffff_ffff_ffff j, all_ones j h)

-- ---- trailing zeros, bit by bit from the lowest

half_bit : (y i : ℕ) → bit_at (y / 2) i ≡ bit_at y (suc i)
half_bit y i = let e : 1 + i ≡ suc i = omega arith in shr_bit y 1 i ∙ ap (bit_at y) e

lowest_bit : (y : ℕ) → bit_at y 0 ≡ y % 2
lowest_bit y = ap (λ (x : ℕ). x % 2) (div-one y)

-- below the first bit that is set all are clear
pub trailing_zero : (k y i : ℕ) → i < count_trailing_zeros k y → bit_at y i ≡ 0
unfolding count_trailing_zeros
trailing_zero zero y i h = absurd (omega arith)
trailing_zero (suc k) y i h = go (y % 2) (count_trailing_zeros k (y / 2)) i refl (trailing_zero k (y / 2)) h
  where
    go : (d t i : ℕ) → y % 2 ≡ d → ((j : ℕ) → j < t → bit_at (y / 2) j ≡ 0) → i < under d t → bit_at y i ≡ 0
    go zero t zero e f h = lowest_bit y ∙ e
    go zero t (suc i) e f h = sym (half_bit y i) ∙ f i (omega arith)
    go (suc d) t i e f h = absurd (omega arith)

pub trailing_one : (k y : ℕ) → count_trailing_zeros k y < k → bit_at y (count_trailing_zeros k y) ≡ 1
unfolding count_trailing_zeros
trailing_one zero y h = absurd (omega arith)
trailing_one (suc k) y h = go (y % 2) (count_trailing_zeros k (y / 2)) refl (trailing_one k (y / 2)) h
  where
    go : (d t : ℕ) → y % 2 ≡ d → (t < k → bit_at (y / 2) t ≡ 1) → under d t < suc k → bit_at y (under d t) ≡ 1
    go zero t e f h = sym (half_bit y t) ∙ f (omega arith)
    go (suc d) t e f h = lowest_bit y ∙ omega arith

-- a word that is not 0 has a first bit that is set
pub trailing_small : (k y : ℕ) → y < 2 ^ k → (y ≡ 0 → ⊥) → count_trailing_zeros k y < k
trailing_small k y h n =
    let r = some_bit k y h n in
    let u = r.1 in
    let o = r.2 in
    ⊎_elim (λ g. absurd (omega (arith, trailing_zero k y r.0 (omega arith)))) (λ g. g) (le_or_lt k (count_trailing_zeros k y))

-- ---- one less

-- where a is the first bit that is set in x, x - 1 has ones below it, a zero there, and the bits of x above
pub one_less : (a y x : ℕ) → y + 1 ≡ x → ((i : ℕ) → i < a → bit_at x i ≡ 0) → bit_at x a ≡ 1 → (j : ℕ)
    → (j < a → bit_at y j ≡ 1) × (j ≡ a → bit_at y j ≡ 0) × (a < j → bit_at y j ≡ bit_at x j)
one_less zero y x e f g zero = (λ h. absurd (omega arith), λ h. omega (arith, lowest_bit x, lowest_bit y), λ h. absurd (omega arith))
one_less zero y x e f g (suc j) =
    let q : y / 2 ≡ x / 2 = omega (arith, lowest_bit x) in
    (λ h. absurd (omega arith), λ h. absurd (omega arith), λ h. sym (half_bit y j) ∙ ap (λ (u : ℕ). bit_at u j) q ∙ half_bit x j)
one_less (suc a) y x e f g zero =
    let o = f 0 (omega arith) in
    (λ h. omega (arith, lowest_bit x, lowest_bit y), λ h. absurd (omega arith), λ h. absurd (omega arith))
one_less (suc a) y x e f g (suc j) =
    let o = f 0 (omega arith) in
    let q : y / 2 + 1 ≡ x / 2 = omega (arith, lowest_bit x) in
    let r = one_less a (y / 2) (x / 2) q (λ i h. half_bit x i ∙ f (suc i) (omega arith)) (half_bit x a ∙ g) j in
    let u = half_bit y j in
    let v = half_bit x j in
    (λ h. omega (arith, r.0 (omega arith)), λ h. omega (arith, r.1 (omega arith)), λ h. omega (arith, r.2 (omega arith)))

-- ---- words compared by what is left of them

pub or_none_lem : (a b : ℕ) → bit_or a b ≡ 0 → (a ≡ 0) × (b ≡ 0)
or_none_lem a b z = let s = or_add_and a b in let u = and_le_l a b in let v = and_le_r a b in (omega arith, omega arith)

pub xor_none : (a b : ℕ) → bit_xor a b ≡ 0 → a ≡ b
xor_none a b z = omega (arith, xor_add_and a b, and_le_l a b, and_le_r a b)

-- the highest bit of a word
pub top_bit : (x : ℕ) → x < 2 ^ 64 → bit_at x 63 ≡ 1 - bit (ltb x 0x8000_0000_0000_0000)
top_bit x h =
    ⊎_elim
    (λ g. let e = ap bit (le-ltb x 0x8000_0000_0000_0000 g) in omega arith)
    (λ g. let e = ap bit (lt-ltb x 0x8000_0000_0000_0000 g) in omega arith)
    (le_or_lt 0x8000_0000_0000_0000 x)
