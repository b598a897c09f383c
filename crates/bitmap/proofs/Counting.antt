-- The number of runs: one for each track that passes behind one that does not. Assumes nothing.
use mathlib.Core.Path.{◌≡◌, refl, sym, ap, ◌∙◌, subst}
use mathlib.Core.Bool.{Bool, true, false}
use mathlib.Core.List.{List, [], ◌∷◌}
use Prim.Native.Nat.{ℕ, zero, suc, ◌+◌, ◌-◌, ◌*◌, ◌/◌, ◌%◌, ◌^◌, ◌≤◌, ◌<◌, min}
use native.Mathlib.Nat.{add-zero, le_refl, lt_of_le_of_lt, mod-eq_of_lt, mod-lt}
use native.Mathlib.Omega.{arith}
use borrow.Author.Tests.{eq-eqb, ne_eqb}
use lib.Dec.{eqb, ltb}
use lib.ListN.{length, get_or}
use lib.Bits.{bit_and, bit_or, bit_xor, and_le_l}
use lib.Pow.{low, mod-pow-add, pow_pos, shl-shr}
use lib.Count.{ones, ones_cat, ones-le, ones_step}
use Rattle.model.specs.Basics.{bit}
use Rattle.model.specs.Model.{Run, Separate, join, join_if, run, runs, touch}
use Rattle.model.proofs.Runs.{runs_separate}
use Rattle.bitmap.specs.Map.{bit_at, free_bit, free_from, is_free}
use Rattle.bitmap.specs.Steps.{WordsAlike, Counts, Starts, bit_before, flipped, runs_below}
use Rattle.bitmap.proofs.Bits.{above_word, and_bit, not_bit, or_bit, shr_bit, top_bit, up_bit, up_low}
use Rattle.bitmap.proofs.Walk.{free_from_zero}
use Rattle.bitmap.proofs.Words.{in_word, plain_tracks}

-- ---- joining a track to the runs behind it

joined : (a : ℕ) (rs : List Run) → length (join a (join (suc a) rs)) ≡ length (join (suc a) rs)
joined a [] = ap (λ (b : Bool). length (touch b a (run (suc a) 1) [])) (eq-eqb (suc a) (suc a) refl)
joined a (r ∷ rs) = go (eqb r.start (suc (suc a)))
  where
    go : (b : Bool) → length (join a (touch b (suc a) r rs)) ≡ length (touch b (suc a) r rs)
    go true = ap (λ (b : Bool). length (touch b a (run (suc a) (suc r.count)) rs)) (eq-eqb (suc a) (suc a) refl)
    go false = ap (λ (b : Bool). length (touch b a (run (suc a) 1) (r ∷ rs))) (eq-eqb (suc a) (suc a) refl)

apart : (a hi : ℕ) (rs : List Run) → Separate (suc (suc a)) hi rs → length (join a rs) ≡ suc (length rs)
apart a hi [] s = refl
apart a hi (r ∷ rs) s = ap (λ (b : Bool). length (touch b a r rs)) (ne_eqb r.start (suc a) (λ e. absurd (omega (arith, s.0))))

two : (b c : Bool) (a hi : ℕ) (rs : List Run) → Separate (suc (suc a)) hi rs
    → length (join_if b a (join_if c (suc a) rs)) + min (bit b) (bit c) ≡ length (join_if c (suc a) rs) + bit b
two true true a hi rs s = let e = joined a rs in omega arith
two true false a hi rs s = let e = apart a hi rs s in omega arith
two false c a hi rs s = omega arith

at_most : (b : Bool) (a : ℕ) (rs : List Run) → length (join_if b a rs) ≤ suc (length rs)
at_most true a [] = le_refl 1
at_most true a (r ∷ rs) = go (eqb r.start (suc a))
  where
    go : (b : Bool) → length (touch b a r rs) ≤ suc (suc (length rs))
    go true = omega arith
    go false = omega arith
at_most false a rs = omega arith

-- ---- one track more at either end

module _ (p : ℕ → Bool) where
  pub runs_length : (a n : ℕ) → length (runs p a n) ≤ n
  runs_length a zero = le_refl 0
  runs_length a (suc n) = let e = runs_length (suc a) n in let k = at_most (p a) a (runs p (suc a) n) in omega arith

  first_track : (a n : ℕ) → length (runs p a (suc (suc n))) + min (bit (p a)) (bit (p (suc a))) ≡ length (runs p (suc a) (suc n)) + bit (p a)
  first_track a n = two (p a) (p (suc a)) a (suc (suc a) + n) (runs p (suc (suc a)) n) (runs_separate p (suc (suc a)) n)

  pub one_track : (a : ℕ) → length (runs p a 1) ≡ bit (p a)
  one_track a = go (p a)
    where
      go : (b : Bool) → length (join_if b a []) ≡ bit b
      go true = refl
      go false = refl

  last_track : (n a t : ℕ) → a + n ≡ t → length (runs p a (suc (suc n))) + min (bit (p t)) (bit (p (suc t))) ≡ length (runs p a (suc n)) + bit (p (suc t))
  last_track zero a t e =
      let q : a ≡ t = omega arith in
      subst (λ (x : ℕ). length (runs p a 2) + min (bit (p x)) (bit (p (suc x))) ≡ length (runs p a 1) + bit (p (suc x))) q
      (omega (arith, first_track a 0, one_track a, one_track (suc a)))
  last_track (suc n) a t e =
      let i = last_track n (suc a) t (omega arith) in
      omega (arith, first_track a (suc n), first_track a n)

-- ---- the map's bits

pub free_le : (m : List ℕ) (t : ℕ) → free_bit m t ≤ 1
unfolding free_bit
free_le m t = omega arith

pub bit_of : (m : List ℕ) (t : ℕ) → bit (is_free m t) ≡ free_bit m t
unfolding is_free
bit_of m t = go (free_bit m t) (free_le m t)
  where
    go : (x : ℕ) → x ≤ 1 → bit (eqb x 1) ≡ x
    go zero h = ap bit (ne_eqb 0 1 (λ e. absurd (omega arith)))
    go (suc zero) h = ap bit (eq-eqb 1 1 refl)
    go (suc (suc x)) h = absurd (omega arith)

count_track : (m : List ℕ) (t : ℕ) → length (runs (is_free m) 0 (suc t)) ≡ length (runs (is_free m) 0 t) + min (free_bit m t) (1 - bit_before m t)
count_track m zero = omega (arith, one_track (is_free m) 0, bit_of m 0, free_le m 0)
count_track m (suc t) = omega (arith, last_track (is_free m) t 0 t (omega arith), bit_of m t, bit_of m (suc t), free_le m t, free_le m (suc t))

-- ---- a word

pub starts_law : (y x : ℕ) → y < 2 ^ 64 → x < 2 ^ 64 → Starts y x (bit_and x (bit_xor (bit_or (x * 2 % 2 ^ 64) (y / 2 ^ 63)) 0xffff_ffff_ffff_ffff))
starts_law y x g h =
    let u = x * 2 % 2 ^ 64 in
    let z = y / 2 ^ 63 in
    let b = bit_or u z in
    record {
      small = lt_of_le_of_lt (and_le_l x (bit_xor b 0xffff_ffff_ffff_ffff)) h;
      first = omega (arith, and_bit x (bit_xor b 0xffff_ffff_ffff_ffff) 0, not_bit b 0 (omega arith), or_bit u z 0, up_low x 1 0 (omega arith) (omega arith), shr_bit y 63 0);
      rest = λ j k.
          let e : 1 + j ≡ suc j = omega arith in
          let v : bit_at u (suc j) ≡ bit_at x j = ap (bit_at u) (sym e) ∙ up_bit x 1 j (omega arith) in
          let l : bit_at z (suc j) ≡ 0 = shr_bit y 63 (suc j) ∙ above_word y (63 + suc j) g (omega arith) in
          omega (arith, and_bit x (bit_xor b 0xffff_ffff_ffff_ffff) (suc j), not_bit b (suc j) (omega arith), or_bit u z (suc j));
    }

ones_digit : (x : ℕ) → ones (x % 2) ≡ x % 2
unfolding ones
ones_digit x =
    let e : x % 2 / 2 ≡ 0 = omega arith in
    let o : ones (x % 2 / 2) ≡ 0 = ap ones e in
    omega (arith, ones_step (x % 2))

-- the ones among the lowest bits, one bit more
ones_more : (r k : ℕ) → ones (r % 2 ^ suc k) ≡ ones (r % 2 ^ k) + bit_at r k
ones_more r k =
    let e : suc k ≡ 1 + k = omega arith in
    ap (λ (i : ℕ). ones (r % 2 ^ i)) e ∙ ap ones (mod-pow-add r 1 k) ∙ omega (arith, ones_cat k (bit_at r k) (r % 2 ^ k) (mod-lt r (pow_pos k)), ones_digit (r / 2 ^ k))

-- they are left by a shift that pushes the others out of the word
ones_low : (r k : ℕ) → k ≤ 64 → ones (r * 2 ^ (64 - k) % 2 ^ 64) ≡ ones (r % 2 ^ k)
unfolding ones
ones_low r k h =
    let d = 64 - k in
    let e : 64 ≡ k + d = omega arith in
    let z : r * 2 ^ d % 2 ^ d ≡ 0 = ap (λ (x : ℕ). x % 2 ^ d) (sym (add-zero (r * 2 ^ d))) ∙ low r d (pow_pos d) in
    ap (λ (i : ℕ). ones (r * 2 ^ d % 2 ^ i)) e
    ∙ ap ones (mod-pow-add (r * 2 ^ d) k d)
    ∙ ap (λ (x : ℕ). ones (x % 2 ^ k * 2 ^ d + r * 2 ^ d % 2 ^ d)) (shl-shr r d)
    ∙ ap (λ (x : ℕ). ones (r % 2 ^ k * 2 ^ d + x)) z
    ∙ ones_cat d (r % 2 ^ k) 0 (pow_pos d)
    ∙ add-zero (ones (r % 2 ^ k))

module _ (m : List ℕ) (y r t : ℕ) (e : t % 64 ≡ 0) (q : bit_at y 63 ≡ bit_before m t) (s : Starts y (get_or m (t / 64) 0) r) where
  start_bit : (k : ℕ) → k < 64 → bit_at r k ≡ min (free_bit m (t + k)) (1 - bit_before m (t + k))
  start_bit zero h =
      let z : t + 0 ≡ t = omega arith in
      let x = ap (bit_at (get_or m (t / 64) 0)) (sym e) ∙ in_word m (t / 64) t refl in
      subst (λ (i : ℕ). bit_at r 0 ≡ min (free_bit m i) (1 - bit_before m i)) (sym z) (omega (arith, s.first))
  start_bit (suc k) h =
      let z : t + suc k ≡ suc (t + k) = omega arith in
      let u : suc (t + k) % 64 ≡ suc k = omega arith in
      let v : (t + k) % 64 ≡ k = omega arith in
      let a = ap (bit_at (get_or m (t / 64) 0)) (sym u) ∙ in_word m (t / 64) (suc (t + k)) (omega arith) in
      let b = ap (bit_at (get_or m (t / 64) 0)) (sym v) ∙ in_word m (t / 64) (t + k) (omega arith) in
      subst (λ (i : ℕ). bit_at r (suc k) ≡ min (free_bit m i) (1 - bit_before m i)) (sym z) (omega (arith, s.rest k (omega arith)))

  -- the starts among the first k tracks of the word
  pub count_turn : (k : ℕ) → k ≤ 64 → length (runs (is_free m) 0 (t + k)) ≡ length (runs (is_free m) 0 t) + ones (r % 2 ^ k)
  unfolding ones
  count_turn zero h =
      let z : t + 0 ≡ t = omega arith in
      let w : r % 2 ^ 0 ≡ 0 = omega arith in
      let o : ones (r % 2 ^ 0) ≡ 0 = ap ones w in
      ap (λ (i : ℕ). length (runs (is_free m) 0 i)) z ∙ omega arith
  count_turn (suc k) h =
      let z : t + suc k ≡ suc (t + k) = omega arith in
      ap (λ (i : ℕ). length (runs (is_free m) 0 i)) z ∙ omega (arith, count_track m (t + k), count_turn k (omega arith), ones_more r k, start_bit k (omega arith))

  pub count_part : (k : ℕ) → k ≤ 64 → length (runs (is_free m) 0 (t + k)) ≡ length (runs (is_free m) 0 t) + ones (r * 2 ^ (64 - k) % 2 ^ 64)
  count_part k h = omega (arith, count_turn k h, ones_low r k h)

  pub count_word : length (runs (is_free m) 0 (t + 64)) ≡ length (runs (is_free m) 0 t) + ones r
  count_word =
      let o : ones (r % 2 ^ 64) ≡ ones r = ap ones (mod-eq_of_lt s.small) in
      omega (arith, count_turn 64 (le_refl 64))

-- the last track of a word is the one before the next word
last_bit : (m : List ℕ) (t : ℕ) → t % 64 ≡ 0 → bit_at (get_or m (t / 64) 0) 63 ≡ bit_before m (t + 64)
last_bit m t e =
    let z : t + 64 ≡ suc (t + 63) = omega arith in
    let w : (t + 63) % 64 ≡ 63 = omega arith in
    ap (bit_at (get_or m (t / 64) 0)) (sym w) ∙ in_word m (t / 64) (t + 63) (omega arith) ∙ sym (ap (bit_before m) z)

-- ---- tracks that are as the one before them: no run starts there

count_same : (m : List ℕ) (b d t : ℕ) → b ≤ 1 → bit_before m t ≡ b → ((j : ℕ) → t ≤ j → j < t + d → free_bit m j ≡ b)
    → (length (runs (is_free m) 0 (t + d)) ≡ length (runs (is_free m) 0 t)) × (bit_before m (t + d) ≡ b)
count_same m b zero t l q f =
    let z : t + 0 ≡ t = omega arith in
    (ap (λ (i : ℕ). length (runs (is_free m) 0 i)) z, ap (bit_before m) z ∙ q)
count_same m b (suc d) t l q f =
    let z : t + suc d ≡ suc (t + d) = omega arith in
    let r = count_same m b d t l q (λ j u v. f j u (omega arith)) in
    let o = f (t + d) (omega arith) (omega arith) in
    let p = r.1 in (
      ap (λ (i : ℕ). length (runs (is_free m) 0 i)) z ∙ omega (arith, count_track m (t + d), r.0),
      ap (bit_before m) z ∙ o,
    )

-- ---- by words

module _ (m : List ℕ) (w y r : ℕ) (q : bit_at y 63 ≡ bit_before m (64 * w)) (s : Starts y (get_or m w 0) r) where
  at_word : Starts y (get_or m (64 * w / 64) 0) r
  at_word = let e : 64 * w / 64 ≡ w = omega arith in rw e s

  pub word_runs : runs_below m (64 * w + 64) ≡ runs_below m (64 * w) + ones r
  unfolding runs_below
  word_runs = count_word m y r (64 * w) (omega arith) q at_word

  pub part_runs : (k : ℕ) → k ≤ 64 → runs_below m (64 * w + k) ≡ runs_below m (64 * w) + ones (r * 2 ^ (64 - k) % 2 ^ 64)
  unfolding runs_below
  part_runs = count_part m y r (64 * w) (omega arith) q at_word

pub word_last : (m : List ℕ) (w : ℕ) → bit_at (get_or m w 0) 63 ≡ bit_before m (64 * w + 64)
word_last m w =
    let e : 64 * w / 64 ≡ w = omega arith in
    ap (λ (i : ℕ). bit_at (get_or m i 0) 63) (sym e) ∙ last_bit m (64 * w) (omega arith)

pub few_runs : (m : List ℕ) (t : ℕ) → runs_below m t ≤ t
unfolding runs_below
few_runs m t = runs_length (is_free m) 0 t

pub counts_none : (m : List ℕ) → Counts m 0 0 0
unfolding runs_below
counts_none m = record { runs = refl; last = refl }

-- words that are as the last track before them
pub counts_plain : (m : List ℕ) (w v c y p : ℕ) → w ≤ v → y < 2 ^ 64 → p ≡ flipped (ltb y 0x8000_0000_0000_0000) 0 → WordsAlike m p w v → Counts m (64 * w) c y → Counts m (64 * v) c y
unfolding runs_below
counts_plain m w v c y p l fits q h k =
    let e : 64 * w + 64 * (v - w) ≡ 64 * v = omega arith in
    let o = count_same m (bit_at y 63) (64 * (v - w)) (64 * w) (omega arith) (sym k.last) (λ j a b. plain_tracks m _ p w v q h j a (omega arith) ∙ sym (top_bit y fits)) in
    record {
      runs = k.runs ∙ sym (ap (λ (i : ℕ). length (runs (is_free m) 0 i)) (sym e) ∙ o.0);
      last = sym o.1 ∙ ap (bit_before m) e;
    }

pub eight_plain : (m : List ℕ) (w c y p : ℕ) → y < 2 ^ 64 → p ≡ flipped (ltb y 0x8000_0000_0000_0000) 0 → WordsAlike m p w (w + 8) → Counts m (64 * w) c y → Counts m (64 * w + 512) c y
eight_plain m w c y p fits q h k =
    let e : 64 * (w + 8) ≡ 64 * w + 512 = omega arith in
    subst (λ (t : ℕ). Counts m t c y) e (counts_plain m w (w + 8) c y p (omega arith) fits q h k)

-- a word more
pub starts_more : (m : List ℕ) (w i c r : ℕ) → 1 ≤ i → runs_below m (64 * w + 64 * i) ≡ runs_below m (64 * w) + c → Starts (get_or m (w + i - 1) 0) (get_or m (w + i) 0) r
    → runs_below m (64 * w + 64 * (i + 1)) ≡ runs_below m (64 * w) + (c + ones r)
starts_more m w i c r l k s =
    let a : 64 * (w + i - 1) + 64 ≡ 64 * (w + i) = omega arith in
    let b : 64 * (w + i) ≡ 64 * w + 64 * i = omega arith in
    let d : 64 * (w + i) + 64 ≡ 64 * w + 64 * (i + 1) = omega arith in
    let o = word_runs m (w + i) (get_or m (w + i - 1) 0) r (word_last m (w + i - 1) ∙ ap (bit_before m) a) s in
    omega (arith, o, ap (runs_below m) b, ap (runs_below m) d)

pub counts_more : (m : List ℕ) (w c y r : ℕ) → Counts m (64 * w) c y → Starts y (get_or m w 0) r → Counts m (64 * (w + 1)) (c + ones r) (get_or m w 0)
counts_more m w c y r k s =
    let e : 64 * w + 64 ≡ 64 * (w + 1) = omega arith in
    record {
      runs = omega (arith, k.runs, word_runs m w y r k.last s, ap (runs_below m) e);
      last = word_last m w ∙ ap (bit_before m) e;
    }

pub counts_eight : (m : List ℕ) (w c y d : ℕ) → Counts m (64 * w) c y → runs_below m (64 * w + 512) ≡ runs_below m (64 * w) + d → Counts m (64 * w + 512) (c + d) (get_or m (w + 7) 0)
counts_eight m w c y d k o =
    let e : 64 * (w + 7) + 64 ≡ 64 * w + 512 = omega arith in
    record { runs = omega (arith, k.runs, o); last = word_last m (w + 7) ∙ ap (bit_before m) e }

pub starts_few : (y x r : ℕ) → Starts y x r → ones r ≤ 64
starts_few y x r s = ones-le 64 r s.small

-- all of it: whole words, and the first tracks of one more
module _ (m : List ℕ) (n c y : ℕ) (k : Counts m (64 * (n / 64)) c y) where
  counted : (d : ℕ) → d ≡ runs_below m n → (d ≡ length (free_from m n 0)) × (d ≤ n)
  unfolding runs_below
  counted d e = (e ∙ sym (ap length (free_from_zero m n)), omega (arith, runs_length (is_free m) 0 n))

  pub whole_words : n % 64 ≡ 0 → (c ≡ length (free_from m n 0)) × (c ≤ n)
  whole_words z = let e : 64 * (n / 64) ≡ n = omega arith in counted c (k.runs ∙ ap (runs_below m) e)

  pub and_part : (r : ℕ) → Starts y (get_or m (n / 64) 0) r
      → (c + ones (r * 2 ^ (64 - n % 64) % 2 ^ 64) ≡ length (free_from m n 0)) × (c + ones (r * 2 ^ (64 - n % 64) % 2 ^ 64) ≤ n)
  and_part r s =
      let e : 64 * (n / 64) + n % 64 ≡ n = omega arith in
      counted _ (omega (arith, k.runs, part_runs m (n / 64) y r k.last s (n % 64) (omega arith), ap (runs_below m) e))
