-- What a turn over one word says of its tracks. Assumes nothing.
use mathlib.Core.Path.{◌≡◌, refl, sym, ap, ◌∙◌, subst}
use mathlib.Core.Bool.{Bool, true, false}
use mathlib.Core.Logic.{⊎_elim}
use mathlib.Core.List.{List, ◌++◌}
use Prim.Native.Nat.{ℕ, ◌+◌, ◌-◌, ◌*◌, ◌/◌, ◌%◌, ◌^◌, ◌≤◌, ◌<◌}
use native.Mathlib.Decide.{ℕ_discrete}
use native.Mathlib.Omega.{arith}
use borrow.Author.Rules.{rules}
use borrow.Rule.Slice.PartMut.{put_mid}
use Rattle.std.proofs.lemmas.List.{places}
use Rattle.std.specs.Option.{MatchOption}
use Rattle.std.proofs.Common.{Option, Some, None}
use lib.Bits.{and_le_l, bit_and, bit_or, bit_xor, xor_self}
use lib.ListN.{length, get_or, set, take, drop, replicate, length-append, length-drop, length-replicate, length-set, length-take, get_or-append, get_or-replicate}
use lib.Seq.{get_or-drop, get_or-set_same, get_or-set_other, get_or-take}
use Rattle.model.specs.Basics.{bit}
use Rattle.model.proofs.Lists.{clash}
use Rattle.bitmap.specs.Map.{AllFree, FreedBelow, Hit, Made, Taken, bit_at, free_bit}
use Rattle.bitmap.specs.Steps.{WordsAlike, FirstUnlike, block, flipped}
use Rattle.bitmap.proofs.Bits.{all_ones, and_bit, block_high, block_in, block_low, block_lt, lacks, le_or_lt, not_bit, or_bit, or_none_lem, xor_bit, xor_none, zero_bit}

-- the mask of the n tracks from t on, in t's word
abbrev mask : ℕ → ℕ → ℕ
mask t n = block (t % 64) n

-- ---- a track's bit after a store

pub store_in : (m : List ℕ) (w v j : ℕ) → w < length m → j / 64 ≡ w → free_bit (set m w v) j ≡ bit_at v (j % 64)
unfolding free_bit
store_in m w v j h e = rw (e, get_or-set_same m w v 0 h)

pub store_off : (m : List ℕ) (w v j : ℕ) → (j / 64 ≡ w → ⊥) → free_bit (set m w v) j ≡ free_bit m j
unfolding free_bit
store_off m w v j n = rw (get_or-set_other m w (j / 64) v 0 n)

pub in_word : (m : List ℕ) (w j : ℕ) → j / 64 ≡ w → bit_at (get_or m w 0) (j % 64) ≡ free_bit m j
unfolding free_bit
in_word m w j e = rw e

-- the word v is the old one but for the bits of the mask, which are b
module _ (b : ℕ) (m : List ℕ) (t n v : ℕ) (h : t / 64 < length m) (k : t % 64 + n ≤ 64)
    (kept : (p : ℕ) → bit_at (mask t n) p ≡ 0 → bit_at v p ≡ bit_at (get_or m (t / 64) 0) p)
    (new : (p : ℕ) → bit_at (mask t n) p ≡ 1 → bit_at v p ≡ b) where
  out : (j : ℕ) → (j / 64 ≡ t / 64 → bit_at (mask t n) (j % 64) ≡ 0) → free_bit (set m (t / 64) v) j ≡ free_bit m j
  out j g = elim (ℕ_discrete (j / 64) (t / 64)) [
    | yes e ↦ store_in m (t / 64) v j h e ∙ kept (j % 64) (g e) ∙ in_word m (t / 64) j e
    | no d ↦ store_off m (t / 64) v j d
  ]

  made_chunk : Made b m (set m (t / 64) v) t (t + n)
  made_chunk =
      let lo = t % 64 in
      record {
        long = length-set m (t / 64) v;
        before = λ j a. out j (λ e. block_low lo n (j % 64) (omega arith));
        inside = λ j a b. store_in m (t / 64) v j h (omega arith) ∙ new (j % 64) (block_in lo n (j % 64) (omega arith) (omega arith));
        after = λ j a. out j (λ e. block_high lo n (j % 64) (omega arith));
      }

-- ---- one range after the other

pub made_none : (b : ℕ) (m : List ℕ) (s : ℕ) → Made b m m s s
made_none b m s = record { long = refl; before = λ t a. refl; inside = λ t a b. absurd (omega arith); after = λ t a. refl }

pub made_more : (b : ℕ) (m m' m'' : List ℕ) (s t e : ℕ) → s ≤ t → t ≤ e → Made b m m' s t → Made b m' m'' t e → Made b m m'' s e
made_more b m m' m'' s t e a c p q = record {
  long = q.long ∙ p.long;
  before = λ j g. q.before j (omega arith) ∙ p.before j g;
  inside = λ j g k. ⊎_elim (λ c. q.inside j c k) (λ c. q.before j c ∙ p.inside j g c) (le_or_lt t j);
  after = λ j g. q.after j g ∙ p.after j (omega arith);
}

-- ---- taking

module _ (m : List ℕ) (t n : ℕ) (h : t / 64 < length m) (k : t % 64 + n ≤ 64) where
  pub all_free_lem : bit_and (get_or m (t / 64) 0) (mask t n) ≡ mask t n → AllFree m t (t + n)
  unfolding free_bit
  all_free_lem z j a b =
      let w : j / 64 ≡ t / 64 = omega arith in
      let x = get_or m (t / 64) 0 in
      let p = j % 64 in
      let e : bit_at (bit_and x (mask t n)) p ≡ bit_at (mask t n) p = ap (λ (y : ℕ). bit_at y p) z in
      let one = block_in (t % 64) n p (omega arith) (omega arith) in
      rw w (omega (arith, and_bit x (mask t n) p))

  pub take_chunk : bit_and (get_or m (t / 64) 0) (mask t n) ≡ mask t n → Made 0 m (set m (t / 64) (bit_xor (get_or m (t / 64) 0) (mask t n))) t (t + n)
  take_chunk z =
      let x = get_or m (t / 64) 0 in
      made_chunk 0 m t n (bit_xor x (mask t n)) h k
      (λ p o. omega (arith, xor_bit x (mask t n) p))
      (λ p o. let e : bit_at (bit_and x (mask t n)) p ≡ bit_at (mask t n) p = ap (λ (y : ℕ). bit_at y p) z in omega (arith, xor_bit x (mask t n) p, and_bit x (mask t n) p))

  pub hit_chunk : (e : ℕ) → t + n ≤ e → (bit_and (get_or m (t / 64) 0) (mask t n) ≡ mask t n → ⊥) → Hit m t e
  unfolding free_bit
  hit_chunk e b z =
      let x = get_or m (t / 64) 0 in
      let lo = t % 64 in
      let r = lacks x (mask t n) (block_lt lo n (omega arith)) z in
      let p = r.0 in
      let pl = r.1 in
      let on = r.2 in
      let from : lo ≤ p = ⊎_elim (λ g. g) (λ g. absurd (omega (arith, block_low lo n p g))) (le_or_lt lo p) in
      let to : p < lo + n = ⊎_elim (λ g. absurd (omega (arith, block_high lo n p g))) (λ g. g) (le_or_lt (lo + n) p) in
      let j = 64 * (t / 64) + p in
      let w : j / 64 ≡ t / 64 = omega arith in
      let v : j % 64 ≡ p = omega arith in
      record { at = j; from = omega arith; below = omega arith; off = rw (w, v) r.3 }

  -- ---- giving

  pub give_chunk : Made 1 m (set m (t / 64) (bit_or (get_or m (t / 64) 0) (mask t n))) t (t + n)
  give_chunk =
      let x = get_or m (t / 64) 0 in
      made_chunk 1 m t n (bit_or x (mask t n)) h k (λ p o. omega (arith, or_bit x (mask t n) p)) (λ p o. omega (arith, or_bit x (mask t n) p))

-- ---- a word, whole

full_block : block 0 64 ≡ 0xffff_ffff_ffff_ffff
unfolding block
full_block = refl

pub word_hit : (m : List ℕ) (i e : ℕ) → i < length m → 64 * i + 64 ≤ e → get_or m i 0 < 2 ^ 64 → (get_or m i 0 ≡ 0xffff_ffff_ffff_ffff → ⊥) → Hit m (64 * i) e
word_hit m i e h l f n =
    let w : 64 * i / 64 ≡ i = omega arith in
    let o : 64 * i % 64 ≡ 0 = omega arith in
    let b : mask (64 * i) 64 ≡ 0xffff_ffff_ffff_ffff = ap (λ (x : ℕ). block x 64) o ∙ full_block in
    hit_chunk m (64 * i) 64 (omega arith) (omega arith) e l
    (λ z.
    let y : bit_and (get_or m i 0) 0xffff_ffff_ffff_ffff ≡ 0xffff_ffff_ffff_ffff = ap (λ (x : ℕ). bit_and (get_or m x 0) 0xffff_ffff_ffff_ffff) (sym w) ∙ ap (bit_and (get_or m (64 * i / 64) 0)) (sym b) ∙ z ∙ b in
    n (omega (arith, and_le_l (get_or m i 0) 0xffff_ffff_ffff_ffff)))

-- ---- words lent

-- `&map[w..w + n]` is lent
pub lent_word : (m : List ℕ) (w n i : ℕ) → i < n → get_or (take n (drop w m)) i 0 ≡ get_or m (w + i) 0
lent_word m w n i h = get_or-take n (drop w m) i 0 h ∙ get_or-drop w m i 0

pub lent_long : (m : List ℕ) (w n : ℕ) → w + n ≤ length m → length (take n (drop w m)) ≡ n
lent_long m w n h = length-take n (drop w m) ∙ omega (arith, length-drop w m)

-- ---- the words from w up to v, lent to be written: what stands in the map when they are given back

module _ (m ys : List ℕ) (w v : ℕ) (h : w ≤ v) (l : v ≤ length m) (q : length ys ≡ v - w) where
  abbrev written : List ℕ
  written = put_mid w (v - w) m ys

  long_written : length written ≡ length m
  long_written =
      length-append (take w m) (ys ++ drop (v - w) (drop w m))
      ∙ omega (arith, length-take w m, length-append ys (drop (v - w) (drop w m)), length-drop (v - w) (drop w m), length-drop w m)

  written_in : (i : ℕ) → w ≤ i → i < v → get_or written i 0 ≡ get_or ys (i - w) 0
  written_in i a b = search (rules, places)

  written_off : (i : ℕ) → (w ≤ i → i < v → ⊥) → get_or written i 0 ≡ get_or m i 0
  written_off i n = ⊎_elim (λ a. ⊎_elim (λ b. search (rules, places)) (λ b. absurd (n a b)) (le_or_lt v i)) (λ a. search (rules, places)) (le_or_lt w i)

  written_bit : (j : ℕ) → (w ≤ j / 64 → j / 64 < v → ⊥) → free_bit written j ≡ free_bit m j
  written_bit j n =
      sym (in_word written (j / 64) j refl) ∙ ap (λ (x : ℕ). bit_at x (j % 64)) (written_off (j / 64) n) ∙ in_word m (j / 64) j refl

-- taken one after the other: xs lent, the first i are done
pub record Swept (xs ys : List ℕ) (i : ℕ) : Type 0 where
  pub full : (k : ℕ) → k < i → get_or xs k 0 ≡ 0xffff_ffff_ffff_ffff
  pub clear : (k : ℕ) → k < i → get_or ys k 0 ≡ 0
  pub rest : (k : ℕ) → i ≤ k → get_or ys k 0 ≡ get_or xs k 0

pub swept_none : (xs : List ℕ) → Swept xs xs 0
swept_none xs = record { full = λ k u. absurd (omega arith); clear = λ k u. absurd (omega arith); rest = λ k u. refl }

pub swept_more : (xs ys : List ℕ) (i : ℕ) → i < length ys → get_or ys i 0 ≡ 0xffff_ffff_ffff_ffff → Swept xs ys i → Swept xs (set ys i 0) (i + 1)
swept_more xs ys i h e s = record {
  full = λ k u. elim (ℕ_discrete k i) [ yes q ↦ rw q (sym (s.rest i (omega arith)) ∙ e) | no q ↦ s.full k (omega arith) ];
  clear = λ k u. elim (ℕ_discrete k i) [ yes q ↦ rw q (get_or-set_same ys i 0 0 h) | no q ↦ get_or-set_other ys i k 0 0 q ∙ s.clear k (omega arith) ];
  rest = λ k u. get_or-set_other ys i k 0 0 (λ q. absurd (omega arith)) ∙ s.rest k (omega arith);
}

module _ (m ys : List ℕ) (w v i : ℕ) (h : w ≤ v) (l : v ≤ length m) (q : length ys ≡ v - w) (s : Swept (take (v - w) (drop w m)) ys i) where
  swept_free : v - w ≤ i → AllFree m (64 * w) (64 * v)
  swept_free k j a b =
      let e : w + (j / 64 - w) ≡ j / 64 = omega arith in
      let f : get_or m (j / 64) 0 ≡ 0xffff_ffff_ffff_ffff = rw (← e, ← lent_word m w (v - w) (j / 64 - w) (omega arith)) (s.full (j / 64 - w) (omega arith)) in
      sym (in_word m (j / 64) j refl) ∙ rw f (all_ones (j % 64) (omega arith))

  swept_made : v - w ≤ i → Made 0 m (written m ys w v h l q) (64 * w) (64 * v)
  swept_made k = record {
    long = long_written m ys w v h l q;
    before = λ j a. written_bit m ys w v h l q j (λ b c. absurd (omega arith));
    inside = λ j a b.
        let f : get_or (written m ys w v h l q) (j / 64) 0 ≡ 0 = written_in m ys w v h l q (j / 64) (omega arith) (omega arith) ∙ s.clear (j / 64 - w) (omega arith) in
        sym (in_word (written m ys w v h l q) (j / 64) j refl) ∙ ap (λ (x : ℕ). bit_at x (j % 64)) f ∙ zero_bit (j % 64);
    after = λ j a. written_bit m ys w v h l q j (λ b c. absurd (omega arith));
  }

  pub swept_all : v - w ≤ i → Taken m (put_mid w (v - w) m ys) (64 * w) (64 * v) true
  swept_all k = record { long = long_written m ys w v h l q; were = λ _. swept_free k; made = λ _. swept_made k; hit = λ r. clash refl r }

  -- one is not free
  pub swept_hit : (x : ℕ) → i < v - w → get_or ys i 0 < 2 ^ 64 → (get_or ys i 0 ≡ 0xffff_ffff_ffff_ffff → ⊥) → Taken m (put_mid w (v - w) m (set ys i x)) (64 * w) (64 * v) false
  swept_hit x k f n =
      let e : get_or ys i 0 ≡ get_or m (w + i) 0 = s.rest i (omega arith) ∙ lent_word m w (v - w) i k in
      let t = word_hit m (w + i) (64 * v) (omega arith) (omega arith) (rw (← e) f) (λ z. n (e ∙ z)) in
      let a = t.from in
      record {
        long = long_written m (set ys i x) w v h l (length-set ys i x ∙ q);
        were = λ r. clash r refl;
        made = λ r. clash r refl;
        hit = λ _. record { at = t.at; from = omega arith; below = t.below; off = t.off };
      }

-- ---- the first tracks and the last, then those between

module _ (m m₁ m₂ : List ℕ) (s a b e : ℕ) (l : s ≤ a) (g : a ≤ b) (h : b ≤ e) (x : Made 0 m m₁ s a) (y : Made 0 m₁ m₂ b e) where
  -- a track between is as it was
  between : (t : ℕ) → a ≤ t → t < b → free_bit m₂ t ≡ free_bit m t
  between t u v = y.before t v ∙ x.after t u

  ends_taken : (m₃ : List ℕ) → Made 0 m₂ m₃ a b → Made 0 m m₃ s e
  ends_taken m₃ z = record {
    long = z.long ∙ y.long ∙ x.long;
    before = λ t u. z.before t (omega arith) ∙ y.before t (omega arith) ∙ x.before t u;
    inside = λ t u v.
        ⊎_elim
        (λ c. ⊎_elim (λ d. z.after t d ∙ y.inside t d v) (λ d. z.inside t c d) (le_or_lt b t))
        (λ c. z.before t c ∙ y.before t (omega arith) ∙ x.inside t u c)
        (le_or_lt a t);
    after = λ t u. z.after t (omega arith) ∙ y.after t u ∙ x.after t (omega arith);
  }

  pub taken_between : AllFree m s a → AllFree m₁ b e → (m₃ : List ℕ) (r : Bool) → Taken m₂ m₃ a b r → Taken m m₃ s e r
  taken_between p q m₃ r z = record {
    long = z.long ∙ y.long ∙ x.long;
    were = λ o t u v.
        ⊎_elim
        (λ c. ⊎_elim (λ d. sym (x.after t c) ∙ q t d v) (λ d. sym (between t c d) ∙ z.were o t c d) (le_or_lt b t))
        (λ c. p t u c)
        (le_or_lt a t);
    made = λ o. ends_taken m₃ (z.made o);
    hit = λ o.
        let k = z.hit o in
        let f = k.from in
        let d = k.below in
        record { at = k.at; from = omega arith; below = omega arith; off = sym (between k.at f d) ∙ k.off };
  }

-- ---- tracks that do not lie in one word

module _ (m : List ℕ) (s e a b : ℕ) (u : s < e) (c : s / 64 < (e - 1) / 64) (room : e ≤ 64 * length m) (ea : a ≡ block (s % 64) (64 - s % 64))
    (eb : b ≡ block 0 ((e - 1) % 64 + 1)) where
  abbrev w : ℕ
  w = s / 64

  abbrev v : ℕ
  v = (e - 1) / 64

  abbrev x : ℕ
  x = get_or m w 0

  abbrev y : ℕ
  y = get_or m v 0

  abbrev m₁ : List ℕ
  m₁ = set m w (bit_xor x a)

  first_ends : s + (64 - s % 64) ≡ 64 * (w + 1)
  first_ends = omega arith

  last_ends : 64 * v + ((e - 1) % 64 + 1) ≡ e
  last_ends = omega arith

  last_word : 64 * v / 64 ≡ v
  last_word = omega arith

  last_mask : mask (64 * v) ((e - 1) % 64 + 1) ≡ b
  last_mask = let o : 64 * v % 64 ≡ 0 = omega arith in ap (λ (i : ℕ). block i ((e - 1) % 64 + 1)) o ∙ sym eb

  -- the last word is not the first
  y_stays : get_or m₁ v 0 ≡ y
  y_stays = get_or-set_other m w v (bit_xor x a) 0 (λ z. absurd (omega arith))

  -- a test of the last word, where the number of the word is 64 * v / 64
  last_is : (k : List ℕ) → get_or k v 0 ≡ y → bit_and y b ≡ b → bit_and (get_or k (64 * v / 64) 0) (mask (64 * v) ((e - 1) % 64 + 1)) ≡ mask (64 * v) ((e - 1) % 64 + 1)
  last_is k q z = rw (last_word, last_mask, q) z

  pub far_hit : (bit_or (bit_xor (bit_and x a) a) (bit_xor (bit_and y b) b) ≡ 0 → ⊥) → Hit m s e
  far_hit n =
      elim (ℕ_discrete (bit_and x a) a) [
        | no p ↦ hit_chunk m s (64 - s % 64) (omega arith) (omega arith) e (omega arith) (λ z. p (rw ea z))
        | yes p ↦
            elim (ℕ_discrete (bit_and y b) b) [
              | no q ↦
                  let h = hit_chunk m (64 * v) ((e - 1) % 64 + 1) (omega arith) (omega arith) e (omega arith) (λ z. q (rw (last_word, last_mask) at z)) in
                  let f = h.from in
                  record { at = h.at; from = omega arith; below = h.below; off = h.off }
              | yes q ↦ absurd (n (rw (p, q, xor_self a, xor_self b)))
            ]
      ]

  module _ (z : bit_or (bit_xor (bit_and x a) a) (bit_xor (bit_and y b) b) ≡ 0) where
    one : bit_and x a ≡ a
    one = xor_none (bit_and x a) a (or_none_lem (bit_xor (bit_and x a) a) (bit_xor (bit_and y b) b) z).0

    other : bit_and y b ≡ b
    other = xor_none (bit_and y b) b (or_none_lem (bit_xor (bit_and x a) a) (bit_xor (bit_and y b) b) z).1

    first_free : AllFree m s (64 * (w + 1))
    first_free = subst (AllFree m s) first_ends (all_free_lem m s (64 - s % 64) (omega arith) (omega arith) (rw ea at one))

    first_made : Made 0 m m₁ s (64 * (w + 1))
    first_made = subst (Made 0 m m₁ s) first_ends (rw ea (take_chunk m s (64 - s % 64) (omega arith) (omega arith) (rw ea at one)))

    long₁ : length m₁ ≡ length m
    long₁ = length-set m w (bit_xor x a)

    last_free : AllFree m₁ (64 * v) e
    last_free = subst (AllFree m₁ (64 * v)) last_ends (all_free_lem m₁ (64 * v) ((e - 1) % 64 + 1) (let l = long₁ in omega arith) (omega arith) (last_is m₁ y_stays other))

    last_made : Made 0 m₁ (set m₁ v (bit_xor y b)) (64 * v) e
    last_made =
        let k = take_chunk m₁ (64 * v) ((e - 1) % 64 + 1) (let l = long₁ in omega arith) (omega arith) (last_is m₁ y_stays other) in
        subst (Made 0 m₁ (set m₁ v (bit_xor y b)) (64 * v)) last_ends (rw (last_word, last_mask, y_stays) at k)

    pub far_took : (m₃ : List ℕ) (r : Bool) → Taken (set m₁ v (bit_xor y b)) m₃ (64 * (w + 1)) (64 * v) r → Taken m m₃ s e r
    far_took m₃ r t =
        taken_between m m₁ (set m₁ v (bit_xor y b)) s (64 * (w + 1)) (64 * v) e (omega arith) (omega arith) (omega arith) first_made last_made first_free last_free m₃ r t

-- ---- words of zeros, or of ones where b is false

plain_bit : (b : Bool) (i : ℕ) → i < 64 → bit_at (flipped b 0) i ≡ 1 - bit b
unfolding flipped
plain_bit true i h = zero_bit i
plain_bit false i h = let n = not_bit 0 i h in let z = zero_bit i in omega arith

pub plain_tracks : (m : List ℕ) (b : Bool) (p w v : ℕ) → p ≡ flipped b 0 → WordsAlike m p w v → (j : ℕ) → 64 * w ≤ j → j < 64 * v → free_bit m j ≡ 1 - bit b
unfolding free_bit
plain_tracks m b p w v q h j u z = rw (h (j / 64) (omega arith) (omega arith), q) (plain_bit b (j % 64) (omega arith))

-- ---- words alike

module _ (m : List ℕ) (p w : ℕ) where
  pub alike_more : (r : ℕ) → WordsAlike m p w r → get_or m r 0 ≡ p → WordsAlike m p w (r + 1)
  alike_more r h e i u v = elim (ℕ_discrete i r) [ yes q ↦ rw q e | no q ↦ h i u (omega arith) ]

  -- those lent from word w on differ from p in no bit
  pub alike_turn : (n i x : ℕ) → i < n → (x ≡ 0 → WordsAlike m p w (w + i)) → bit_or x (bit_xor (get_or (take n (drop w m)) i 0) p) ≡ 0 → WordsAlike m p w (w + (i + 1))
  alike_turn n i x l h z j u v =
      let b = or_none_lem x (bit_xor (get_or (take n (drop w m)) i 0) p) z in
      let e : get_or m (w + i) 0 ≡ p = sym (lent_word m w n i l) ∙ xor_none (get_or (take n (drop w m)) i 0) p b.1 in
      alike_more (w + i) (h b.0) e j u (omega arith)

  pub alike_four : (r : ℕ) → WordsAlike m p w r
      → bit_or (bit_or (bit_xor (get_or m r 0) p) (bit_xor (get_or m (r + 1) 0) p)) (bit_or (bit_xor (get_or m (r + 2) 0) p) (bit_xor (get_or m (r + 3) 0) p)) ≡ 0
      → WordsAlike m p w (r + 4)
  alike_four r h z =
      let both = or_none_lem (bit_or (bit_xor (get_or m r 0) p) (bit_xor (get_or m (r + 1) 0) p)) (bit_or (bit_xor (get_or m (r + 2) 0) p) (bit_xor (get_or m (r + 3) 0) p)) z in
      let low = or_none_lem (bit_xor (get_or m r 0) p) (bit_xor (get_or m (r + 1) 0) p) both.0 in
      let high = or_none_lem (bit_xor (get_or m (r + 2) 0) p) (bit_xor (get_or m (r + 3) 0) p) both.1 in
      let one = alike_more r h (xor_none _ p low.0) in
      let two : WordsAlike m p w (r + 2) = λ i u v. alike_more (r + 1) one (xor_none _ p low.1) i u (omega arith) in
      let three : WordsAlike m p w (r + 3) = λ i u v. alike_more (r + 2) two (xor_none _ p high.0) i u (omega arith) in
      λ i u v. alike_more (r + 3) three (xor_none _ p high.1) i u (omega arith)

  alike_on : (e v : ℕ) → WordsAlike m p w v → WordsAlike m p v e → WordsAlike m p w e
  alike_on e v h q i u z = ⊎_elim (λ k. q i k z) (λ k. h i u k) (le_or_lt v i)

  pub unlike_on : (e v : ℕ) (o : Option ℕ) → w ≤ v → WordsAlike m p w v → MatchOption o (WordsAlike m p v e) (FirstUnlike m p v e)
      → MatchOption o (WordsAlike m p w e) (FirstUnlike m p w e)
  unlike_on e v None f h q = alike_on e v h q
  unlike_on e v (Some r) f h q =
      let g = q.from in
      record { from = omega arith; to = q.to; before = alike_on r v h q.before; unlike = q.unlike }

-- ---- the map at the beginning

-- k words of ones cover n tracks
pub freed : (m s : List ℕ) (k n : ℕ) → k ≤ length m → n ≤ 64 * k → s ≡ replicate (length (take k m)) 0xffff_ffff_ffff_ffff → FreedBelow m (s ++ drop k m) n
freed m s k n h l e =
    let long : length s ≡ k = ap length e ∙ length-replicate (length (take k m)) 0xffff_ffff_ffff_ffff ∙ length-take k m ∙ omega arith in
    record {
      long = length-append s (drop k m) ∙ omega (arith, length-drop k m);
      below = λ t u.
          let w : t / 64 < length s = omega arith in
          let v : t / 64 < length (take k m) = omega (arith, length-take k m) in
          let q : get_or (s ++ drop k m) (t / 64) 0 ≡ 0xffff_ffff_ffff_ffff =
          get_or-append s (drop k m) 0 (t / 64) w ∙ rw e (get_or-replicate (length (take k m)) (t / 64) 0xffff_ffff_ffff_ffff 0 v) in
          sym (in_word (s ++ drop k m) (t / 64) t refl) ∙ rw q (all_ones (t % 64) (omega arith));
    }

-- ---- tracks that lie in one word

module _ (m : List ℕ) (s e q : ℕ) (h : s / 64 < length m) (u : s < e) (k : s % 64 + (e - s) ≤ 64) (is : q ≡ mask s (e - s)) where
  ends : s + (e - s) ≡ e
  ends = omega arith

  as_mask : bit_and (get_or m (s / 64) 0) q ≡ q → bit_and (get_or m (s / 64) 0) (mask s (e - s)) ≡ mask s (e - s)
  as_mask z = ap (bit_and (get_or m (s / 64) 0)) (sym is) ∙ z ∙ is

  pub took_word : bit_and (get_or m (s / 64) 0) q ≡ q → Taken m (set m (s / 64) (bit_xor (get_or m (s / 64) 0) q)) s e true
  took_word z = record {
    long = length-set m (s / 64) (bit_xor (get_or m (s / 64) 0) q);
    were = λ _. subst (AllFree m s) ends (all_free_lem m s (e - s) h k (as_mask z));
    made = λ _. subst (λ (y : ℕ). Made 0 m (set m (s / 64) (bit_xor (get_or m (s / 64) 0) y)) s e) (sym is)
        (subst (Made 0 m (set m (s / 64) (bit_xor (get_or m (s / 64) 0) (mask s (e - s)))) s) ends (take_chunk m s (e - s) h k (as_mask z)));
    hit = λ r. clash refl r;
  }

  pub took_none : (bit_and (get_or m (s / 64) 0) q ≡ q → ⊥) → Taken m m s e false
  took_none z = record {
    long = refl;
    were = λ r. clash r refl;
    made = λ r. clash r refl;
    hit = λ _. hit_chunk m s (e - s) h k e (omega arith) (λ y. z (ap (bit_and (get_or m (s / 64) 0)) is ∙ y ∙ sym is));
  }

  pub gave_word : Made 1 m (set m (s / 64) (bit_or (get_or m (s / 64) 0) q)) s e
  gave_word =
      subst (λ (y : ℕ). Made 1 m (set m (s / 64) (bit_or (get_or m (s / 64) 0) y)) s e) (sym is)
      (subst (Made 1 m (set m (s / 64) (bit_or (get_or m (s / 64) 0) (mask s (e - s)))) s) ends (give_chunk m s (e - s) h k))
