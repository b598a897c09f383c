-- Runs that leave their word: words passed over, the first free track, the first behind it that is not. Assumes nothing.
use mathlib.Core.Path.{◌≡◌, refl, sym, ap, ◌∙◌}
use mathlib.Core.Bool.{true, false}
use mathlib.Core.Logic.{⊎_elim}
use mathlib.Core.List.{List}
use Prim.Native.Nat.{ℕ, ◌+◌, ◌-◌, ◌*◌, ◌/◌, ◌%◌, ◌^◌, ◌≤◌, ◌<◌}
use native.Mathlib.Nat.{le_refl}
use native.Mathlib.Omega.{arith}
use lib.Bits.{bit_and, bit_or}
use lib.Count.{count_trailing_zeros}
use lib.ListN.{get_or}
use Rattle.bitmap.specs.Map.{NextRun, bit_at, free_bit}
use Rattle.bitmap.specs.Steps.{Ending, First, RestOfWord, FirstUnlike, NoneFree, Word, WordsAlike}
use Rattle.bitmap.proofs.Bits.{all_ones, and_bit, le_or_lt, one_less, trailing_one, trailing_small, trailing_zero, zero_bit}
use Rattle.bitmap.proofs.Near.{filled_high, rest_none, upto_start}
use Rattle.bitmap.proofs.Walk.{next_run_law}
use Rattle.bitmap.proofs.Words.{in_word}

-- ---- the word of the first free track

pub word_own : (m : List ℕ) (n t e x : ℕ) → t / 64 < e → (x ≡ 0 → ⊥) → RestOfWord m n t x → Word m n t e (t / 64) x
word_own m n t e x l s r =
    record {
      part = record { clear = λ j h. r.clear j (omega arith); shown = r.shown };
      before = λ i u v w. absurd (omega arith);
      to = l;
      some = s;
    }

-- or one behind it
module _ (m : List ℕ) (n t e x : ℕ) (z : x ≡ 0) (r : RestOfWord m n t x) where
  zeros : (v : ℕ) → WordsAlike m 0 (t / 64 + 1) v → (i : ℕ) → t ≤ i → i < n → i < 64 * v → free_bit m i ≡ 0
  zeros v p i u l h =
      ⊎_elim
      (λ g. sym (in_word m (i / 64) i refl) ∙ ap (λ (y : ℕ). bit_at y (i % 64)) (p (i / 64) g (omega arith)) ∙ zero_bit (i % 64))
      (λ g. sym (r.shown i u l (omega arith)) ∙ ap (λ (y : ℕ). bit_at y (i % 64)) z ∙ zero_bit (i % 64))
      (le_or_lt (t / 64 + 1) (i / 64))

  pub word_later : (v : ℕ) → FirstUnlike m 0 (t / 64 + 1) e v → Word m n t e v (get_or m v 0)
  word_later v p =
      let f = p.from in
      record {
        part = record { clear = λ j g. absurd (omega arith); shown = λ i u l g. in_word m v i g };
        before = zeros v p.before;
        to = p.to;
        some = p.unlike;
      }

  pub word_none : n ≤ 64 * e → WordsAlike m 0 (t / 64 + 1) e → NoneFree m t n
  word_none k p i u l = zeros e p i u l (omega arith)

-- ---- the first free track

pub no_run : (m : List ℕ) (n t : ℕ) → First m true t n n → NextRun m n t n n × RestOfWord m n n 0
no_run m n t f = (
  next_run_law m n t n n f
      (record { from = le_refl n; to = le_refl n; before = λ i u v. absurd (omega arith); here = λ h. absurd (omega arith) }),
  rest_none m n n (le_refl n),
)

-- the run is from track `from` up to `to`
pub run_is : (m : List ℕ) (n t a from to x : ℕ) → First m true t n a → from ≡ a → First m false a n to × RestOfWord m n to x → NextRun m n t from to × RestOfWord m n to x
run_is m n t a from to x f e s = (rw e (next_run_law m n t a to f s.0), s.1)

pub first_end : (m : List ℕ) (n t : ℕ) → n ≤ t → t ≤ n → First m true t n n
first_end m n t h l = record { from = l; to = le_refl n; before = λ i u v. absurd (omega arith); here = λ g. absurd (omega arith) }

pub first_none : (m : List ℕ) (n t : ℕ) → NoneFree m t n → t ≤ n → First m true t n n
first_none m n t p l = record { from = l; to = le_refl n; before = p; here = λ g. absurd (omega arith) }

module _ (m : List ℕ) (n t e w y : ℕ) (p : Word m n t e w y) (fits : y < 2 ^ 64) where
  abbrev start : ℕ
  start = count_trailing_zeros 64 y

  start_lt : start < 64
  start_lt = trailing_small 64 y fits p.some

  from_t : t ≤ 64 * w + start
  from_t =
      ⊎_elim
      (λ g. g)
      (λ g. absurd (omega (arith, p.part.clear start g, trailing_one 64 y start_lt)))
      (le_or_lt t (64 * w + start))

  before_run : (i : ℕ) → t ≤ i → i < n → i < 64 * w + start → free_bit m i ≡ 0
  before_run i u l h =
      let s = start_lt in
      ⊎_elim (λ g. sym (p.part.shown i u l (omega arith)) ∙ trailing_zero 64 y (i % 64) (omega arith)) (λ g. p.before i u l g) (le_or_lt (64 * w) i)

  pub first_on : 64 * w + start < n → First m true t n (64 * w + start)
  first_on h =
      let s = start_lt in
      let q : (64 * w + start) % 64 ≡ start = omega arith in
      record {
        from = from_t;
        to = omega arith;
        before = λ i u v. before_run i u (omega arith) v;
        here = λ _. sym (p.part.shown (64 * w + start) from_t h (omega arith)) ∙ ap (bit_at y) q ∙ trailing_one 64 y start_lt;
      }

  pub first_off : n ≤ 64 * w + start → t ≤ n → First m true t n n
  first_off h l = record { from = l; to = le_refl n; before = λ i u v. before_run i u v (omega arith); here = λ g. absurd (omega arith) }

  -- ---- the run ends in the word in which it starts,

  pub ending_own : Ending m n (64 * w + start) w y (bit_or y (y - 1))
  ending_own =
      let f = from_t in
      record {
        before = λ i u v h. absurd (omega arith);
        shown = λ i u v h. p.part.shown i (omega arith) v h;
        same = λ j h. filled_high y p.some fits j (omega arith);
        filled = λ j h. upto_start y p.some fits j (omega arith);
      }

  -- or in a later one: all tracks of the words between are free

  module _ (full : bit_or y (y - 1) ≡ 0xffff_ffff_ffff_ffff) where
    ones : (v : ℕ) → WordsAlike m 0xffff_ffff_ffff_ffff (w + 1) v → (i : ℕ) → 64 * w + start ≤ i → i < n → i < 64 * v → free_bit m i ≡ 1
    ones v q i u l h =
        let f = from_t in
        ⊎_elim
        (λ g. sym (in_word m (i / 64) i refl) ∙ ap (λ (x : ℕ). bit_at x (i % 64)) (q (i / 64) g (omega arith)) ∙ all_ones (i % 64) (omega arith))
        (λ g.
        sym (p.part.shown i (omega arith) l (omega arith)) ∙ sym (filled_high y p.some fits (i % 64) (omega arith))
        ∙ ap (λ (x : ℕ). bit_at x (i % 64)) full ∙ all_ones (i % 64) (omega arith))
        (le_or_lt (w + 1) (i / 64))

    pub ending_later : (v : ℕ) → FirstUnlike m 0xffff_ffff_ffff_ffff (w + 1) e v → Ending m n (64 * w + start) v (get_or m v 0) (get_or m v 0)
    ending_later v q =
        let s = start_lt in
        let f = q.from in
        record {
          before = ones v q.before;
          shown = λ i u l h. in_word m v i h;
          same = λ j h. refl;
          filled = λ j h. absurd (omega arith);
        }

    pub ending_none : WordsAlike m 0xffff_ffff_ffff_ffff (w + 1) e → n ≤ 64 * e → 64 * w + start < n → First m false (64 * w + start) n n
    ending_none q k l = record { from = omega arith; to = le_refl n; before = λ i u g. ones e q i u g (omega arith); here = λ g. absurd (omega arith) }

-- ---- the first track that is not free, by one more

module _ (m : List ℕ) (n a w y low : ℕ) (d : Ending m n a w y low) (fits : low < 2 ^ 64) (gap : low ≡ 0xffff_ffff_ffff_ffff → ⊥) where
  abbrev z : ℕ
  z = low + 1

  abbrev stop : ℕ
  stop = count_trailing_zeros 64 z

  stop_lt : stop < 64
  stop_lt = trailing_small 64 z (omega arith) (λ e. absurd (omega arith))

  ends : (j : ℕ) → (j < stop → bit_at low j ≡ 1) × (j ≡ stop → bit_at low j ≡ 0) × (stop < j → bit_at low j ≡ bit_at z j)
  ends = one_less stop low z refl (trailing_zero 64 z) (trailing_one 64 z stop_lt)

  from_a : a ≤ 64 * w + stop
  from_a = ⊎_elim (λ g. g) (λ g. absurd (omega (arith, d.filled stop g, (ends stop).1 refl))) (le_or_lt a (64 * w + stop))

  run_on : (i : ℕ) → a ≤ i → i < n → i < 64 * w + stop → free_bit m i ≡ 1
  run_on i u l h =
      let s = stop_lt in
      ⊎_elim
      (λ g. sym (d.shown i u l (omega arith)) ∙ sym (d.same (i % 64) (omega arith)) ∙ (ends (i % 64)).0 (omega arith))
      (λ g. d.before i u l g)
      (le_or_lt (64 * w) i)

  off : bit_at y stop ≡ 0
  off = sym (d.same stop from_a) ∙ (ends stop).1 refl

  pub stop_first : 64 * w + stop < n → First m false a n (64 * w + stop)
  stop_first h =
      let s = stop_lt in
      let q : (64 * w + stop) % 64 ≡ stop = omega arith in
      record {
        from = from_a;
        to = omega arith;
        before = λ i u v. run_on i u (omega arith) v;
        here = λ _. sym (d.shown (64 * w + stop) from_a h (omega arith)) ∙ ap (bit_at y) q ∙ off;
      }

  pub stop_end : n ≤ 64 * w + stop → a < n → First m false a n n
  stop_end h l = record { from = omega arith; to = le_refl n; before = λ i u v. run_on i u v (omega arith); here = λ g. absurd (omega arith) }

  left : (j : ℕ) → stop ≤ j → bit_at (bit_and y z) j ≡ bit_at y j
  left j h =
      let f = from_a in
      ⊎_elim
      (λ g. let q : stop ≡ j = omega arith in let o : bit_at y j ≡ 0 = ap (bit_at y) (sym q) ∙ off in omega (arith, and_bit y z j))
      (λ g. omega (arith, and_bit y z j, (ends j).2 g, d.same j (omega arith)))
      (le_or_lt j stop)

  pub stop_rest : RestOfWord m n (64 * w + stop) (bit_and y z)
  stop_rest =
      let s = stop_lt in
      let f = from_a in
      record {
        clear = λ j h. omega (arith, and_bit y z j, trailing_zero 64 z j (omega arith));
        shown = λ i u v h. left (i % 64) (omega arith) ∙ d.shown i (omega arith) v (omega arith);
      }
