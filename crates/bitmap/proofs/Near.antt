-- Runs that end within one word, the rest of a track's own. Assumes nothing.
use mathlib.Core.Path.{◌≡◌, refl, sym, ap, ◌∙◌, subst}
use mathlib.Core.Logic.{⊎_elim}
use mathlib.Core.List.{List}
use Prim.Native.Nat.{ℕ, ◌+◌, ◌-◌, ◌*◌, ◌/◌, ◌%◌, ◌^◌, ◌≤◌, ◌<◌}
use native.Mathlib.Nat.{le_refl}
use native.Mathlib.Omega.{arith}
use lib.ListN.{get_or, length, take}
use lib.Seq.{take_all}
use lib.Bits.{bit_and, bit_or, or_lt}
use lib.Count.{count_trailing_zeros}
use Rattle.bitmap.specs.Map.{NextRun, bit_at, free_bit}
use Rattle.bitmap.specs.Steps.{RestOfWord}
use Rattle.bitmap.proofs.Bits.{all_ones, and_bit, le_or_lt, one_less, or_bit, trailing_one, trailing_small, trailing_zero, up_bit, up_low, zero_bit}
use Rattle.bitmap.proofs.Counting.{free_le}
use Rattle.bitmap.proofs.Walk.{next_run_law}
use Rattle.bitmap.proofs.Words.{in_word}

-- ---- the tracks from a track on, at their places in its word

pub rest_law : (m : List ℕ) (n t : ℕ) → RestOfWord m n t (bit_and (get_or m (t / 64) 0) (0xffff_ffff_ffff_ffff * 2 ^ (t % 64) % 2 ^ 64))
rest_law m n t =
    let x = get_or m (t / 64) 0 in
    let s = 0xffff_ffff_ffff_ffff * 2 ^ (t % 64) % 2 ^ 64 in
    record {
      clear = λ j h. omega (arith, and_bit x s j, up_low 0xffff_ffff_ffff_ffff (t % 64) j (omega arith) h);
      shown = λ i u v w.
          let k = i % 64 - t % 64 in
          let p : t % 64 + k ≡ i % 64 = omega arith in
          let o : bit_at s (i % 64) ≡ 1 = ap (bit_at s) (sym p) ∙ up_bit 0xffff_ffff_ffff_ffff (t % 64) k (omega arith) ∙ all_ones k (omega arith) in
          omega (arith, and_bit x s (i % 64), in_word m (t / 64) i w, free_le m i);
    }

pub rest_none : (m : List ℕ) (n t : ℕ) → n ≤ t → RestOfWord m n t 0
rest_none m n t h = record { clear = λ j u. zero_bit j; shown = λ i u v w. absurd (omega arith) }

-- ---- the first run of a word and its end, by one less and one more

module _ (x : ℕ) (some : x ≡ 0 → ⊥) (fits : x < 2 ^ 64) where
  -- x with ones below its first run
  abbrev pub filled : ℕ
  filled = bit_or x (x - 1)

  abbrev pub start : ℕ
  start = count_trailing_zeros 64 x

  pub start_lt : start < 64
  start_lt = trailing_small 64 x fits some

  less : (j : ℕ) → (j < start → bit_at (x - 1) j ≡ 1) × (j ≡ start → bit_at (x - 1) j ≡ 0) × (start < j → bit_at (x - 1) j ≡ bit_at x j)
  less = one_less start (x - 1) x (omega arith) (trailing_zero 64 x) (trailing_one 64 x start_lt)

  -- from the run on it is x
  pub filled_high : (j : ℕ) → start ≤ j → bit_at filled j ≡ bit_at x j
  filled_high j h =
      ⊎_elim (λ g. omega (arith, or_bit x (x - 1) j, (less j).1 (omega arith))) (λ g. omega (arith, or_bit x (x - 1) j, (less j).2 g)) (le_or_lt j start)

  pub upto_start : (j : ℕ) → j ≤ start → bit_at filled j ≡ 1
  upto_start j h =
      ⊎_elim
      (λ g. let e : start ≡ j = omega arith in ap (bit_at filled) (sym e) ∙ filled_high start (le_refl start) ∙ trailing_one 64 x start_lt)
      (λ g. omega (arith, or_bit x (x - 1) j, (less j).0 g))
      (le_or_lt start j)

  -- one more carries to the bit behind the run
  module _ (gap : bit_or x (x - 1) ≡ 0xffff_ffff_ffff_ffff → ⊥) where
    abbrev z : ℕ
    z = filled + 1

    abbrev stop : ℕ
    stop = count_trailing_zeros 64 z

    pub more_fits : z < 2 ^ 64
    more_fits = omega (arith, or_lt 64 x (x - 1) fits (omega arith))

    pub stop_lt : stop < 64
    stop_lt = trailing_small 64 z more_fits (λ e. absurd (omega arith))

    ends : (j : ℕ) → (j < stop → bit_at filled j ≡ 1) × (j ≡ stop → bit_at filled j ≡ 0) × (stop < j → bit_at filled j ≡ bit_at z j)
    ends = one_less stop filled z refl (trailing_zero 64 z) (trailing_one 64 z stop_lt)

    start_stop : start < stop
    start_stop =
        ⊎_elim
        (λ g. absurd (omega (arith, (ends stop).1 refl, upto_start stop g)))
        (λ g. g)
        (le_or_lt stop start)

    run_in : (j : ℕ) → start ≤ j → j < stop → bit_at x j ≡ 1
    run_in j u v = sym (filled_high j u) ∙ (ends j).0 v

    run_end : bit_at x stop ≡ 0
    run_end = let s = start_stop in sym (filled_high stop (omega arith)) ∙ (ends stop).1 refl

    left_low : (j : ℕ) → j < stop → bit_at (bit_and x z) j ≡ 0
    left_low j h = omega (arith, and_bit x z j, trailing_zero 64 z j h)

    left_high : (j : ℕ) → stop ≤ j → bit_at (bit_and x z) j ≡ bit_at x j
    left_high j h =
        let s = start_stop in
        ⊎_elim
        (λ g.
        let e : stop ≡ j = omega arith in
        let o : bit_at x j ≡ 0 = ap (bit_at x) (sym e) ∙ run_end in
        omega (arith, and_bit x z j))
        (λ g. omega (arith, and_bit x z j, (ends j).2 g, filled_high j (omega arith)))
        (le_or_lt j stop)

    module _ (m : List ℕ) (n t : ℕ) (seen : RestOfWord m n t x) (inside : t - t % 64 + stop < n) where
      -- no bit before track t is set
      from_t : t % 64 ≤ start
      from_t = ⊎_elim (λ g. g) (λ g. absurd (omega (arith, seen.clear start g, trailing_one 64 x start_lt))) (le_or_lt (t % 64) start)

      track : (i j : ℕ) → t % 64 ≤ j → j ≤ stop → t - t % 64 + j ≡ i → free_bit m i ≡ bit_at x j
      track i j u v e =
          let l = stop_lt in
          let p : i % 64 ≡ j = omega arith in
          sym (seen.shown i (omega arith) (omega arith) (omega arith)) ∙ ap (bit_at x) p

      pub run_here : NextRun m n t (t - t % 64 + start) (t - t % 64 + stop)
      run_here =
          let f = from_t in
          let s = start_stop in
          let b = t - t % 64 in
          next_run_law m n t (b + start) (b + stop)
          (record {
            from = omega arith;
            to = omega arith;
            before = λ i u v. track i (i - b) (omega arith) (omega arith) (omega arith) ∙ trailing_zero 64 x (i - b) (omega arith);
            here = λ _. track (b + start) start f (omega arith) refl ∙ trailing_one 64 x start_lt;
          })
          (record {
            from = omega arith;
            to = omega arith;
            before = λ i u v. track i (i - b) (omega arith) (omega arith) (omega arith) ∙ run_in (i - b) (omega arith) (omega arith);
            here = λ _. track (b + stop) stop (omega arith) (le_refl stop) refl ∙ run_end;
          })

      pub rest_here : RestOfWord m n (t - t % 64 + stop) (bit_and x z)
      rest_here =
          let f = from_t in
          let s = start_stop in
          let l = stop_lt in
          record {
            clear = λ j h. left_low j (omega arith);
            shown = λ i u v w. left_high (i % 64) (omega arith) ∙ seen.shown i (omega arith) v (omega arith);
          }

-- ---- the map lent on as a part of itself

whole : (m : List ℕ) → take (length m - 0) m ≡ m
whole m = take_all (length m - 0) m (omega arith)

pub map_lent : (m : List ℕ) (P : List ℕ → Type 0) → P m → P (take (length m - 0) m)
map_lent m P p = subst P (sym (whole m)) p

pub back : (m : List ℕ) (P : List ℕ → Type 0) → P (take (length m - 0) m) → P m
back m P p = subst P (whole m) p
