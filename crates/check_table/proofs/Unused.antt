-- Runs of free slots and the records in them; the highest label; the count against the model's unused slots. Assumes nothing.
use mathlib.Core.Path.{◌≡◌, refl, sym, ap, ◌∙◌, subst}
use mathlib.Core.Bool.{Bool, true, false, cond, ◌&&◌}
use mathlib.Core.Logic.{⊎_elim}
use mathlib.Core.List.{List, [], ◌∷◌, ◌++◌}
use Prim.Native.Nat.{ℕ, zero, suc, ◌+◌, ◌-◌, ◌*◌, ◌≤◌, ◌<◌}
use native.Mathlib.Nat.{le_refl}
use native.Mathlib.Decide.{ℕ_discrete}
use native.Mathlib.Omega.{arith}
use lib.Dec.{T, eqb}
use lib.ListN.{length, get_or, drop, take, replicate}
use lib.Seq.{drop-drop, take-add}
use borrow.Author.Tests.{eq-eqb, ne_eqb}
use Rattle.model.specs.Basics.{bit, filter, part, sum_of, up_from, zeros}
use Rattle.model.specs.Model.{Separate, covers, run, tally, times, total, unused}
use Rattle.model.proofs.Lists.{and_l, and_r, both, by, clash, is_true, true_is}
use Rattle.model.proofs.Runs.{below, bit_zero, hit_below, hit_in, runs_separate, runs_times, runs_total, sum_same}
use Rattle.bitmap.specs.Map.{NextRun, free_bit, free_from, is_free}
use Rattle.bitmap.proofs.Bits.{le_or_lt}
use Rattle.bitmap.proofs.Counting.{bit_of}
use Rattle.bitmap.proofs.Walk.{free_from_end, free_from_zero}
use Rattle.dscb.specs.Records.{slot_bytes}
use Rattle.rows.specs.Words.{all_are}
use Rattle.rows.proofs.Rows.{are_append, are→, →are}
use Rattle.dscb.proofs.Records.{length_part}
use Rattle.names.specs.Find.{is_label}
use Rattle.check_table.specs.Spare.{AllZero, ZeroBelow, highest_slot}

-- ---- what a run says of the bits

free_times : (m : List ℕ) (n s k : ℕ) → s ≤ k → k < n → times k (free_from m n s) ≡ free_bit m k
unfolding free_from
free_times m n s k u v = runs_times (is_free m) s (n - s) k u (omega arith) ∙ bit_of m k

free_separate : (m : List ℕ) (n s : ℕ) → Separate s (s + (n - s)) (free_from m n s)
unfolding free_from
free_separate m n s = runs_separate (is_free m) s (n - s)

module _ {m : List ℕ} {n s a b : ℕ} (r : NextRun m n s a b) where
  -- from s up to the run's end, the free ones are those of the run
  pub run_bits : (k : ℕ) → s ≤ k → k < b → free_bit m k ≡ bit (covers (run a (b - a)) k)
  run_bits k u v =
      let l = r.low in
      let h = r.high in
      let f = free_times m n s k u (omega arith) in
      ⊎_elim
      (λ w.
      let e : times k (free_from m n s) ≡ 0 = ap (times k) (r.done w) in
      let z = hit_below (run a (b - a)) k (omega arith) in
      omega arith)
      (λ w.
      let e : times k (free_from m n s) ≡ bit (covers (run a (b - a)) k) + times k (free_from m n b) = ap (times k) (r.more w).1 in
      let z = below b (b + (n - b)) (free_from m n b) k (free_separate m n b) v in
      omega arith)
      (le_or_lt n a)

  pub run_total : total (free_from m n s) ≡ (b - a) + total (free_from m n b)
  run_total =
      let l = r.low in
      let h = r.high in
      ⊎_elim
      (λ w.
      let e : total (free_from m n s) ≡ 0 = ap total (r.done w) in
      let q : b ≡ n = omega arith in
      let z : total (free_from m n b) ≡ 0 = ap (λ (x : ℕ). total (free_from m n x)) q ∙ ap total (free_from_end m n) in
      omega arith)
      (λ w. ap total (r.more w).1)
      (le_or_lt n a)

-- ---- records that are zero, and the bytes of a run of them

module _ (t : List ℕ) where
  first_slot : (a c : ℕ) → part (140 * a) (140 * suc c) t ≡ slot_bytes t a ++ part (140 * suc a) (140 * c) t
  first_slot a c =
      let e : 140 * suc c ≡ 140 + 140 * c = omega arith in
      let f : 140 * a + 140 ≡ 140 * suc a = omega arith in
      ap (λ (x : ℕ). part (140 * a) x t) e ∙ take-add 140 (140 * c) (drop (140 * a) t)
      ∙ ap (λ (x : List ℕ). slot_bytes t a ++ take (140 * c) x) (drop-drop 140 (140 * a) t ∙ ap (λ (x : ℕ). drop x t) f)

  bytes_split : (a c : ℕ) → all_are 0 (part (140 * a) (140 * suc c) t) ≡ all_are 0 (slot_bytes t a) && all_are 0 (part (140 * suc a) (140 * c) t)
  bytes_split a c = ap (all_are 0) (first_slot a c) ∙ are_append 0 (slot_bytes t a) (part (140 * suc a) (140 * c) t)

  pub slots_zero : (a c : ℕ) → 140 * (a + c) ≤ length t → T (all_are 0 (part (140 * a) (140 * c) t)) → (k : ℕ) → a ≤ k → k < a + c → slot_bytes t k ≡ zeros 140
  slots_zero a zero l h k u v = absurd (omega arith)
  slots_zero a (suc c) l h k u v =
      let h' : T (all_are 0 (slot_bytes t a) && all_are 0 (part (140 * suc a) (140 * c) t)) = subst T (bytes_split a c) h in
      elim (ℕ_discrete a k) [
        | yes e ↦ subst (λ (x : ℕ). slot_bytes t x ≡ zeros 140) e (are→ 0 (slot_bytes t a) (and_l (all_are 0 (slot_bytes t a)) _ h') ∙ ap (λ (x : ℕ). replicate x 0) (length_part (140 * a) 140 t (omega arith)))
        | no e ↦ slots_zero (suc a) c (omega arith) (and_r (all_are 0 (slot_bytes t a)) _ h') k (omega arith) (omega arith)
      ]

  pub zero_slots : (a c : ℕ) → ((k : ℕ) → a ≤ k → k < a + c → slot_bytes t k ≡ zeros 140) → T (all_are 0 (part (140 * a) (140 * c) t))
  zero_slots a zero f = →are 0 0
  zero_slots a (suc c) f =
      let x : T (all_are 0 (slot_bytes t a)) = subst (λ (y : List ℕ). T (all_are 0 y)) (sym (f a (le_refl a) (omega arith))) (→are 0 140) in
      let y : T (all_are 0 (part (140 * suc a) (140 * c) t)) = zero_slots (suc a) c (λ k u v. f k (omega arith) (omega arith)) in
      subst T (sym (bytes_split a c)) (both (all_are 0 (slot_bytes t a)) _ x y)

-- ---- the turns of `spare`

module _ (t : List ℕ) {m : List ℕ} {n s a b : ℕ} (r : NextRun m n s a b) (long : length t ≡ 140 * n) where
  pub zero_next : all_are 0 (part (140 * a) (140 * (b - a)) t) ≡ true → ZeroBelow t s m → ZeroBelow t b m
  zero_next e z k u f =
      let l = r.low in
      let h = r.high in
      ⊎_elim
      (λ w.
      let x = run_bits r k w u in
      ⊎_elim
      (λ v. slots_zero t a (b - a) (omega arith) (true_is e) k v (omega arith))
      (λ v. absurd (let y = hit_below (run a (b - a)) k v in omega arith))
      (le_or_lt a k))
      (λ w. z k w f)
      (le_or_lt s k)

  pub zero_not : all_are 0 (part (140 * a) (140 * (b - a)) t) ≡ false → ZeroBelow t n m → ⊥
  zero_not e z =
      let l = r.low in
      let h = r.high in
      let g = r.from in
      clash (is_true (zero_slots t a (b - a) (λ k u v.
      let x = run_bits r k (omega arith) (omega arith) in
      let y = hit_in (run a (b - a)) k u v in
      z k (omega arith) (omega arith)))) e

pub spared_all : (t m : List ℕ) (n at count : ℕ) → n ≤ at → at ≤ n → count ≤ at → count + total (free_from m n at) ≡ total (free_from m n 0) → ZeroBelow t at m
    → AllZero t n m count
spared_all t m n at count u v w e z =
    let q : at ≡ n = omega arith in
    let x : total (free_from m n at) ≡ 0 = ap (λ (y : ℕ). total (free_from m n y)) q ∙ ap total (free_from_end m n) in
    record {
      zero = λ k h f. z k (omega arith) f;
      many = omega arith;
      most = omega arith;
    }

-- ---- the count is that of the model

filter_length : (p : ℕ → Bool) (xs : List ℕ) → length (filter p xs) ≡ sum_of (λ x. bit (p x)) xs
filter_length p [] = refl
filter_length p (x ∷ xs) = let i = filter_length p xs in by (p x) (λ e. rw e (omega arith)) (λ e. rw e (omega arith))

-- each slot is free or in use, and in use once
pub count_unused : (s : List ℕ) (n : ℕ) (us : List ℕ) → ((k : ℕ) → k < n → free_bit s k + tally k us ≡ 1) → total (free_from s n 0) ≡ length (unused n us)
unfolding unused
count_unused s n us h =
    ap total (free_from_zero s n) ∙ runs_total (is_free s) 0 n
    ∙ sum_same (λ k. bit (is_free s k)) (λ k. bit (eqb (tally k us) 0)) 0 n
    (λ k u v. let e = h k (omega arith) in let f = bit_of s k in let g = bit_zero (tally k us) (omega arith) in omega arith)
    ∙ sym (filter_length (λ k. eqb (tally k us) 0) (up_from 0 n))

-- ---- the highest label

pub highest_hit : (t r : List ℕ) (n k : ℕ) → n ≡ suc k → r ≡ slot_bytes t k → get_or r 44 0 ≡ 0xF1 → highest_slot t n ≡ k
unfolding highest_slot
highest_hit t r n k e q f =
    let l : is_label (slot_bytes t k) ≡ true = subst (λ (x : List ℕ). is_label x ≡ true) q (eq-eqb _ _ f) in
    ap (highest_slot t) e ∙ ap (λ (b : Bool). cond b k (highest_slot t k)) l

pub highest_miss : (t r : List ℕ) (n k : ℕ) → n ≡ suc k → r ≡ slot_bytes t k → (get_or r 44 0 ≡ 0xF1 → ⊥) → highest_slot t n ≡ highest_slot t k
unfolding highest_slot
highest_miss t r n k e q f =
    let l : is_label (slot_bytes t k) ≡ false = subst (λ (x : List ℕ). is_label x ≡ false) q (ne_eqb _ _ f) in
    ap (highest_slot t) e ∙ ap (λ (b : Bool). cond b k (highest_slot t k)) l

pub highest_none : (t : List ℕ) (n : ℕ) → n ≤ 0 → highest_slot t n ≡ 0
unfolding highest_slot
highest_none t zero h = refl
highest_none t (suc n) h = absurd (omega arith)

highest_most : (t : List ℕ) (n : ℕ) → highest_slot t (suc n) ≤ n
unfolding highest_slot
highest_most t zero = by (is_label (slot_bytes t 0)) (λ e. rw e (omega arith)) (λ e. rw e (omega arith))
highest_most t (suc n) = let i = highest_most t n in by (is_label (slot_bytes t (suc n))) (λ e. rw e (omega arith)) (λ e. rw e (omega arith))

pub highest_below : (t : List ℕ) (n : ℕ) → 1 ≤ n → highest_slot t n < n
highest_below t zero h = absurd (omega arith)
highest_below t (suc n) h = let i = highest_most t n in omega arith
