-- A fresh table, slot by slot, and initialise as a whole. Assumes nothing.
use mathlib.Core.Path.{◌≡◌, refl, sym, ap, ap₂, ◌∙◌, subst}
use mathlib.Core.Bool.{true, false}
use mathlib.Core.List.{List, [], ◌∷◌, append-nil}
use Prim.Native.Nat.{ℕ, zero, suc, ◌+◌, ◌-◌, ◌*◌, ◌≤◌, ◌<◌}
use native.Mathlib.Omega.{arith}
use borrow.Author.Tests.{eq-eqb, ne_eqb}
use lib.Dec.{eqb}
use lib.ListN.{length, length-replicate}
use lib.Seq.{take_all}
use Rattle.model.specs.Basics.{bit, filter, up_from, zeros}
use Rattle.model.specs.Model.{Geometry, Run, free, run, slots, tally, tracks, unused, used}
use Rattle.model.proofs.Lists.{length_up_from}
use Rattle.rules.specs.Reading.{entry_place}
use Rattle.rules.specs.Entries.{fresh, initialise, lent, result_of}
use Rattle.rules.specs.Layout.{encode, entry, format4, format5}
use Rattle.rules.specs.Table.{limits}
use Rattle.rules.proofs.Fresh.{fresh_free, fresh_valid, some_length}
use Rattle.rules.specs.Predicates.{some_run, Limits, Valid}
use Rattle.rules.proofs.Valid.{→limits}
use Rattle.rules.proofs.Meaning.{is_sound}
use Rattle.dscb.specs.Records.{put_record}
use Rattle.dscb.proofs.Cutting.{zeros_part}
use Rattle.dscb_write.specs.Blank.{blank}
use Rattle.dscb_write.specs.Put.{put_at}
use Rattle.dscb_write.proofs.Format5.{five_long, five_more, five_none}
use Rattle.update.specs.Pending.{Pending, record_of}
use Rattle.update.proofs.Pending.{put_slot, zeros_of}
use Rattle.call_initialise.specs.More.{More}

-- ---- the number of format 0s

kept : (m a : ℕ) → 2 ≤ a → filter (λ k. eqb (tally k (0 ∷ 1 ∷ [])) 0) (up_from a m) ≡ up_from a m
kept zero a h = refl
kept (suc m) a h =
    let b0 = ap bit (ne_eqb 0 a (λ e. absurd (omega arith))) in
    let b1 = ap bit (ne_eqb 1 a (λ e. absurd (omega arith))) in
    let z : tally a (0 ∷ 1 ∷ []) ≡ 0 = omega arith in
    rw (eq-eqb (tally a (0 ∷ 1 ∷ [])) 0 z) (ap (λ (l : List ℕ). a ∷ l) (kept m (suc a) (omega arith)))

pub all_but_two : (n : ℕ) → 2 ≤ n → length (unused n (used [] (1 ∷ []))) ≡ n - 2
unfolding unused used
all_but_two n h = let e : n ≡ suc (suc (n - 2)) = omega arith in ap (λ (k : ℕ). length (filter (λ k. eqb (tally k (0 ∷ 1 ∷ [])) 0) (up_from 0 k))) e ∙ ap length (kept (n - 2) 2 (omega arith)) ∙ length_up_from 2 (n - 2)

-- ---- the format 5

module _ (g : Geometry) (r r' : List ℕ) (j start : ℕ) where
  pub none_more : (count : ℕ) → count ≡ 0 → More g (some_run start count) r j r j
  unfolding some_run
  none_more zero e = record { number = omega arith; bytes = λ f n is. is ∙ ap (λ (x : List Run). format5 g x 0) (sym (append-nil f)) }
  none_more (suc n) e = absurd (omega arith)

  pub one_more : (count at : ℕ) → (count ≡ 0 → ⊥) → j < 26 → at ≡ entry_place j → r' ≡ put_at r at (entry g (run start count)) → More g (some_run start count) r j r' (j + 1)
  unfolding some_run
  one_more zero at n u a e = absurd (n refl)
  one_more (suc n) at _ u a e = record { number = refl; bytes = λ f c is. e ∙ ap (λ (i : ℕ). put_at r i (entry g (run start (suc n)))) a ∙ five_more g f (run start (suc n)) 0 r is j c u }

-- the first into a record with none
module _ (g : Geometry) (r r' : List ℕ) (j start count : ℕ) (is : r ≡ blank 4 0x05 0xF5) (more : More g (some_run start count) r 0 r' j) where
  first : r' ≡ format5 g (some_run start count) 0
  first = more.bytes [] refl (is ∙ five_none g)

  first_number : length (some_run start count) ≡ j
  first_number = let n = more.number in omega arith

  pub room : (length r' ≡ 140) × (j < 26)
  room = (ap length first ∙ five_long g (some_run start count) 0, let n = first_number in let a = some_length start count in omega arith)

-- and the second
pub both_runs : (g : Geometry) → Limits g → (r r₁ r₂ : List ℕ) (j₁ j₂ all : ℕ) → r ≡ blank 4 0x05 0xF5
    → More g (some_run 1 (g.vtoc_start - 1)) r 0 r₁ j₁ → all ≡ tracks g
    → More g (some_run (g.vtoc_start + g.vtoc_tracks) (all - (g.vtoc_start + g.vtoc_tracks))) r₁ j₁ r₂ j₂
    → r₂ ≡ format5 g (free g []) 0
both_runs g lim r r₁ r₂ j₁ j₂ all is one e two =
    (subst (λ (n : ℕ). More g (some_run (g.vtoc_start + g.vtoc_tracks) (n - (g.vtoc_start + g.vtoc_tracks))) r₁ j₁ r₂ j₂) e two
    ).bytes (some_run 1 (g.vtoc_start - 1)) (first_number g r r₁ j₁ 1 (g.vtoc_start - 1) is one) (first g r r₁ j₁ 1 (g.vtoc_start - 1) is one)
    ∙ ap (λ (f : List Run). format5 g f 0) (fresh_free g (→limits g lim))

-- ---- slot 1, slot 0, and zeros

module _ (g : Geometry) (lim : Limits g) where
  valid : Valid (fresh g)
  valid = fresh_valid g (→limits g lim)

  others_none : (k : ℕ) → tally k (1 ∷ 0 ∷ []) ≡ 0 → tally k (used [] (1 ∷ [])) ≡ 0
  unfolding used
  others_none k z = omega arith

  erased : (t : List ℕ) → length t ≡ 140 * slots g → Pending (fresh g) (1 ∷ 0 ∷ []) (zeros (length t))
  erased t l =
      record {
        long = length-replicate (length t) 0 ∙ l;
        right = λ k u z. zeros_part (140 * k) 140 (length t) (omega arith) ∙ zeros_of (fresh g) valid k u (others_none k z);
      }

  -- at most 26 free extents, and so one format 5
  five_is : format5 g (free g []) 0 ≡ record_of (fresh g) 1
  five_is =
      let f = valid.long in
      ap (λ (r : List Run). format5 g r 0) (sym (take_all 26 (free g []) (omega arith))) ∙ (is_sound (fresh g) valid).fives.0

  pub fresh_written : (t t₁ t₂ t₃ five four : List ℕ) (n : ℕ) → length t ≡ 140 * slots g → t₁ ≡ zeros (length t)
      → five ≡ format5 g (free g []) 0 → length five ≡ 140 → t₂ ≡ put_record t₁ 1 five
      → n ≡ slots g - 2 → four ≡ format4 g 0 n → length four ≡ 140 → t₃ ≡ put_record t₂ 0 four → t₃ ≡ encode (fresh g)
  fresh_written t t₁ t₂ t₃ five four n l e₁ e5 l5 e₂ en e4 l4 e₃ =
      let least = lim.least in
      let a = erased t l in
      let b = put_slot (fresh g) (0 ∷ []) (zeros (length t)) 1 five a (omega arith) l5 (λ _. e5 ∙ five_is) in
      let q : four ≡ record_of (fresh g) 0 = e4 ∙ ap (format4 g 0) (en ∙ sym (all_but_two (slots g) (omega arith))) ∙ (is_sound (fresh g) valid).four in
      let d = put_slot (fresh g) [] (put_record (zeros (length t)) 1 five) 0 four b (omega arith) l4 (λ _. q) in
      e₃ ∙ ap (λ (y : List ℕ). put_record y 0 four) (e₂ ∙ ap (λ (y : List ℕ). put_record y 1 five) e₁) ∙ Rattle.update.proofs.Pending.put_all (fresh g) _ valid d

-- ---- the call

module _ (g : Geometry) (t a : List ℕ) where
  pub no_geometry : limits g ≡ false → result_of 1 (lent t a []) ≡ initialise g (lent t a [])
  unfolding initialise
  no_geometry h = rw h

  -- m is the number of slots as it was computed
  module _ (h : limits g ≡ true) (m : ℕ) (many : m ≡ slots g) where
    pub wrong_table : (length t ≡ 140 * m → ⊥) → result_of 2 (lent t a []) ≡ initialise g (lent t a [])
    unfolding initialise
    wrong_table n = rw (h, ne_eqb (length t) (slots g * 140) (λ e. n (omega arith)))

    module _ (l : length t ≡ 140 * m) where
      fits : eqb (length t) (slots g * 140) ≡ true
      fits = eq-eqb (length t) (slots g * 140) (omega arith)

      pub wrong_answer : (length a ≡ 24 → ⊥) → result_of 2 (lent t a []) ≡ initialise g (lent t a [])
      unfolding initialise
      wrong_answer n = rw (h, fits, ne_eqb (length a) 24 n)

      pub initialised : length a ≡ 24 → (t' a' : List ℕ) → t' ≡ encode (fresh g) → a' ≡ zeros 24 → result_of 0 (lent t' a' []) ≡ initialise g (lent t a [])
      unfolding initialise
      initialised e t' a' et ea = rw (h, fits, eq-eqb (length a) 24 e) (ap₂ (λ (x y : List ℕ). result_of 0 (lent x y [])) et ea)
