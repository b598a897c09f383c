-- The loops that write slots, turn by turn. Assumes nothing.
use mathlib.Core.Path.{◌≡◌, refl, sym, ap, ap₂, ◌∙◌, subst}
use mathlib.Core.List.{List, [], ◌∷◌, ◌++◌}
use Prim.Native.Nat.{ℕ, zero, suc, ◌+◌, ◌-◌, ◌*◌, ◌≤◌, ◌<◌}
use native.Mathlib.Numerals.{add-one}
use native.Mathlib.Omega.{arith}
use lib.ListN.{length, take, drop, get_or, drop_of_length-le}
use lib.Seq.{drop-cons, drop-drop}
use borrow.Rule.Slice.PartMut.{put_mid}
use Rattle.model.specs.Basics.{get2, zeros}
use Rattle.model.specs.Model.{Geometry, Label, Run, one_slot, tracks}
use Rattle.model.specs.Predicates.{All}
use Rattle.rules.specs.Layout.{fives, format5, head_or0}
use Rattle.rules.specs.Slots.{with_slots}
use Rattle.bitmap.specs.Map.{free_from}
use Rattle.dscb.specs.Records.{put_record, slot_bytes}
use Rattle.dscb.proofs.Records.{put_length}
use Rattle.dscb_write.specs.Fives.{Fills}
use Rattle.dscb_write.proofs.Format5.{five_long}
use Rattle.dscb_write.specs.Labels.{Format1}
use Rattle.update.specs.Writing.{Reached, chain_entry, cleared, fives_put, label_put}

-- ---- zeros

drop_next : (c : List ℕ) (i : ℕ) → i < length c → drop i c ≡ get_or c i 0 ∷ drop (i + 1) c
drop_next c i u = drop-cons c i 0 u ∙ ap (λ (j : ℕ). get_or c i 0 ∷ drop j c) (sym (add-one i))

-- i of the slots c have been cleared
pub record Clearing (t₀ c t : List ℕ) (i : ℕ) : Type 0 where
  pub long : length t ≡ length t₀
  pub inside : All (λ k. 140 * k + 140 ≤ length t₀) (drop i c)
  pub rest : cleared t (drop i c) ≡ cleared t₀ c

module _ (t₀ c t : List ℕ) (i : ℕ) (s : Clearing t₀ c t i) (u : i < length c) where
  here : All (λ k. 140 * k + 140 ≤ length t₀) (get_or c i 0 ∷ drop (i + 1) c)
  here = rw (drop_next c i u) at s.inside

  pub clear_slot : 140 * get_or c i 0 + 140 ≤ length t
  clear_slot = let h = here.0 in let l = s.long in omega arith

  clear_rest : cleared (put_record t (get_or c i 0) (zeros 140)) (drop (i + 1) c) ≡ cleared t₀ c
  unfolding cleared
  clear_rest = sym (ap (cleared t) (drop_next c i u)) ∙ s.rest

  pub clear_next : Clearing t₀ c (put_record t (get_or c i 0) (zeros 140)) (i + 1)
  clear_next = record { long = put_length t (get_or c i 0) (zeros 140) refl clear_slot ∙ s.long; inside = here.1; rest = clear_rest }

pub clear_end : (t₀ c t : List ℕ) (i : ℕ) → Clearing t₀ c t i → length c ≤ i → t ≡ cleared t₀ c
unfolding cleared
clear_end t₀ c t i s h = ap (cleared t) (sym (drop_of_length-le c {i = i} h)) ∙ s.rest

pub clear_none : (t : List ℕ) (k : ℕ) → k ≡ 0 → t ≡ cleared t (one_slot k)
unfolding cleared
clear_none t zero e = refl
clear_none t (suc k) e = absurd (omega arith)

pub clear_one : (t : List ℕ) (k : ℕ) → (k ≡ 0 → ⊥) → put_record t k (zeros 140) ≡ cleared t (one_slot k)
unfolding cleared
clear_one t zero e = absurd (e refl)
clear_one t (suc k) e = refl

-- ---- a label

pub label_alone : (g : Geometry) (t : List ℕ) (k q : ℕ) (l : Label) (one three : List ℕ) → q ≡ 0 → Format1 g (with_slots k q l) one → put_record t k one ≡ label_put g t k q l three
unfolding label_put
label_alone g t k zero l one three e f = ap (put_record t k) f.bytes
label_alone g t k (suc q) l one three e f = absurd (omega arith)

pub label_both : (g : Geometry) (t : List ℕ) (k q : ℕ) (l : Label) (one three : List ℕ) → (q ≡ 0 → ⊥) → Format1 g (with_slots k q l) one
    → put_record (put_record t k one) q three ≡ label_put g t k q l three
unfolding label_put
label_both g t k zero l one three n f = absurd (n refl)
label_both g t k (suc q) l one three n f = ap (λ (r : List ℕ). put_record (put_record t k r) (suc q) three) f.bytes

-- ---- the chain

pub record Chaining (g : Geometry) (m ks t₀ t : List ℕ) (start at i : ℕ) : Type 0 where
  pub up_to : i ≤ length ks
  pub at_up : at ≤ tracks g
  pub long : length t ≡ length t₀
  pub rest : fives_put g t (fives (drop i ks) (free_from m (tracks g) at)) ≡ fives_put g t₀ (fives ks (free_from m (tracks g) start))

pub chain_entry_is : (ks : List ℕ) (i : ℕ) → get_or ks i 0 ≡ chain_entry ks i
unfolding chain_entry
chain_entry_is ks i = refl

head_is : (ks : List ℕ) (i : ℕ) → head_or0 (drop i ks) ≡ chain_entry ks i
unfolding chain_entry
head_is [] zero = refl
head_is [] (suc i) = refl
head_is (k ∷ ks) zero = refl
head_is (k ∷ ks) (suc i) = head_is ks i ∙ sym (chain_entry_is ks i)

pub entry_below : (n : ℕ) (ks : List ℕ) (i : ℕ) → 1 ≤ n → All (λ k. k < n) ks → chain_entry ks i < n
unfolding chain_entry
entry_below n [] i p h = omega arith
entry_below n (k ∷ ks) zero p h = h.0
entry_below n (k ∷ ks) (suc i) p h = let r = entry_below n ks i p h.1 in let e = chain_entry_is ks i in omega arith

one_more : (g : Geometry) (t : List ℕ) (k : ℕ) (ks : List ℕ) (f : List Run)
    → fives_put g (put_record t k (format5 g (take 26 f) (head_or0 ks))) (fives ks (drop 26 f)) ≡ fives_put g t (fives (k ∷ ks) f)
unfolding fives_put
one_more g t k ks f = refl

module _ (g : Geometry) (m ks t₀ t : List ℕ) (start at i : ℕ) (s : Chaining g m ks t₀ t start at i) (u : i < length ks)
    (made : List ℕ) (next : ℕ) (f : Fills g m (tracks g) at (chain_entry ks (i + 1)) made next) where
  abbrev free : List Run
  free = free_from m (tracks g) at

  pub chain_next : 140 * chain_entry ks i + 140 ≤ length t → Chaining g m ks t₀ (put_record t (chain_entry ks i) made) start next (i + 1)
  chain_next fits =
      record {
        up_to = omega arith;
        at_up = f.up_to;
        long = put_length t (chain_entry ks i) made (ap length f.bytes ∙ five_long g (take 26 free) (chain_entry ks (i + 1))) fits ∙ s.long;
        rest = rest_law;
      }
    where
      first : drop i ks ≡ chain_entry ks i ∷ drop (i + 1) ks
      first = drop_next ks i u ∙ ap (λ (k : ℕ). k ∷ drop (i + 1) ks) (chain_entry_is ks i)

      rest_law : fives_put g (put_record t (chain_entry ks i) made) (fives (drop (i + 1) ks) (free_from m (tracks g) next)) ≡ fives_put g t₀ (fives ks (free_from m (tracks g) start))
      rest_law =
          ap (λ (r : List ℕ). fives_put g (put_record t (chain_entry ks i) r) (fives (drop (i + 1) ks) (free_from m (tracks g) next)))
          (f.bytes ∙ ap (format5 g (take 26 free)) (sym (head_is ks (i + 1))))
          ∙ ap (λ (x : List Run). fives_put g (put_record t (chain_entry ks i) (format5 g (take 26 free) (head_or0 (drop (i + 1) ks)))) (fives (drop (i + 1) ks) x)) f.rest
          ∙ one_more g t (chain_entry ks i) (drop (i + 1) ks) free
          ∙ ap (λ (x : List ℕ). fives_put g t (fives x free)) (sym first)
          ∙ s.rest

-- a record of the chain, where the number t of tracks and the next slot k were computed
pub fills_told : (g : Geometry) (m : List ℕ) (t t' at k k' : ℕ) (made : List ℕ) (next : ℕ) → t ≡ t' → k ≡ k' → Fills g m t at k made next → Fills g m t' at k' made next
fills_told g m t t' at k k' made next e h f = subst (λ (j : ℕ). Fills g m t' at j made next) h (subst (λ (n : ℕ). Fills g m n at k made next) e f)

pub chain_end : (g : Geometry) (m ks t₀ t : List ℕ) (start at i : ℕ) → Chaining g m ks t₀ t start at i → length ks ≤ i
    → t ≡ fives_put g t₀ (fives ks (free_from m (tracks g) start))
unfolding fives_put
chain_end g m ks t₀ t start at i s u = ap (λ (x : List ℕ). fives_put g t (fives x (free_from m (tracks g) at))) (sym (drop_of_length-le ks {i = i} u)) ∙ s.rest

-- `&mut t[a..e]`, the record of slot k, was lent and is back as p
pub put_part : (t p : List ℕ) (k a : ℕ) → a ≡ 140 * k → put_mid a (a + 140 - a) t p ≡ put_record t k p
unfolding put_record
put_part t p k a x =
    let d : a + 140 - a ≡ 140 = omega arith in
    ap₂ (λ (n j : ℕ). take n t ++ (p ++ drop j (drop n t))) x d ∙ ap (λ (l : List ℕ). take (140 * k) t ++ (p ++ l)) (drop-drop 140 (140 * k) t)

-- ---- where it begins to be written

-- the first member of any chain
pub reached_first : (t ks : List ℕ) (lo : ℕ) → Reached t ks lo 0 0
reached_first t ks lo = record { none = λ _. refl; inside = λ u. absurd (omega arith); start = λ u. absurd (omega arith); low = λ u. absurd (omega arith) }

pub reached_next : (t c rec : List ℕ) (lo i start : ℕ) → 1 ≤ i → i < length c → rec ≡ slot_bytes t (get_or c i 0) → start ≡ get2 rec 4 → start ≤ lo → Reached t c lo i start
reached_next t c rec lo i start p u er es v =
    record {
      none = λ z. absurd (omega arith);
      inside = λ _. u;
      start = λ _. es ∙ ap (λ (r : List ℕ). get2 r 4) (er ∙ ap (slot_bytes t) (chain_entry_is c i));
      low = λ _. v;
    }
