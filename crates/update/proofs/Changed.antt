-- What the writing leaves to be written, on the way to a volume. Assumes nothing.
use mathlib.Core.Path.{◌≡◌, refl, sym, ap, ap₂, ◌∙◌, subst}
use mathlib.Core.Bool.{cond}
use mathlib.Core.List.{List, [], ◌∷◌, ◌++◌}
use Prim.Native.Nat.{ℕ, zero, suc, ◌*◌, ◌≤◌, ◌<◌}
use native.Mathlib.Nat.{lt_of_not-le}
use native.Mathlib.Decide.{dec_le}
use native.Mathlib.Omega.{arith}
use lib.ListN.{length, take, drop}
use lib.Dec.{eqb}
use borrow.Author.Tests.{eq-eqb, ne_eqb}
use Rattle.model.specs.Basics.{bit, zeros}
use Rattle.model.specs.Model.{Geometry, Label, Run, Volume, format0s, free, one_slot, slots, tally, used}
use Rattle.model.proofs.Lists.{All_drop, by, sum_append}
use Rattle.model.specs.Predicates.{All}
use Rattle.rules.specs.Layout.{encode, fives, format1, format3, format4, format5, head_or0, highest, records}
use Rattle.rules.specs.Reading.{read, read_geometry}
use Rattle.rules.specs.Slots.{insert_label, with_slots}
use Rattle.rules.proofs.Settle.{used_tally}
use Rattle.rules.proofs.TableBack.{geometry_read}
use Rattle.rules.proofs.Taken.{back, length_encode}
use Rattle.rules.proofs.Valid.{limits→}
use Rattle.rules.specs.Predicates.{Valid}
use Rattle.rules.specs.Sound.{FiveOk, LabelOk}
use Rattle.rules.proofs.Meaning.{is_sound}
use Rattle.dscb.specs.Records.{put_record, slot_bytes}
use Rattle.names.specs.Find.{is_label}
use Rattle.check_table.specs.Spare.{highest_slot}
use Rattle.check_table.specs.Check.{volume_at}
use Rattle.check_table.proofs.Read.{highest_is_lem, volume_is}
use Rattle.update.specs.Pending.{Pending, record_of}
use Rattle.update.proofs.Runs.{fives_drop}
use Rattle.update.proofs.Pending.{fives_of, label_of, length_of, put_all, put_slot, slot_of, zeros_of}
use Rattle.update.specs.Writing.{cleared, fives_put, four_put, label_put, put_third}

module _ (w : Volume) (v : Valid w) where
  abbrev g : Geometry
  g = w.geometry

  -- ---- zeros: a slot that is not written again must be an empty one of w

  abbrev pub EmptyOr : List ℕ → ℕ → Type 0
  EmptyOr ps k = (k < slots g) × (tally k ps ≡ 0 → tally k (used w.labels w.chain) ≡ 0)

  pub clear_pending : (ks ps t : List ℕ) → All (EmptyOr ps) ks → Pending w (ks ++ ps) t → Pending w ps (cleared t ks)
  unfolding cleared
  clear_pending [] ps t h p = p
  clear_pending (k ∷ ks) ps t h p =
      clear_pending ks ps (put_record t k (zeros 140)) h.1
      (put_slot w (ks ++ ps) t k (zeros 140) p h.0.0 refl
      (λ z. let s = sum_append (λ x. bit (eqb x k)) ks ps in zeros_of w v k h.0.0 (h.0.1 (omega arith))))

  -- ---- a label

  third_pending : (q : ℕ) (ps t three : List ℕ) → q < slots g → (1 ≤ q → three ≡ record_of w q) → Pending w (one_slot q ++ ps) t → Pending w ps (put_third t q three)
  third_pending zero ps t three u e p = p
  third_pending (suc q) ps t three u e p =
      let r : three ≡ record_of w (suc q) = e (omega arith) in put_slot w ps t (suc q) three p u (ap length r ∙ length_of w v (suc q) u) (λ z. r)

  module _ (l : Label) (k q : ℕ) (others : List Label) (e : w.labels ≡ insert_label (with_slots k q l) others) (inside : k < slots g) (inside3 : q < slots g) where
    ok : LabelOk g (records w) (with_slots k q l)
    ok = label_of w v (with_slots k q l) others e

    third_is : format3 g l ≡ format3 g (with_slots k q l)
    unfolding format3
    third_is = refl

    pub label_pending : (ps t three : List ℕ) → (1 ≤ q → three ≡ format3 g l) → Pending w (k ∷ (one_slot q ++ ps)) t → Pending w ps (label_put g t k q l three)
    unfolding label_put
    label_pending ps t three h p =
        third_pending q ps (put_record t k (format1 g (with_slots k q l))) three inside3 (λ u. h u ∙ third_is ∙ ok.three u)
        (put_slot w (one_slot q ++ ps) t k (format1 g (with_slots k q l)) p inside (ap length ok.one ∙ length_of w v k inside) (λ z. ok.one))

  -- ---- the chain

  chain_go : (ks : List ℕ) (f : List Run) (ps t : List ℕ) → All (FiveOk g (records w)) (fives ks f) → All (λ k. k < slots g) ks → Pending w (ks ++ ps) t → Pending w ps (fives_put g t (fives ks f))
  unfolding fives_put
  chain_go [] f ps t h u p = p
  chain_go (k ∷ ks) f ps t h u p =
      chain_go ks (drop 26 f) ps _ h.1 u.1
      (put_slot w (ks ++ ps) t k (format5 g (take 26 f) (head_or0 ks)) p u.0 (ap length h.0 ∙ length_of w v k u.0) (λ z. h.0))

  all_below : (n : ℕ) (ks : List ℕ) → ((k : ℕ) → n ≤ k → tally k ks ≡ 0) → All (λ k. k < n) ks
  all_below n [] h = tt
  all_below n (k ∷ ks) h = (
    elim (dec_le n k) [
      | yes u ↦ let z = h k u in let b = ap bit (eq-eqb k k refl) in absurd (omega arith)
      | no u ↦ lt_of_not-le u
    ],
    all_below n ks (λ j u. let z = h j u in omega arith),
  )

  -- from member number i on
  pub chain_pending : (i : ℕ) (f : List Run) (ps t : List ℕ) → f ≡ drop (26 * i) (free g w.labels) → Pending w (drop i w.chain ++ ps) t
      → Pending w ps (fives_put g t (fives (drop i w.chain) f))
  chain_pending i f ps t e p =
      chain_go (drop i w.chain) f ps t
      (subst (All (FiveOk g (records w))) (sym (ap (fives (drop i w.chain)) e ∙ fives_drop i w.chain (free g w.labels)))
      (All_drop (FiveOk g (records w)) i (fives w.chain (free g w.labels)) (fives_of w v)))
      (All_drop (λ k. k < slots g) i w.chain
      (all_below (slots g) w.chain (λ k u. let a = v.slot_in k u in let b = used_tally w.labels w.chain k in omega arith))) p

  -- ---- the format 4

  highest_agree : (t t' : List ℕ) (n : ℕ) → ((k : ℕ) → 1 ≤ k → k < n → slot_bytes t k ≡ slot_bytes t' k) → highest_slot t n ≡ highest_slot t' n
  unfolding highest_slot
  highest_agree t t' zero h = refl
  highest_agree t t' (suc zero) h = none t ∙ sym (none t')
    where
      none : (x : List ℕ) → ◌≡◌ {A = ℕ} (cond (is_label (slot_bytes x 0)) 0 0) 0
      none x = by (is_label (slot_bytes x 0)) (λ e. rw e) (λ e. rw e)
  highest_agree t t' (suc (suc n)) h =
      ap₂ (λ (r : List ℕ) (m : ℕ). cond (is_label r) (suc n) m) (h (suc n) (omega arith) (omega arith)) (highest_agree t t' (suc n) (λ k a b. h k a (omega arith)))

  highest_encoded : highest_slot (encode w) (slots g) ≡ highest w.labels
  highest_encoded =
      let l = limits→ g v.limit in
      let a = l.least in
      let n = length_encode w v in
      let r : read (encode w) ≡ volume_at g (encode w)
      = volume_is g (encode w) (omega arith) (omega arith) (sym (ap read_geometry (slot_of w v 0 (omega arith)) ∙ geometry_read w v l.vtoc)) in
      sym (highest_is_lem g (encode w) (slots g)) ∙ ap (λ (x : Volume). highest x.labels) (sym r ∙ back w v)

  pub four_done : (t : List ℕ) (empty : ℕ) → empty ≡ length (format0s w) → Pending w (0 ∷ []) t → four_put g t empty ≡ encode w
  unfolding four_put format0s
  four_done t empty e p =
      let a = (limits→ g v.limit).least in
      let h : highest_slot t (slots g) ≡ highest w.labels
      = highest_agree t (encode w) (slots g)
      (λ k c d. p.right k d (let o = ap bit (ne_eqb 0 k (λ q. absurd (omega arith))) in omega arith) ∙ sym (slot_of w v k d))
      ∙ highest_encoded in
      let r : format4 g (highest_slot t (slots g)) empty ≡ record_of w 0 = rw (h, e) (is_sound w v).four in
      put_all w (put_record t 0 (format4 g (highest_slot t (slots g)) empty)) v
      (put_slot w [] t 0 (format4 g (highest_slot t (slots g)) empty) p (omega arith) (ap length r ∙ length_of w v 0 (omega arith)) (λ z. r))
