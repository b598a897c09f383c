-- A data set under another name: one record of the table changes, and no other. Assumes nothing.
use mathlib.Core.Path.{◌≡◌, refl, sym, ap, ap₂, ◌∙◌}
use mathlib.Core.Option.{Option, some}
use mathlib.Core.List.{List, [], ◌∷◌}
use Prim.Native.Nat.{ℕ, zero, suc, ◌≤◌, ◌<◌}
use native.Mathlib.Decide.{ℕ_discrete}
use native.Mathlib.Nat.{le_refl}
use native.Mathlib.Omega.{arith}
use borrow.Author.Tests.{eq-eqb, le-ltb, ltb-false, ne_eqb}
use lib.Dec.{T, eqb, ltb}
use lib.ListN.{length}
use Rattle.model.specs.Basics.{bit, filter, find, keep_if, sum_of, up_from}
use Rattle.model.specs.Model.{Geometry, Label, Run, Volume, free, one_slot, runs_of, slots, slots_of, tally, times, unused, used}
use Rattle.model.proofs.Lists.{by, find_All, sum_append}
use Rattle.rules.specs.Layout.{encode, fives, format1, format4, highest, or_five, or_format1, or_format3, records}
use Rattle.rules.specs.Slots.{found, insert_label, with_name, without}
use Rattle.rules.specs.Table.{good_name, named}
use Rattle.rules.proofs.Changes.{rename_keeps}
use Rattle.rules.proofs.LabelBack.{length_1}
use Rattle.rules.proofs.Labels.{insert_sum, without_sum}
use Rattle.rules.specs.Predicates.{Unlike, Valid}
use Rattle.rules.proofs.Settle.{free_same, used_tally}
use Rattle.rules.proofs.TableBack.{record_at_lem}
use Rattle.rules.proofs.Taken.{length_encode}
use Rattle.rules.proofs.Valid.{held_times, slots_tally}
use Rattle.rules.specs.Sound.{LabelOk}
use Rattle.rules.proofs.Meaning.{is_sound}
use Rattle.dscb.specs.Records.{put_record}
use Rattle.dscb_write.proofs.Following.{same_extents}
use Rattle.update.specs.Pending.{Pending, record_of, Alike}
use Rattle.update.proofs.Started.{alike_both, alike_come, alike_gone}
use Rattle.update.proofs.Pending.{label_of, put_all, put_slot, slot_of}

-- ---- lists of labels with the same slots

abbrev above : ℕ → Label → ℕ
above n m = bit (ltb n m.slot)

highest_below : (n : ℕ) (ls : List Label) → sum_of (above n) ls ≡ 0 → highest ls ≤ n
highest_below n [] e = omega arith
highest_below n (m ∷ ms) e =
    by (ltb n m.slot)
    (λ h. absurd (let b = ap bit h in omega arith))
    (λ h. let i = highest_below n ms (omega arith) in let b = ltb-false n m.slot h in omega arith)

below_highest : (n : ℕ) (ls : List Label) → highest ls ≤ n → sum_of (above n) ls ≡ 0
below_highest n [] e = refl
below_highest n (m ∷ ms) e = let b = ap bit (le-ltb n m.slot (omega arith)) in let i = below_highest n ms (omega arith) in omega arith

highest_same : (ls ms : List Label) → ((n : ℕ) → sum_of (above n) ls ≡ sum_of (above n) ms) → highest ls ≡ highest ms
highest_same ls ms e =
    let a = highest_below (highest ms) ls (e (highest ms) ∙ below_highest (highest ms) ms (le_refl (highest ms))) in
    let b = highest_below (highest ls) ms (sym (e (highest ls)) ∙ below_highest (highest ls) ls (le_refl (highest ls))) in
    omega arith

unused_same : (us vs : List ℕ) → ((k : ℕ) → tally k us ≡ tally k vs) → (n : ℕ) → unused n us ≡ unused n vs
unfolding unused
unused_same us vs e n = go 0 n
  where
    go : (a n : ℕ) → filter (λ k. eqb (tally k us) 0) (up_from a n) ≡ filter (λ k. eqb (tally k vs) 0) (up_from a n)
    go a zero = refl
    go a (suc n) = ap₂ (λ (x : ℕ) (l : List ℕ). keep_if (eqb x 0) a l) (e a) (go (suc a) n)

one_other : (k s : ℕ) → (k ≡ s → ⊥) → tally k (one_slot s) ≡ 0
one_other k zero h = refl
one_other k (suc s) h = let b = ap bit (ne_eqb (suc s) k (λ e. h (sym e))) in omega arith

-- ---- the volume after the call

module _ (v : Volume) (h : Valid v) (old : List ℕ) (l : Label) (f : found v old ≡ some l) (new : List ℕ) (long : length new ≡ 44) (good : T (good_name new)) (unlike : Unlike new v.labels) where
  abbrev g : Geometry
  g = v.geometry

  abbrev ls : List Label
  ls = v.labels

  abbrev l' : Label
  l' = with_name new l

  abbrev others : List Label
  others = without old ls

  abbrev after : List Label
  after = insert_label l' others

  abbrev w : Volume
  w = record { geometry = g; labels = after; chain = v.chain }

  valid_after : Valid w
  valid_after = (rename_keeps v h old l f new long good unlike).valid

  same_sum : (F : Label → ℕ) → F l' ≡ F l → sum_of F ls ≡ sum_of F after
  same_sum F e = let a = without_sum F old ls l h.differ f in let b = insert_sum F l' others in omega arith

  free_is : free g ls ≡ free g after
  free_is =
      free_same g ls after
      (λ t. let a = held_times g ls t in let b = held_times g after t in let c = same_sum (λ m. times t (runs_of m)) refl in omega arith)

  used_is : (k : ℕ) → tally k (used ls v.chain) ≡ tally k (used after v.chain)
  used_is k =
      let a = used_tally ls v.chain k in
      let b = used_tally after v.chain k in
      let c = same_sum (λ m. tally k (slots_of m)) refl in
      let d = slots_tally ls k in
      let e = slots_tally after k in
      omega arith

  -- ---- slot 0

  four_is : record_of v 0 ≡ record_of w 0
  four_is =
      sym (is_sound v h).four
      ∙ ap₂ (λ (a b : ℕ). format4 g a b) (highest_same ls after (λ n. same_sum (above n) refl))
      (ap length (unused_same (used ls v.chain) (used after v.chain) used_is (slots g)))
      ∙ (is_sound w valid_after).four

  -- ---- the slots of others

  later_is : (k : ℕ) → 1 ≤ k → k < slots g → Alike k ls after → record_of v k ≡ record_of w k
  later_is k p u a =
      let F : List Run → Option Label → Option Label → List ℕ
      = λ x y z. or_five g (find (λ c. eqb c.slot k) (fives v.chain x)) (or_format1 g y (or_format3 g z)) in
      record_at_lem v h k p u ∙ (λ i. F (free_is i) (a.first i) (a.third i)) ∙ sym (record_at_lem w valid_after k p u)

  -- ---- its format 3

  third_is : 1 ≤ l.slot3 → record_of v l.slot3 ≡ record_of w l.slot3
  third_is p =
      let x = find_All (LabelOk g (records v)) (named old) ls l (is_sound v h).labels f in
      let y = label_of w valid_after l' others refl in
      sym (x.three p) ∙ same_extents g l l' refl ∙ y.three p

  rest_is : (k : ℕ) → k < slots g → (k ≡ l.slot → ⊥) → record_of v k ≡ record_of w k
  rest_is zero u n = four_is
  rest_is (suc j) u n =
      let k = suc j in
      elim (ℕ_discrete k l.slot3) [
        | yes e ↦ ap (record_of v) e ∙ third_is (omega arith) ∙ ap (record_of w) (sym e)
        | no e ↦
            let a = one_other k l.slot n in
            let b = one_other k l.slot3 e in
            let z : tally k (slots_of l) ≡ 0 = sum_append (λ x. bit (eqb x k)) (one_slot l.slot) (one_slot l.slot3) ∙ omega arith in
            later_is k (omega arith) u (alike_both k ls others after (alike_gone k (omega arith) l z old ls h.differ f) (alike_come k (omega arith) l' z others))
      ]

  -- ---- the whole

  pending : Pending w (l.slot ∷ []) (encode v)
  pending =
      let n = length_encode v h in
      record {
        long = omega arith;
        right = λ k u z. slot_of v h k u ∙ rest_is k u (λ e. let b = ap bit (eq-eqb l.slot k (sym e)) in absurd (omega arith));
      }

  pub renamed : l.slot < slots g → put_record (encode v) l.slot (format1 g l') ≡ encode w
  renamed u =
      let x = label_of w valid_after l' others refl in
      put_all w _ valid_after (put_slot w [] (encode v) l.slot (format1 g l') pending u (length_1 g l' x.good) (λ _. x.one))
