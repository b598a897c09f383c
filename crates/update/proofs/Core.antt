-- From a volume to the one that `settle` leaves: which slots are written, and that then all are right. Assumes nothing.
use mathlib.Core.Path.{◌≡◌, refl, sym, ap, ◌∙◌, subst}
use mathlib.Core.Bool.{Bool, true, false, cond}
use mathlib.Core.Option.{none, some}
use mathlib.Core.List.{List, [], ◌∷◌, ◌++◌}
use Prim.Native.Nat.{ℕ, zero, suc, ◌+◌, ◌-◌, ◌*◌, ◌≤◌}
use native.Mathlib.Nat.{lt_of_not-le}
use native.Mathlib.Decide.{dec_le}
use native.Mathlib.Omega.{arith}
use lib.ListN.{length, take, drop}
use lib.Dec.{eqb, leb}
use borrow.Author.Tests.{eq-eqb, eqb-true}
use Rattle.model.specs.Basics.{bit, flat, zeros}
use Rattle.dscb.specs.Records.{put_record}
use Rattle.model.specs.Model.{Geometry, Label, Run, Volume, fives_for, format0s, free, slots, slots_of, tally, unused, used}
use Rattle.model.proofs.Lists.{by, some_is, sum_append, sum_take}
use Rattle.model.specs.Predicates.{All}
use Rattle.rules.specs.Layout.{encode, fives}
use Rattle.rules.specs.Slots.{settle}
use Rattle.rules.proofs.Settle.{used_tally}
use Rattle.rules.specs.Predicates.{Valid}
use Rattle.update.specs.Pending.{Pending, record_of, Alike}
use Rattle.update.proofs.Started.{alike_both, begin, same_slot}
use Rattle.update.specs.Writing.{cleared, fives_put, four_put}
use Rattle.update.proofs.Kept.{Stay}
use Rattle.update.proofs.Changed.{EmptyOr, chain_pending, clear_pending, four_done}

tally_append : (k : ℕ) (xs ys : List ℕ) → tally k (xs ++ ys) ≡ tally k xs + tally k ys
tally_append k xs ys = sum_append (λ x. bit (eqb x k)) xs ys

-- what holds of each number that stands in the list
pub tally_All : (P : ℕ → Type 0) (ks : List ℕ) → ((k : ℕ) → 1 ≤ tally k ks → P k) → All P ks
tally_All P [] h = tt
tally_All P (k ∷ ks) h = (h k (let b = ap bit (eq-eqb k k refl) in omega arith), tally_All P ks (λ j u. h j (omega arith)))

-- what holds of all in the list holds of each that stands in it
All_tally : (P : ℕ → Type 0) (ks : List ℕ) → All P ks → (k : ℕ) → 1 ≤ tally k ks → P k
All_tally P [] h k u = absurd (omega arith)
All_tally P (j ∷ ks) h k u =
    by (eqb j k)
    (λ e. subst P (eqb-true j k e) h.0)
    (λ e. let b = ap bit e in All_tally P ks h.1 k (omega arith))

-- the chain that is left begins with the members that are kept
pub settled_chain : (g : Geometry) (chain : List ℕ) (draft : List Label) (asked : ℕ) (finish : List ℕ → List Label) (w : Volume) → settle g chain draft asked finish ≡ some w
    → (new : List ℕ) × (w.chain ≡ take (fives_for (length (free g draft))) chain ++ new)
unfolding settle
settled_chain g chain draft asked finish w e =
    let need = fives_for (length (free g draft)) in
    let kept = take need chain in
    let empty = unused (slots g) (used draft kept) in
    go (leb (asked + (need - length kept)) (length empty)) (take (need - length kept) (drop asked empty)) (finish (take asked empty)) e
  where
    go : (b : Bool) (new : List ℕ) (ls : List Label)
        → cond b (some (record { geometry = g; labels = ls; chain = take (fives_for (length (free g draft))) chain ++ new })) none ≡ some w
        → (new : List ℕ) × (w.chain ≡ take (fives_for (length (free g draft))) chain ++ new)
    go true new ls q = (new, ap (λ (x : Volume). x.chain) (sym (some_is _ w q)))
    go false new ls q = absurd (let z : ◌≡◌ {A = ℕ} 0 1 = cc in omega arith)

-- `label` goes or changes, `others` stay; `freed` are slots of its that it loses, `mid` those that it has then
module _ (v w : Volume) (hv : Valid v) (hw : Valid w) (geo : w.geometry ≡ v.geometry) (label : Label) (others : List Label)
    (stays : (k : ℕ) → 1 ≤ k → tally k (slots_of label) ≡ 0 → Alike k v.labels others)
    (slot_once : (k : ℕ) → tally k (used (label ∷ others) v.chain) ≤ 1)
    (slot_in : (k : ℕ) → slots w.geometry ≤ k → tally k (used (label ∷ others) v.chain) ≡ 0)
    (need : ℕ) (new : List ℕ) (chain_is : w.chain ≡ take need v.chain ++ new)
    (freed mid : List ℕ)
    (freed_in : (k : ℕ) → tally k freed ≤ tally k (slots_of label))
    (label-in : (k : ℕ) → tally k (slots_of label) ≤ tally k freed + tally k mid)
    (labels_in : (k : ℕ) → tally k (flat slots_of w.labels) ≤ tally k mid + tally k (flat slots_of others))
    (alike : (k : ℕ) → 1 ≤ k → tally k mid ≡ 0 → Alike k others w.labels)
    (m : List ℕ) (from at : ℕ) (st : Stay v w m need from at) where
  abbrev g : Geometry
  g = w.geometry

  abbrev tail : List ℕ
  tail = drop need v.chain

  abbrev last : List ℕ
  last = mid ++ (drop from w.chain ++ (0 ∷ []))

  counts : (k : ℕ) → tally k (used (label ∷ others) v.chain) ≡ bit (eqb 0 k) + (tally k v.chain + (tally k (slots_of label) + tally k (flat slots_of others)))
  counts k = let a = used_tally (label ∷ others) v.chain k in let b = tally_append k (slots_of label) (flat slots_of others) in omega arith

  chains : (k : ℕ) → (tally k v.chain ≡ tally k (take need v.chain) + tally k tail) × (tally k (take need v.chain) ≤ tally k w.chain)
  chains k =
      let a = sum_take (λ x. bit (eqb x k)) need v.chain in
      let b = ap (tally k) chain_is ∙ tally_append k (take need v.chain) new in
      (omega arith, omega arith)

  -- the chain that is left, in the members that stay and the others
  parts : (k : ℕ) → tally k w.chain ≡ tally k (take from w.chain) + tally k (drop from w.chain)
  parts k = sym (sum_take (λ x. bit (eqb x k)) from w.chain)

  lasts : (k : ℕ) → tally k last ≡ tally k mid + (tally k (drop from w.chain) + bit (eqb 0 k))
  lasts k = let a = tally_append k mid (drop from w.chain ++ (0 ∷ [])) in let b = tally_append k (drop from w.chain) (0 ∷ []) in omega arith

  started : Pending w (tail ++ (freed ++ last)) (encode v)
  started =
      begin v w hv hw geo (tail ++ (freed ++ last))
      (λ k b z.
      elim (dec_le 1 (tally k (take from w.chain))) [
        | yes u ↦ All_tally (λ j. record_of v j ≡ record_of w j) (take from w.chain) st.kept k u
        | no u ↦
            let n = lt_of_not-le u in
            let a = tally_append k tail (freed ++ last) in
            let y = tally_append k freed last in
            let c = lasts k in
            let d0 = (chains k).0 in
            let d1 = (chains k).1 in
            let e = label-in k in
            let f = parts k in
            let p : 1 ≤ k = positive k (omega arith) in
            same_slot v w hv hw geo k p b (omega arith) (omega arith) (alike_both k v.labels others w.labels (stays k p (omega arith)) (alike k p (omega arith)))
      ])
    where
      positive : (k : ℕ) → bit (eqb 0 k) ≡ 0 → 1 ≤ k
      positive zero e = let b = ap bit (eq-eqb 0 0 refl) in absurd (omega arith)
      positive (suc k) e = omega arith

  -- a slot of the old chain's end, or of the label: it is in the table, and empty where it is not written again
  empty_or : (ps : List ℕ) (k : ℕ) → ((j : ℕ) → tally j last ≤ tally j ps) → 1 ≤ tally k tail + tally k (slots_of label) → EmptyOr w hw ps k
  empty_or ps k more there = (
    elim (dec_le (slots g) k) [
      | yes u ↦ let a = slot_in k u in let b = counts k in let c = (chains k).0 in absurd (omega arith)
      | no u ↦ lt_of_not-le u
    ],
    λ z.
        let a = slot_once k in
        let b = counts k in
        let c = lasts k in
        let d = used_tally w.labels w.chain k in
        let e = labels_in k in
        let f = more k in
        let h = (chains k).0 in
        let i = parts k in
        let j = st.old k in
        omega arith,
  )

  pub emptied : (t : List ℕ) → t ≡ encode v → Pending w last (cleared (cleared t tail) freed)
  emptied t e =
      clear_pending w hw freed last (cleared t tail)
      (tally_All (EmptyOr w hw last) freed (λ k u. empty_or last k (λ j. omega arith) (let a = freed_in k in omega arith)))
      (clear_pending w hw tail (freed ++ last) t
      (tally_All (EmptyOr w hw (freed ++ last)) tail
      (λ k u. let d = (chains k).0 in empty_or (freed ++ last) k (λ j. let a = tally_append j freed last in omega arith) (omega arith)))
      (subst (λ (x : List ℕ). Pending w (tail ++ (freed ++ last)) x) (sym e) started))

-- the chain from member number `from` on, and the format 4, last
pub finished : (w : Volume) → Valid w → (from : ℕ) (f : List Run) (t : List ℕ) (empty : ℕ) → f ≡ drop (26 * from) (free w.geometry w.labels) → empty ≡ length (format0s w)
    → Pending w (drop from w.chain ++ (0 ∷ [])) t → four_put w.geometry (fives_put w.geometry t (fives (drop from w.chain) f)) empty ≡ encode w
finished w hw from f t empty e k p = four_done w hw _ empty k (chain_pending w hw from f (0 ∷ []) t e p)

pub cleared_both : (t xs ys : List ℕ) → cleared (cleared t xs) ys ≡ cleared t (xs ++ ys)
unfolding cleared
cleared_both t [] ys = refl
cleared_both t (x ∷ xs) ys = cleared_both (put_record t x (zeros 140)) xs ys
