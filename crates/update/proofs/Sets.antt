-- A data set found in a volume, apart from the others: what the calls that change it need to know. Assumes nothing.
use mathlib.Core.Path.{◌≡◌, sym, ◌∙◌}
use mathlib.Core.Option.{some}
use mathlib.Core.List.{List, ◌∷◌, ◌++◌}
use Prim.Native.Nat.{ℕ, ◌+◌, ◌≤◌, ◌<◌}
use native.Mathlib.Omega.{arith}
use lib.Dec.{eqb}
use Rattle.model.specs.Basics.{bit, sum_of}
use Rattle.model.specs.Model.{Geometry, Label, Run, Volume, covers, held, runs_of, slots, slots_of, tally, times, used}
use Rattle.model.proofs.Lists.{sum_append}
use Rattle.rules.specs.Slots.{found, without}
use Rattle.rules.proofs.Labels.{without_sum}
use Rattle.rules.proofs.Settle.{used_tally}
use Rattle.rules.proofs.Valid.{held_times, slots_tally}
use Rattle.rules.specs.Predicates.{Valid}
use Rattle.bitmap.specs.Map.{Shows}
use Rattle.bitmap.proofs.Held.{shows_same}
use Rattle.check_label.specs.Marks.{units}
use Rattle.check_table.proofs.Scan.{unit_tally}
use Rattle.update.proofs.Started.{alike_gone}
use Rattle.update.specs.Pending.{Alike}

-- the map shows slots in whatever order they are counted
pub slots_shown : (s : List ℕ) (n : ℕ) (us us' : List ℕ) → ((k : ℕ) → k < n → tally k us ≡ tally k us') → Shows s n (units us) → Shows s n (units us')
slots_shown s n us us' e h = shows_same s n (units us) (units us') (λ k u. unit_tally k us ∙ e k u ∙ sym (unit_tally k us')) h

-- a label's tracks in front of what the others hold
pub held_front : (g : Geometry) (l : Label) (ls : List Label) (t : ℕ) → times t (runs_of l ++ held g ls) ≡ times t (held g (l ∷ ls))
held_front g l ls t =
    let a = sum_append (λ r. bit (covers r t)) (runs_of l) (held g ls) in
    let b = held_times g ls t in
    let c = held_times g (l ∷ ls) t in
    omega arith

module _ (v : Volume) (h : Valid v) (n : List ℕ) (l : Label) (f : found v n ≡ some l) where
  abbrev pub others : List Label
  others = without n v.labels

  less : (F : Label → ℕ) → sum_of F v.labels ≡ F l + sum_of F others
  less F = without_sum F n v.labels l h.differ f

  -- what the map of free tracks shows, with this label's tracks in front
  pub held_apart_lem : (t : ℕ) → times t (held v.geometry v.labels) ≡ times t (runs_of l ++ held v.geometry others)
  held_apart_lem t =
      let a = held_times v.geometry v.labels t in
      let b = less (λ m. times t (runs_of m)) in
      let c = held_front v.geometry l others t in
      let d = held_times v.geometry (l ∷ others) t in
      omega arith

  -- the same slots, with this label's in front
  pub used_apart : (k : ℕ) → tally k (used v.labels v.chain) ≡ tally k (slots_of l ++ used others v.chain)
  used_apart k =
      let a = used_tally v.labels v.chain k in
      let b = used_tally others v.chain k in
      let c = slots_tally v.labels k in
      let d = slots_tally others k in
      let e = less (λ m. tally k (slots_of m)) in
      let i = sum_append (λ x. bit (eqb x k)) (slots_of l) (used others v.chain) in
      omega arith

  -- a label in its place that has its slots
  module _ (l₀ : Label) (same : l₀.slot ≡ l.slot) (same3 : l₀.slot3 ≡ l.slot3) where
    slots_are : (k : ℕ) → tally k (slots_of l₀) ≡ tally k (slots_of l)
    slots_are k = rw (same, same3)

    pub slots_same : (k : ℕ) → tally k (used (l₀ ∷ others) v.chain) ≡ tally k (used v.labels v.chain)
    slots_same k =
        let a = used_tally (l₀ ∷ others) v.chain k in
        let b = slots_tally (l₀ ∷ others) k in
        let c = used_tally v.labels v.chain k in
        let d = slots_tally v.labels k in
        let e = less (λ m. tally k (slots_of m)) in
        let i = slots_are k in
        omega arith

    pub slots_once : (k : ℕ) → tally k (used (l₀ ∷ others) v.chain) ≤ 1
    slots_once k = let a = slots_same k in let b = h.slot_once k in omega arith

    pub slots_inside : (k : ℕ) → slots v.geometry ≤ k → tally k (used (l₀ ∷ others) v.chain) ≡ 0
    slots_inside k u = slots_same k ∙ h.slot_in k u

    pub others_stay : (k : ℕ) → 1 ≤ k → tally k (slots_of l₀) ≡ 0 → Alike k v.labels others
    others_stay k p z = alike_gone k p l (sym (slots_are k) ∙ z) n v.labels h.differ f

-- below the tracks of the label, old and new, the map shows what the volume held before
pub shows_below : (g : Geometry) (m : List ℕ) (n lo : ℕ) (ls : List Label) (hs old new : List Run) → lo ≤ n
    → ((t : ℕ) → times t (held g ls) ≡ times t (old ++ hs)) → ((t : ℕ) → t < lo → times t old ≡ times t new) → Shows m n (new ++ hs) → Shows m lo (held g ls)
shows_below g m n lo ls hs old new u apart same h t v =
    let a = h t (omega arith) in
    let b = apart t in
    let c = same t v in
    let d = sum_append (λ r. bit (covers r t)) old hs in
    let e = sum_append (λ r. bit (covers r t)) new hs in
    omega arith
