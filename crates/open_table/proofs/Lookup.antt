-- The lookup in a taken table finds the slot of the data set that the rules find. Assumes nothing.
use mathlib.Core.Path.{◌≡◌, refl, sym, ap, ap₂, ◌∙◌, subst}
use mathlib.Core.Bool.{Bool, true, false, cond, not, ◌&&◌}
use mathlib.Core.Option.{Option, none, some}
use mathlib.Core.List.{List, [], ◌∷◌}
use Prim.Native.Nat.{ℕ, suc, ◌+◌, ◌*◌, ◌/◌, ◌<◌}
use native.Mathlib.Nat.{add-zero, zero-add}
use native.Mathlib.Omega.{arith}
use lib.Dec.{T}
use lib.ListN.{get_or, length}
use Rattle.model.specs.Basics.{any, find, keep_if, same}
use Rattle.model.specs.Model.{Geometry, Label, Volume, slots}
use Rattle.model.proofs.Lists.{by}
use Rattle.rules.specs.Reading.{chop, read, read_label, read_labels, read_records}
use Rattle.rules.specs.Slots.{found}
use Rattle.rules.specs.Table.{named, taken}
use Rattle.rules.specs.Predicates.{Limits}
use Rattle.dscb.specs.Records.{slot_bytes}
use Rattle.dscb.proofs.Records.{chop_slot, length_chop}
use Rattle.names.specs.Find.{Answer, find_slot, first_named, in_slot, is_label, is_named, is_nothing, name_of, not_found}
use Rattle.open_table.specs.Opening.{FoundAt, found_slot}
use Rattle.open_table.proofs.Laws.{found_label, ready}

module _ (g : Geometry) (R : List (List ℕ)) (name : List ℕ) where
  -- a record that is no label, one that has another name, and one that has this
  kept : (k : ℕ) (r : List ℕ) (ls : List Label) (a : Bool) → found_slot (find (named name) (keep_if a (read_label g R k r) ls)) ≡ cond (a && same (name_of r) name) (in_slot k) (found_slot (find (named name) ls))
  unfolding read_label
  kept k r ls true = by (same (name_of r) name) (λ h. rw h) (λ h. rw h)
  kept k r ls false = refl

  first_read : (t : List ℕ) (more : List (List ℕ)) (k : ℕ) → ((i : ℕ) → i < length more → get_or more i [] ≡ slot_bytes t (k + i)) → first_named t name k (length more) ≡ found_slot (find (named name) (read_labels g R k more))
  unfolding first_named is_named
  first_read t [] k h = refl
  first_read t (r ∷ more) k h =
      let e : slot_bytes t k ≡ r = sym (h 0 (omega arith) ∙ ap (slot_bytes t) (add-zero k)) in
      let i = first_read t more (suc k) (λ i u. h (suc i) (omega arith) ∙ ap (slot_bytes t) (let q : k + suc i ≡ suc k + i = omega arith in q)) in
      ap₂ (λ (x : List ℕ) (f : Answer). cond (is_named x name) (in_slot k) f) e i ∙ sym (kept k r (read_labels g R (suc k) more) (is_label r))

records_found : (t : List ℕ) (n : ℕ) → n ≡ length t / 140 → (name : List ℕ) → find_slot t name n ≡ found_slot (found (read t) name)
unfolding read read_records find_slot
records_found t n e name =
    let R = chop (length t / 140) t in
    let l = length_chop (length t / 140) t in
    let q : n ≡ length R = e ∙ sym l in
    ap (first_named t name 0) q ∙ first_read (read t).geometry R name t R 0 (λ i u. chop_slot (length t / 140) t i (omega arith) ∙ ap (slot_bytes t) (sym (zero-add i)))

pub lookup : (t : List ℕ) → T (taken t) → (name : List ℕ) → find_slot t name (slots (read t).geometry) ≡ found_slot (found (read t) name)
lookup t x name = let l = (ready t x).long in records_found t (slots (read t).geometry) (let q : slots (read t).geometry ≡ length t / 140 = omega arith in q) name

-- a slot is that of the data set found, and nothing means that there is none
pub found_slot_lem : (v : Volume) (name : List ℕ) (k : ℕ) → found_slot (found v name) ≡ in_slot k → (l : Label) × (found v name ≡ some l) × (l.slot ≡ k)
found_slot_lem v name k e = go (found v name) refl e
  where
    go : (o : Option Label) → found v name ≡ o → found_slot o ≡ in_slot k → (l : Label) × (found v name ≡ some l) × (l.slot ≡ k)
    go none p q = absurd (let z : ◌≡◌ {A = ℕ} 5 0 = ap (λ (x : Answer). x.number) q in omega arith)
    go (some l) p q = (l, p, ap (λ (x : Answer). x.slot) q)

pub found_none : (v : Volume) (name : List ℕ) → found_slot (found v name) ≡ not_found → found v name ≡ none
found_none v name e = go (found v name) e
  where
    go : (o : Option Label) → found_slot o ≡ not_found → o ≡ none
    go none q = refl
    go (some l) q = absurd (let z : ◌≡◌ {A = ℕ} 0 5 = ap (λ (x : Answer). x.number) q in omega arith)

-- ---- as a call has it: the geometry read from the table, and the answer of the lookup

module _ (t : List ℕ) (x : T (taken t)) (g : Geometry) (e : g ≡ (read t).geometry) where
  pub limits_of : Limits g
  limits_of = subst Limits (sym e) (ready t x).limits

  slots_of_lem : slots g ≡ slots (read t).geometry
  slots_of_lem = ap slots e

  pub table_long : length t ≡ 140 * slots g
  table_long = let l = (ready t x).long in let s = slots_of_lem in omega arith

  pub looked_up : (name : List ℕ) → find_slot t name (slots g) ≡ found_slot (found (read t) name)
  looked_up name = ap (λ (n : ℕ). find_slot t name n) slots_of_lem ∙ lookup t x name

  pub not_there : (name : List ℕ) → not_found ≡ find_slot t name (slots g) → found (read t) name ≡ none
  not_there name n = found_none (read t) name (sym (looked_up name) ∙ sym n)

  pub there : (name : List ℕ) (k : ℕ) → in_slot k ≡ find_slot t name (slots g) → FoundAt t (read t) name k
  there name k n =
      let f = found_slot_lem (read t) name k (sym (looked_up name) ∙ sym n) in
      record { label = f.0; same = f.1; slot = f.2; records = found_label t (read t) (ready t x) name f.0 f.1 }

  pub there_inside : (name : List ℕ) (k : ℕ) → in_slot k ≡ find_slot t name (slots g) → k < slots g
  there_inside name k n = let y = there name k n in let s = slots_of_lem in let a = y.slot in let b = y.records.inside in omega arith

-- whether a name is on the volume
any_is : (n : List ℕ) (ls : List Label) → any (named n) ls ≡ not (is_nothing (found_slot (find (named n) ls)))
any_is n [] = refl
any_is n (m ∷ ms) = by (named n m) (λ h. rw h) (λ h. rw h (any_is n ms))

pub on_volume_is : (t : List ℕ) → T (taken t) → (g : Geometry) → g ≡ (read t).geometry → (name : List ℕ) (b : Bool) → b ≡ not (is_nothing (find_slot t name (slots g))) → any (named name) (read t).labels ≡ b
on_volume_is t x g e name b h = any_is name (read t).labels ∙ ap (λ (a : Answer). not (is_nothing a)) (sym (looked_up t x g e name)) ∙ sym h
