-- The names in the slots are those of the labels that are read: `distinct` is `Differ`, and a lookup finds the label's slot.
-- Assumes nothing.
use mathlib.Core.Path.{◌≡◌, refl, sym, ap, ◌∙◌, subst}
use mathlib.Core.Bool.{true, false}
use mathlib.Core.List.{List, [], ◌∷◌}
use Prim.Native.Nat.{ℕ, zero, suc, ◌+◌, ◌≤◌, ◌<◌}
use native.Mathlib.Omega.{arith}
use Rattle.std.specs.Prelude.{Option, Some, None}
use native.Mathlib.Decide.{dec_le}
use native.Mathlib.Nat.{le_refl, lt_of_not-le}
use lib.ListN.{length, get_or}
use Rattle.model.specs.Basics.{same}
use Rattle.model.specs.Model.{Geometry}
use Rattle.model.proofs.Lists.{and_l, and_r, by, clash, is_true, true_is}
use Rattle.rules.specs.Reading.{read_label, read_labels}
use Rattle.rules.proofs.Labels.{same_sym}
use Rattle.rules.specs.Predicates.{Differ, Unlike}
use Rattle.dscb.specs.Records.{slot_bytes}
use Rattle.names.specs.Find.{answer_of, distinct, distinct_from, find_slot, is_label, is_named, is_nothing, name_of, new_at}
use Rattle.names.proofs.Laws.{answered, found_at, label_at, no_label_in, nothing_at}

-- ---- names by slot

-- no two labels among the slots below n have the same name
abbrev pub Apart : (ℕ → List ℕ) → ℕ → Type 0
Apart rec n = (j k : ℕ) → j < k → k < n → is_label (rec j) ≡ true → is_label (rec k) ≡ true → same (name_of (rec j)) (name_of (rec k)) ≡ false

read_name : (g : Geometry) (R : List (List ℕ)) (k : ℕ) (r : List ℕ) → (read_label g R k r).name ≡ name_of r
unfolding read_label
read_name g R k r = refl

unlike→ : (g : Geometry) (R : List (List ℕ)) (n : List ℕ) (k : ℕ) (more : List (List ℕ)) → Unlike n (read_labels g R k more)
    → (i : ℕ) → i < length more → is_label (get_or more i []) ≡ true → same (name_of (get_or more i [])) n ≡ false
unlike→ g R n k [] u i l e = absurd (omega arith)
unlike→ g R n k (r ∷ more) u zero l e = let v = rw e at u in ap (λ (x : List ℕ). same x n) (sym (read_name g R k r)) ∙ v.0
unlike→ g R n k (r ∷ more) u (suc i) l e =
    unlike→ g R n (suc k) more (by (is_label r) (λ h. (rw h at u).1) (λ h. rw h at u)) i (omega arith) e

→unlike : (g : Geometry) (R : List (List ℕ)) (n : List ℕ) (k : ℕ) (more : List (List ℕ))
    → ((i : ℕ) → i < length more → is_label (get_or more i []) ≡ true → same (name_of (get_or more i [])) n ≡ false) → Unlike n (read_labels g R k more)
→unlike g R n k [] f = tt
→unlike g R n k (r ∷ more) f =
    let i = →unlike g R n (suc k) more (λ i l e. f (suc i) (omega arith) e) in
    by (is_label r) (λ h. rw h (ap (λ (x : List ℕ). same x n) (read_name g R k r) ∙ f 0 (omega arith) h, i)) (λ h. rw h i)

pub differ→ : (g : Geometry) (R : List (List ℕ)) (k : ℕ) (more : List (List ℕ)) → Differ (read_labels g R k more) → Apart (λ i. get_or more i []) (length more)
differ→ g R k [] d i j u w p q = absurd (omega arith)
differ→ g R k (r ∷ more) d zero zero u w p q = absurd (omega arith)
differ→ g R k (r ∷ more) d (suc i) zero u w p q = absurd (omega arith)
differ→ g R k (r ∷ more) d zero (suc j) u w p q =
    let e = rw p at d in
    same_sym (name_of r) (name_of (get_or more j []))
    ∙ ap (same (name_of (get_or more j []))) (sym (read_name g R k r))
    ∙ unlike→ g R (read_label g R k r).name (suc k) more e.0 j (omega arith) q
differ→ g R k (r ∷ more) d (suc i) (suc j) u w p q =
    differ→ g R (suc k) more (by (is_label r) (λ h. (rw h at d).1) (λ h. rw h at d)) i j (omega arith) (omega arith) p q

pub entered→differ : (g : Geometry) (R : List (List ℕ)) (k : ℕ) (more : List (List ℕ)) → Apart (λ i. get_or more i []) (length more) → Differ (read_labels g R k more)
entered→differ g R k [] a = tt
entered→differ g R k (r ∷ more) a =
    let i = entered→differ g R (suc k) more (λ i j u w p q. a (suc i) (suc j) (omega arith) (omega arith) p q) in
    by (is_label r)
    (λ h.
    rw h (
      subst (λ (n : List ℕ). Unlike n (read_labels g R (suc k) more)) (sym (read_name g R k r))
          (→unlike g R (name_of r) (suc k) more (λ j l e. same_sym (name_of (get_or more j [])) (name_of r) ∙ a 0 (suc j) (omega arith) (omega arith) h e)),
      i,
    ))
    (λ h. rw h i)

-- ---- `distinct` says the same

named_false : (r name : List ℕ) → is_label r ≡ true → same (name_of r) name ≡ false → is_named r name ≡ false
unfolding is_named
named_false r name l e = rw (l, e)

false_named : (r name : List ℕ) → is_label r ≡ true → is_named r name ≡ false → same (name_of r) name ≡ false
unfolding is_named
false_named r name l e = rw l at e

label_named : (r name : List ℕ) → is_named r name ≡ true → is_label r ≡ true
unfolding is_named
label_named r name e = is_true (and_l (is_label r) (same (name_of r) name) (true_is e))

new_at_lem : (t : List ℕ) (n k : ℕ) → distinct_from t k n ≡ true → (j : ℕ) → k ≤ j → j < k + n → new_at t j ≡ true
unfolding distinct_from
new_at_lem t zero k e j u w = absurd (omega arith)
new_at_lem t (suc n) k e j u w =
    elim (dec_le (suc k) j) [
      | yes x ↦ new_at_lem t n (suc k) (is_true (and_r (new_at t k) (distinct_from t (suc k) n) (true_is e))) j x (omega arith)
      | no x ↦ let q : j ≡ k = let z = lt_of_not-le x in omega arith in rw q (is_true (and_l (new_at t k) (distinct_from t (suc k) n) (true_is e)))
    ]

at_new : (t : List ℕ) (n k : ℕ) → ((j : ℕ) → k ≤ j → j < k + n → new_at t j ≡ true) → distinct_from t k n ≡ true
unfolding distinct_from
at_new t zero k f = refl
at_new t (suc n) k f = rw (f k (le_refl k) (omega arith)) (at_new t n (suc k) (λ j u w. f j (omega arith) (omega arith)))

pub distinct→ : (t : List ℕ) (n : ℕ) → distinct t n ≡ true → Apart (slot_bytes t) n
unfolding distinct
distinct→ t n e j k u w p q =
    let a = new_at_lem t n 0 e k (omega arith) (omega arith) in
    false_named (slot_bytes t j) (name_of (slot_bytes t k)) p
    (go (answered t (name_of (slot_bytes t k)) k).0 (answered t (name_of (slot_bytes t k)) k).1 (sym (label_at t k q) ∙ a))
  where
    go : (f : Option ℕ) → answer_of f ≡ find_slot t (name_of (slot_bytes t k)) k → is_nothing (find_slot t (name_of (slot_bytes t k)) k) ≡ true → is_named (slot_bytes t j) (name_of (slot_bytes t k)) ≡ false
    go None e n = nothing_at t (name_of (slot_bytes t k)) k (sym e) j u
    go (Some i) e n = clash n (sym (ap is_nothing e))

pub →distinct : (t : List ℕ) (n : ℕ) → Apart (slot_bytes t) n → distinct t n ≡ true
unfolding distinct
→distinct t n a = at_new t n 0 (λ k u w. new k (omega arith))
  where
    found : (k : ℕ) → k < n → is_label (slot_bytes t k) ≡ true → (f : Option ℕ) → answer_of f ≡ find_slot t (name_of (slot_bytes t k)) k → is_nothing (find_slot t (name_of (slot_bytes t k)) k) ≡ true
    found k w l None e = sym (ap is_nothing e)
    found k w l (Some j) e =
        let x = found_at t (name_of (slot_bytes t k)) k j (sym e) in
        let h = x.high in
        let y = label_named (slot_bytes t j) (name_of (slot_bytes t k)) x.here in
        clash x.here (named_false (slot_bytes t j) (name_of (slot_bytes t k)) y (a j k (omega arith) w y l))

    new : (k : ℕ) → k < n → new_at t k ≡ true
    new k w = by (is_label (slot_bytes t k)) (λ l. label_at t k l ∙ found k w l (answered t (name_of (slot_bytes t k)) k).0 (answered t (name_of (slot_bytes t k)) k).1) (λ l. no_label_in t k l)
