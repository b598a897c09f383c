-- Where a volume changes, the slots that need no writing: those of labels that stay, and those that stay empty. Assumes nothing.
use mathlib.Core.Path.{◌≡◌, refl, sym, ap, ◌∙◌, subst}
use mathlib.Core.Bool.{Bool, false}
use mathlib.Core.Option.{Option, some}
use mathlib.Core.List.{List, [], ◌∷◌}
use Prim.Native.Nat.{ℕ, zero, suc, ◌+◌, ◌≤◌, ◌<◌}
use native.Mathlib.Omega.{arith}
use lib.Dec.{eqb, ltb}
use borrow.Author.Tests.{ne_eqb}
use Rattle.model.specs.Basics.{bit, find, or_else}
use Rattle.model.specs.Model.{Geometry, Label, Volume, one_slot, slots, slots_of, tally}
use Rattle.model.proofs.Lists.{by, same→eq, some_is, sum_append, true_is}
use Rattle.rules.specs.Layout.{Five, encode, or_five, or_format1, or_format3}
use Rattle.rules.specs.Slots.{insert_label, without}
use Rattle.rules.specs.Table.{named}
use Rattle.rules.proofs.Labels.{without_unlike}
use Rattle.rules.specs.Predicates.{Differ, Unlike, Valid}
use Rattle.rules.proofs.TableBack.{no_five, record_at_lem}
use Rattle.rules.proofs.Taken.{length_encode}
use Rattle.update.specs.Pending.{Pending, record_of, Alike}
use Rattle.update.proofs.Pending.{slot_of}

-- ---- who is found, when a label comes or goes

find_come : (p : Label → Bool) (l : Label) (ls : List Label) → p l ≡ false → find p (insert_label l ls) ≡ find p ls
find_come p l [] e = rw e
find_come p l (m ∷ ms) e = by (ltb l.slot m.slot) (λ h. rw (h, e)) (λ h. rw h (ap (or_else (p m) m) (find_come p l ms e)))

find_gone : (p : Label → Bool) (n : List ℕ) (ls : List Label) (l : Label) → Differ ls → find (named n) ls ≡ some l → p l ≡ false → find p (without n ls) ≡ find p ls
find_gone p n [] l d e f = refl
find_gone p n (m ∷ ms) l d e f =
    by (named n m)
    (λ h.
    let i : m ≡ l = some_is m l (rw h at e) in
    let q : m.name ≡ n = same→eq m.name n (true_is h) in
    let w : without n ms ≡ ms = without_unlike n ms (subst (λ (x : List ℕ). Unlike x ms) q d.0) in
    let g : p m ≡ false = ap p i ∙ f in
    rw (h, w, g))
    (λ h. rw h (ap (or_else (p m) m) (find_gone p n ms l d.1 (rw h at e) f)))

one_slot_lem : (k s : ℕ) → 1 ≤ k → tally k (one_slot s) ≡ bit (eqb s k)
one_slot_lem k zero p = sym (ap bit (ne_eqb 0 k (λ e. absurd (omega arith))))
one_slot_lem k (suc s) p = omega arith

off : (s k : ℕ) → 1 ≤ k → tally k (one_slot s) ≡ 0 → eqb s k ≡ false
off s k p e = by (eqb s k) (λ h. let a = one_slot_lem k s p in let b = ap bit h in absurd (omega arith)) (λ h. h)

module _ (k : ℕ) (pos : 1 ≤ k) (l : Label) (z : tally k (slots_of l) ≡ 0) where
  sums : tally k (one_slot l.slot) + tally k (one_slot l.slot3) ≡ 0
  sums = sym (sum_append (λ x. bit (eqb x k)) (one_slot l.slot) (one_slot l.slot3)) ∙ z

  not_first : eqb l.slot k ≡ false
  not_first = off l.slot k pos (omega (arith, sums))

  not_third : eqb l.slot3 k ≡ false
  not_third = off l.slot3 k pos (omega (arith, sums))

  pub alike_come : (ls : List Label) → Alike k ls (insert_label l ls)
  alike_come ls =
      record {
        first = sym (find_come (λ m. eqb m.slot k) l ls not_first);
        third = sym (find_come (λ m. eqb m.slot3 k) l ls not_third);
      }

  pub alike_gone : (n : List ℕ) (ls : List Label) → Differ ls → find (named n) ls ≡ some l → Alike k ls (without n ls)
  alike_gone n ls d e =
      record {
        first = sym (find_gone (λ m. eqb m.slot k) n ls l d e not_first);
        third = sym (find_gone (λ m. eqb m.slot3 k) n ls l d e not_third);
      }

pub alike_both : (k : ℕ) (ls ms ns : List Label) → Alike k ls ms → Alike k ms ns → Alike k ls ns
alike_both k ls ms ns a b = record { first = a.first ∙ b.first; third = a.third ∙ b.third }

-- ---- the table before the change

module _ (v w : Volume) (hv : Valid v) (hw : Valid w) (geo : w.geometry ≡ v.geometry) where
  labels_only : (u : Volume) → Valid u → (k : ℕ) → 1 ≤ k → k < slots u.geometry → tally k u.chain ≡ 0
      → record_of u k ≡ or_format1 u.geometry (find (λ l. eqb l.slot k) u.labels) (or_format3 u.geometry (find (λ l. eqb l.slot3 k) u.labels))
  labels_only u h k p b z =
      record_at_lem u h k p b
      ∙ ap (λ (o : Option Five). or_five u.geometry o (or_format1 u.geometry (find (λ l. eqb l.slot k) u.labels) (or_format3 u.geometry (find (λ l. eqb l.slot3 k) u.labels))))
      (no_five u h k z)

  -- a slot out of the way of both chains, and of labels that change
  pub same_slot : (k : ℕ) → 1 ≤ k → k < slots w.geometry → tally k v.chain ≡ 0 → tally k w.chain ≡ 0 → Alike k v.labels w.labels → record_of v k ≡ record_of w k
  same_slot k p b z y a =
      labels_only v hv k p (subst (λ (g : Geometry). k < slots g) geo b) z
      ∙ ap (λ (g : Geometry). or_format1 g (find (λ l. eqb l.slot k) v.labels) (or_format3 g (find (λ l. eqb l.slot3 k) v.labels))) (sym geo)
      ∙ (rw (a.first, a.third))
      ∙ sym (labels_only w hw k p b y)

  -- slots that hold the same in both volumes need no writing
  pub begin : (ps : List ℕ) → ((k : ℕ) → k < slots w.geometry → tally k ps ≡ 0 → record_of v k ≡ record_of w k) → Pending w ps (encode v)
  begin ps e =
      let l = length_encode v hv in
      let n = ap slots geo in
      record { long = omega arith; right = λ k b z. slot_of v hv k (omega arith) ∙ e k b z }
