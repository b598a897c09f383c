-- A label tested and taken: what its parts give together. Assumes nothing.
use mathlib.Core.Path.{◌≡◌, refl, sym, ap, ap₂, ◌∙◌, subst}
use mathlib.Core.Bool.{Bool, true, false}
use mathlib.Core.List.{List, ◌++◌}
use Prim.Native.Nat.{ℕ, ◌*◌, ◌≤◌, ◌<◌}
use native.Mathlib.Nat.{mul-le-mul_left}
use native.Mathlib.Omega.{arith}
use lib.ListN.{length, get_or}
use Rattle.model.specs.Model.{Extent, Geometry, Label, one_slot, overs, slots, slots_of, tracks}
use Rattle.model.proofs.Lists.{by, clash}
use Rattle.model.specs.Predicates.{Once}
use Rattle.rules.specs.Reading.{chop, read_extents, read_label, record_at, slot_at}
use Rattle.rules.specs.Sound.{LabelOk}
use Rattle.bitmap.specs.Map.{Shows}
use Rattle.dscb.specs.Records.{slot_bytes}
use Rattle.rows.specs.Words.{Bytes}
use Rattle.dscb.proofs.Records.{chop_slot, length_part}
use Rattle.std.specs.Prelude.{None, Some}
use Rattle.std.specs.Bool.{then_some}
use Rattle.check_label.specs.Label.{form_of, shape_of, used_ok}
use Rattle.check_label.specs.Marks.{AtLabel, Took, TookLabel, TookSlots, TookTested, label_at, units}
use Rattle.check_label.proofs.Shape.{Shaped, shape_bad, shape_good}
use Rattle.check_label.proofs.Meaning.{form_bad, form_good, label_slot, slot3_is_lem}

module _ (g : Geometry) (t : List ℕ) (k : ℕ) (a : AtLabel g t k) (bytes : Bytes t) where
  abbrev rs : List (List ℕ)
  rs = chop (slots g) t

  abbrev l : Label
  l = label_at g t k

  abbrev f1 : List ℕ
  f1 = slot_bytes t k

  abbrev Good_with : ℕ → Type 0
  Good_with q = LabelOk g rs l × (l.slot3 ≡ q) × (q < slots g)

  pub good_form : (q : ℕ) → form_of g t k ≡ Some q → Good_with q
  good_form q e = form_good g a.limits t bytes a.long k a.low a.high a.id q e

  bad_form : (m m' s s' : List ℕ) → length m' ≡ length m → length s' ≡ length s → form_of g t k ≡ None → TookLabel g t k m m' s s' false
  bad_form m m' s s' lm ls e =
      record {
        long_map = lm;
        long_slots = ls;
        good = λ q. clash {b = false} q refl;
        free = λ q. clash {b = false} q refl;
        empty = λ q. clash {b = false} q refl;
        no = λ q hs us h u ok o w. form_bad g a.limits t bytes a.long k a.low a.high a.id e ok;
      }

  pub slot_long : (j : ℕ) → j < slots g → length (slot_bytes t j) ≡ 140
  slot_long j u = length_part (140 * j) 140 t (let m = mul-le-mul_left 140 u in omega (arith, a.long))

  pub label_bad : (m s : List ℕ) → shape_of g t k ≡ None → TookLabel g t k m m s s false
  label_bad m s e = bad_form m m s s refl refl (shape_bad g a.limits t slot_long k a.high e)

  pub shaped : (q : ℕ) → shape_of g t k ≡ Some q → Shaped g a.limits t slot_long k a.high q
  shaped q e = shape_good g a.limits t slot_long k a.high q e

  module _ (q : ℕ) (ok : Good_with q) where
    slots_are : slots_of l ≡ one_slot k ++ one_slot q
    slots_are = ap₂ (λ (x y : ℕ). one_slot x ++ one_slot y) (label_slot g a.limits t bytes a.long k a.low a.high a.id) ok.1

    pub slots_bad : (m s s' : List ℕ) → TookSlots k q s s' false → TookLabel g t k m m s s' false
    slots_bad m s s' x =
        record {
          long_map = refl;
          long_slots = x.long;
          good = λ e. clash {b = false} e refl;
          free = λ e. clash {b = false} e refl;
          empty = λ e. clash {b = false} e refl;
          no = λ e hs us h u good o w. x.no refl (slots g) a.high ok.2 us u (subst (λ (ks : List ℕ). Once (slots g) (units ks ++ us)) slots_are w);
        }

    third_is : record_at rs (slot_at g f1 135) ≡ slot_bytes t q
    third_is = ap (record_at rs) (sym (slot3_is_lem g a.limits t bytes a.long k a.low a.high a.id) ∙ ok.1) ∙ chop_slot (slots g) t q ok.2

    extents_are_lem : l.extents ≡ read_extents g.heads f1 (slot_bytes t q) (get_or f1 59 0)
    unfolding read_label
    extents_are_lem = ap (λ (x : List ℕ). read_extents g.heads f1 x (get_or f1 59 0)) third_is

    pub label_taken : (m m' s s' : List ℕ) (r : Bool) → TookSlots k q s s' true → Took (tracks g) (overs (read_extents g.heads f1 (slot_bytes t q) (get_or f1 59 0))) m m' r
        → TookLabel g t k m m' s s' r
    label_taken m m' s s' r x y =
        record {
          long_map = y.long;
          long_slots = x.long;
          good = λ e. ok.0;
          free = λ e hs h. subst (λ (es : List Extent). Shows m' (tracks g) (overs es ++ hs)) (sym extents_are_lem) (y.yes e hs h);
          empty = λ e us u. subst (λ (ks : List ℕ). Shows s' (slots g) (units ks ++ us)) (sym slots_are) (x.yes refl (slots g) us u);
          no = λ e hs us h u good o w. y.no e hs h (subst (λ (es : List Extent). Once (tracks g) (overs es ++ hs)) extents_are_lem o);
        }

  -- ---- the shape is good: the extents in use decide

  module _ (q : ℕ) (e : shape_of g t k ≡ Some q) where
    abbrev used : Bool
    used = used_ok g f1 (slot_bytes t q) (get_or f1 59 0)

    form_is : form_of g t k ≡ then_some used q
    form_is = (shaped q e).form

    when_good : used ≡ true → Good_with q
    when_good u = good_form q (form_is ∙ ap (λ (b : Bool). then_some b q) u)

    when_bad : used ≡ false → (m m' s s' : List ℕ) → length m' ≡ length m → length s' ≡ length s → TookLabel g t k m m' s s' false
    when_bad u m m' s s' lm ls = bad_form m m' s s' lm ls (form_is ∙ ap (λ (b : Bool). then_some b q) u)

    pub slots_refused : (m s s' : List ℕ) → TookSlots k q s s' false → TookLabel g t k m m s s' false
    slots_refused m s s' x = by used (λ u. slots_bad q (when_good u) m s s' x) (λ u. when_bad u m m s s' refl x.long)

    tested : (m m' s s' : List ℕ) (r : Bool) → TookSlots k q s s' true → TookTested g f1 (slot_bytes t q) (get_or f1 59 0) m m' r → TookLabel g t k m m' s s' r
    tested m m' s s' true x y = label_taken q (when_good (y.good refl)) m m' s s' true x (y.took (y.good refl))
    tested m m' s s' false x y = by used (λ u. label_taken q (when_good u) m m' s s' false x (y.took u)) (λ u. when_bad u m m' s s' y.long x.long)

    -- the same for the records and the count as the code has them
    module _ (x1 x3 : List ℕ) (n : ℕ) (e1 : x1 ≡ f1) (e3 : x3 ≡ slot_bytes t q) (en : n ≡ get_or x1 59 0) where
      count : n ≡ get_or f1 59 0
      count = en ∙ ap (λ (x : List ℕ). get_or x 59 0) e1

      pub asked_few : n ≤ 16
      asked_few = let a = (shaped q e).few in let b = count in omega arith

      pub taken_so : (m m' s s' : List ℕ) (r : Bool) → TookSlots k q s s' true → TookTested g x1 x3 n m m' r → TookLabel g t k m m' s s' r
      taken_so m m' s s' r x y = tested m m' s s' r x (subst (λ (i : ℕ). TookTested g f1 (slot_bytes t q) i m m' r) count (subst (λ (z : List ℕ). TookTested g f1 z n m m' r) e3 (subst (λ (z : List ℕ). TookTested g z x3 n m m' r) e1 y)))
