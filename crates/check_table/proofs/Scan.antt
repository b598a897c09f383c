-- The scan of the labels: one slot, and one after the other. Assumes nothing.
use mathlib.Core.Path.{◌≡◌, refl, sym, ◌∙◌, subst, ap}
use mathlib.Core.Bool.{Bool, true, false}
use mathlib.Core.List.{List, [], ◌++◌, append-nil, ◌∷◌, append_assoc}
use Prim.Native.Nat.{ℕ, ◌≤◌, suc, ◌+◌, zero, ◌-◌, ◌<◌}
use native.Mathlib.Omega.{arith}
use native.Mathlib.Numerals.{add-one}
use borrow.Author.Tests.{eqb-false, eqb-true}
use native.Mathlib.Decide.{dec_le}
use native.Mathlib.Nat.{lt_of_not-le, zero-add, add-zero}
use lib.Dec.{eqb}
use Rattle.model.specs.Basics.{bit, flat, sum_of, up_from}
use Rattle.model.specs.Model.{Geometry, Label, Run, covers, run, runs_of, slots, slots_of, tally, times, tracks}
use Rattle.model.proofs.Lists.{All_append, All_left, All_right, by, clash, sum_append, sum_flat}
use Rattle.model.proofs.Runs.{hit_above, hit_below, hit_in}
use Rattle.rules.specs.Reading.{chop}
use Rattle.rules.specs.Sound.{LabelOk}
use Rattle.bitmap.proofs.Held.{shows_same}
use Rattle.dscb.specs.Records.{slot_bytes}
use Rattle.names.specs.Find.{distinct, is_label}
use Rattle.check_label.specs.Marks.{TookLabel, label_at, units}
use Rattle.check_table.specs.Labels.{GoneBelow, LabelsGone, LabelsTaken, Looked, at_slot, labels_below}

-- ---- no label

pub gone_none : (g : Geometry) (t m s : List ℕ) → LabelsGone g t [] m m s s true
gone_none g t m s =
    record {
      long_map = refl;
      long_slots = refl;
      good = λ e. tt;
      free = λ e hs h. h;
      empty = λ e us u. u;
      no = λ e. clash {b = true} refl e;
    }

pub look_other : (g : Geometry) (t m s : List ℕ) (k : ℕ) → is_label (slot_bytes t k) ≡ false → Looked g t k m m s s true
look_other g t m s k e = rw e (gone_none g t m s)

-- ---- one label

pub look_label : (g : Geometry) (t m m' s s' : List ℕ) (k : ℕ) (r : Bool) → is_label (slot_bytes t k) ≡ true → TookLabel g t k m m' s s' r → Looked g t k m m' s s' r
look_label g t m m' s s' k r e x = rw e (record {
  long_map = x.long_map;
  long_slots = x.long_slots;
  good = λ q. (x.good q, tt);
  free = λ q hs h. rw (append-nil (runs_of l)) (x.free q hs h);
  empty = λ q us u. rw (append-nil (slots_of l)) (x.empty q us u);
  no = λ q hs us h u a o w. x.no q hs us h u a.0 (rw (append-nil (runs_of l)) at o) (rw (append-nil (slots_of l)) at w);
})
  where
    l : Label
    l = label_at g t k

-- ---- slots as runs of one

unit_hit : (j k : ℕ) → bit (covers (run j 1) k) ≡ bit (eqb j k)
unit_hit j k =
    by (eqb j k)
    (λ e. let q : j ≡ k = eqb-true _ _ e in hit_in (run j 1) k (omega arith) (omega arith) ∙ sym (ap bit e))
    (λ e.
    let q : j ≡ k → ⊥ = eqb-false _ _ e in
    elim (dec_le j k) [
      | yes u ↦ hit_above (run j 1) k (omega arith) ∙ sym (ap bit e)
      | no u ↦ hit_below (run j 1) k (lt_of_not-le u) ∙ sym (ap bit e)
    ])

pub unit_tally : (k : ℕ) (ks : List ℕ) → times k (units ks) ≡ tally k ks
unit_tally k [] = refl
unit_tally k (j ∷ ks) = let i = unit_tally k ks in let h = unit_hit j k in omega arith

-- ---- labels ls, and then more

module _ (g : Geometry) (t m m' m'' s s' s'' : List ℕ) (ls ks : List Label) (r : Bool) (x : LabelsGone g t ls m m' s s' true) (y : LabelsGone g t ks m' m'' s' s'' r) where
  held_same : (hs : List Run) (k : ℕ) → times k (flat runs_of ks ++ (flat runs_of ls ++ hs)) ≡ times k (flat runs_of (ls ++ ks) ++ hs)
  held_same hs k =
      let F : Run → ℕ = λ q. bit (covers q k) in
      let a = sum_append F (flat runs_of ks) (flat runs_of ls ++ hs) in
      let b = sum_append F (flat runs_of ls) hs in
      let c = sum_append F (flat runs_of (ls ++ ks)) hs in
      let d = sum_flat F runs_of (ls ++ ks) in
      let e = sum_append (λ l. sum_of F (runs_of l)) ls ks in
      let f = sum_flat F runs_of ls in
      let i = sum_flat F runs_of ks in
      omega arith

  slots_same : (us : List Run) (k : ℕ) → times k (units (flat slots_of ks) ++ (units (flat slots_of ls) ++ us)) ≡ times k (units (flat slots_of (ls ++ ks)) ++ us)
  slots_same us k =
      let F : Run → ℕ = λ q. bit (covers q k) in
      let G : ℕ → ℕ = λ j. bit (eqb j k) in
      let a = sum_append F (units (flat slots_of ks)) (units (flat slots_of ls) ++ us) in
      let b = sum_append F (units (flat slots_of ls)) us in
      let c = sum_append F (units (flat slots_of (ls ++ ks))) us in
      let p = unit_tally k (flat slots_of ks) in
      let q = unit_tally k (flat slots_of ls) in
      let w = unit_tally k (flat slots_of (ls ++ ks)) in
      let d = sum_flat G slots_of (ls ++ ks) in
      let e = sum_append (λ l. sum_of G (slots_of l)) ls ks in
      let f = sum_flat G slots_of ls in
      let i = sum_flat G slots_of ks in
      omega arith

  pub gone_more : LabelsGone g t (ls ++ ks) m m'' s s'' r
  gone_more =
      record {
        long_map = y.long_map ∙ x.long_map;
        long_slots = y.long_slots ∙ x.long_slots;
        good = λ e. All_append (LabelOk g (chop (slots g) t)) ls ks (x.good refl) (y.good e);
        free = λ e hs h. shows_same m'' (tracks g) (flat runs_of ks ++ (flat runs_of ls ++ hs)) (flat runs_of (ls ++ ks) ++ hs) (λ k u. held_same hs k) (y.free e (flat runs_of ls ++ hs) (x.free refl hs h));
        empty = λ e us u. shows_same s'' (slots g) (units (flat slots_of ks) ++ (units (flat slots_of ls) ++ us)) (units (flat slots_of (ls ++ ks)) ++ us) (λ k w. slots_same us k) (y.empty e (units (flat slots_of ls) ++ us) (x.empty refl us u));
        no = λ e hs us h u a o w.
            y.no e (flat runs_of ls ++ hs) (units (flat slots_of ls) ++ us) (x.free refl hs h) (x.empty refl us u) (All_right (LabelOk g (chop (slots g) t)) ls ks a)
            (λ k v. subst (λ (z : ℕ). z ≤ 1) (sym (held_same hs k)) (o k v)) (λ k v. subst (λ (z : ℕ). z ≤ 1) (sym (slots_same us k)) (w k v));
      }

-- ---- the loop

flat_last : {A : Type 0} (f : ℕ → List A) (a n : ℕ) → flat f (up_from a (suc n)) ≡ flat f (up_from a n) ++ f (a + n)
flat_last f a zero = append-nil (f a) ∙ ap f (sym (add-zero a))
flat_last {A} f a (suc n) =
    let q : suc a + n ≡ a + suc n = omega arith in
    ap (λ (x : List A). f a ++ x) (flat_last f (suc a) n ∙ ap (λ (k : ℕ). flat f (up_from (suc a) n) ++ f k) q)
    ∙ sym (append_assoc (f a) (flat f (up_from (suc a) n)) (f (a + suc n)))

pub below_next : (g : Geometry) (t : List ℕ) (k : ℕ) → labels_below g t (k + 1) ≡ labels_below g t k ++ at_slot g t k
unfolding labels_below
below_next g t k = ap (λ (n : ℕ). flat (at_slot g t) (up_from 0 n)) (add-one k) ∙ flat_last (at_slot g t) 0 k ∙ ap (λ (n : ℕ). flat (at_slot g t) (up_from 0 k) ++ at_slot g t n) (zero-add k)

pub below_one : (g : Geometry) (t : List ℕ) → is_label (slot_bytes t 0) ≡ false → labels_below g t 1 ≡ []
unfolding labels_below
below_one g t e = rw e

-- the labels below a slot come first
below_more : (g : Geometry) (t : List ℕ) (k d : ℕ) → (more : List Label) × (labels_below g t (k + d) ≡ labels_below g t k ++ more)
below_more g t k zero = ([], ap (labels_below g t) (add-zero k) ∙ sym (append-nil (labels_below g t k)))
below_more g t k (suc d) =
    let i = below_more g t k d in
    let q : k + suc d ≡ k + d + 1 = omega arith in
    (i.0 ++ at_slot g t (k + d), ap (labels_below g t) q ∙ below_next g t (k + d) ∙ ap (λ (x : List Label). x ++ at_slot g t (k + d)) i.1 ∙ append_assoc (labels_below g t k) i.0 (at_slot g t (k + d)))

-- what is wrong with the first labels is wrong with all
gone_wrong : (g : Geometry) (t m m' s s' : List ℕ) (ls ks : List Label) → LabelsGone g t ls m m' s s' false → LabelsGone g t (ls ++ ks) m m' s s' false
gone_wrong g t m m' s s' ls ks x =
    record {
      long_map = x.long_map;
      long_slots = x.long_slots;
      good = λ e. clash {b = false} e refl;
      free = λ e. clash {b = false} e refl;
      empty = λ e. clash {b = false} e refl;
      no = λ e hs us h u a o w.
          x.no refl hs us h u (All_left (LabelOk g (chop (slots g) t)) ls ks a)
          (λ k v.
          let F : Run → ℕ = λ q. bit (covers q k) in
          let p = o k v in
          let c = sum_append F (flat runs_of (ls ++ ks)) hs in
          let b = sum_append F (flat runs_of ls) hs in
          let d = sum_flat F runs_of (ls ++ ks) in
          let i = sum_append (λ l. sum_of F (runs_of l)) ls ks in
          let f = sum_flat F runs_of ls in
          omega arith)
          (λ k v.
          let F : Run → ℕ = λ q. bit (covers q k) in
          let G : ℕ → ℕ = λ j. bit (eqb j k) in
          let p = w k v in
          let c = sum_append F (units (flat slots_of (ls ++ ks))) us in
          let b = sum_append F (units (flat slots_of ls)) us in
          let y = unit_tally k (flat slots_of ls) in
          let z = unit_tally k (flat slots_of (ls ++ ks)) in
          let d = sum_flat G slots_of (ls ++ ks) in
          let i = sum_append (λ l. sum_of G (slots_of l)) ls ks in
          let f = sum_flat G slots_of ls in
          omega arith);
    }

module _ (g : Geometry) (t m m' m'' s s' s'' : List ℕ) (k : ℕ) (x : GoneBelow g t k m m' s s' true) where
  pub scan_next : (r : Bool) → r ≡ true → Looked g t k m' m'' s' s'' r → GoneBelow g t (k + 1) m m'' s s'' true
  scan_next r e y =
      subst (λ (ls : List Label). LabelsGone g t ls m m'' s s'' true) (sym (below_next g t k))
      (gone_more g t m m' m'' s s' s'' (labels_below g t k) (at_slot g t k) true x (subst (λ (b : Bool). Looked g t k m' m'' s' s'' b) e y))

  pub scan_stop : (r : Bool) (n : ℕ) → r ≡ false → k < n → Looked g t k m' m'' s' s'' r → GoneBelow g t n m m'' s s'' false
  scan_stop r n e u y =
      let w = below_more g t (k + 1) (n - (k + 1)) in
      let q : k + 1 + (n - (k + 1)) ≡ n = omega arith in
      subst (λ (ls : List Label). LabelsGone g t ls m m'' s s'' false) (sym (ap (labels_below g t) (sym q) ∙ w.1))
      (gone_wrong g t m m'' s s'' (labels_below g t (k + 1)) w.0
      (subst (λ (ls : List Label). LabelsGone g t ls m m'' s s'' false) (sym (below_next g t k))
      (gone_more g t m m' m'' s s' s'' (labels_below g t k) (at_slot g t k) false x (subst (λ (b : Bool). Looked g t k m' m'' s' s'' b) e y))))

pub scan_start : (g : Geometry) (t m s : List ℕ) → is_label (slot_bytes t 0) ≡ false → GoneBelow g t 1 m m s s true
scan_start g t m s e = rw (below_one g t e) (gone_none g t m s)

-- ---- labels and names

-- a label is wrong, or two overlap
pub taken_wrong : (g : Geometry) (t m m' s s' : List ℕ) (n : ℕ) → GoneBelow g t n m m' s s' false → LabelsTaken g t n m m' s s' false
taken_wrong g t m m' s s' n x = record { long_map = x.long_map; long_slots = x.long_slots; differ = λ e. clash {b = false} e refl; gone = λ d. x }

-- a name is there twice: the labels below k were well
pub taken_twice : (g : Geometry) (t m m' s s' : List ℕ) (k n : ℕ) → GoneBelow g t k m m' s s' true → distinct t n ≡ false → LabelsTaken g t n m m' s s' false
taken_twice g t m m' s s' k n x f = record { long_map = x.long_map; long_slots = x.long_slots; differ = λ e. clash {b = false} e refl; gone = λ d. clash d f }

pub taken_all : (g : Geometry) (t m m' s s' : List ℕ) (k n : ℕ) → k ≡ n → GoneBelow g t k m m' s s' true → distinct t n ≡ true → LabelsTaken g t n m m' s s' true
taken_all g t m m' s s' k n q x d =
    record { long_map = x.long_map; long_slots = x.long_slots; differ = λ _. d; gone = λ _. subst (λ (j : ℕ). GoneBelow g t j m m' s s' true) q x }
