-- How many tracks of a data set stay, extent by extent. Assumes nothing.
use mathlib.Core.Path.{◌≡◌, refl, sym, ap, ◌∙◌}
use mathlib.Core.Bool.{false, not, true}
use mathlib.Core.List.{List, ◌∷◌, ◌++◌}
use Prim.Native.Nat.{ℕ, ◌+◌, ◌-◌, ◌*◌, ◌/◌, ◌≤◌, ◌<◌}
use native.Mathlib.Nat.{zero-add}
use native.Mathlib.Numerals.{add-one}
use native.Mathlib.Omega.{arith}
use borrow.Author.Tests.{eq-eqb, eqb-true}
use lib.Dec.{eqb}
use lib.ListN.{length, get_or, drop, drop_of_length-le}
use lib.Seq.{drop-cons}
use Rattle.model.specs.Basics.{up_from}
use Rattle.model.specs.Model.{Extent, Geometry, Run, overs, total}
use Rattle.model.specs.Predicates.{StaysOf, kept_from}
use Rattle.model.specs.Tracks.{tracks_kept, tracks_of}
use Rattle.model.proofs.Cylinders.{kept_cylinders, kept_plain, tracks_length}
use Rattle.model.proofs.Lists.{by, clash}
use Rattle.dscb.proofs.Blocks.{no_extent}
use Rattle.set_extents.proofs.Cutting.{ExtentAt}

-- ---- whether an extent goes on, as the code tests it

pub apart : (a b : ℕ) → not (eqb a b) ≡ true → a ≡ b → ⊥
apart a b e q = clash {b = false} (sym (ap not (eq-eqb a b q)) ∙ e) refl

pub meet : (a b : ℕ) → not (eqb a b) ≡ false → a ≡ b
meet a b e = by (eqb a b) (λ k. eqb-true a b k) (λ k. clash {b = true} refl (sym (ap not k) ∙ e))

-- ---- extent by extent

-- the tracks of the extents from e on
abbrev tracks_from : List Extent → ℕ → List ℕ
tracks_from es e = tracks_of (overs (drop e es))

-- `kept` tracks of the first e extents stay, of those that must stay k are left, and track t is the last that stays
pub record Along (h keep : ℕ) (es : List Extent) (e kept k t : ℕ) : Type 0 where
  pub sum : kept + kept_from h k t (tracks_from es e) ≡ kept_from h keep 0 (tracks_of (overs es))
  pub few : kept ≤ 65535 * e
  pub low : t ≤ 65535

pub along_none : (h keep : ℕ) (es : List Extent) → Along h keep es 0 0 keep 0
along_none h keep es = record { sum = zero-add (kept_from h keep 0 (tracks_of (overs es))); few = omega arith; low = omega arith }

-- a turn: r tracks of extent e stay
module _ (g : Geometry) (h keep : ℕ) (es : List Extent) (e kept k t s c r : ℕ) (x : ExtentAt g es e s c) (before : Along h keep es e kept k t) (stays : StaysOf h k t s c r) where
  next_list : tracks_from es e ≡ up_from s c ++ tracks_from es (e + 1)
  next_list =
      ap (λ (y : List Extent). tracks_of (overs y)) (drop-cons es e no_extent x.inside ∙ ap (λ (i : ℕ). get_or es e no_extent ∷ drop i es) (sym (add-one e)))
      ∙ sym (ap (λ (y : Run). up_from y.start y.count ++ tracks_from es (e + 1)) x.over)

  pub along_stop : r < c → kept + r ≡ kept_from h keep 0 (tracks_of (overs es))
  along_stop v =
      let a = before.sum in
      let b = ap (kept_from h k t) next_list ∙ stays.part v (tracks_from es (e + 1)) in
      omega arith

  pub along_next : c ≤ r → c ≤ 65535 → s + c ≤ 65535 → (k' : ℕ) → k' ≡ k - r → Along h keep es (e + 1) (kept + r) k' (s + r - 1)
  along_next v small ends k' q =
      let z : r ≡ c = let m = stays.most in omega arith in
      let a = before.sum in
      let b = ap (kept_from h k t) next_list ∙ stays.whole z (tracks_from es (e + 1)) in
      let f = before.few in
      let d = same k' (k - c) (s + r - 1) (s + c - 1) (omega arith) (omega arith) in
      record { sum = omega arith; few = omega arith; low = omega arith }
    where
      same : (k k' t t' : ℕ) → k ≡ k' → t ≡ t' → kept_from h k t (tracks_from es (e + 1)) ≡ kept_from h k' t' (tracks_from es (e + 1))
      same k k' t t' p q = λ i. kept_from h (p i) (q i) (tracks_from es (e + 1))

pub along_all : (h keep : ℕ) (es : List Extent) (e kept k t : ℕ) → length es ≤ e → Along h keep es e kept k t → kept ≡ kept_from h keep 0 (tracks_of (overs es))
along_all h keep es e kept k t u a =
    let s = a.sum in
    let z = ap (λ (y : List Extent). kept_from h k t (tracks_of (overs y))) (drop_of_length-le es {i = e} u) in
    omega arith

-- ---- by the unit

pub first_stay : (h unit ttr : ℕ) (es : List Extent) → (unit ≡ 0xC0 → ⊥) → ttr / 256 + 1 ≡ tracks_kept h unit ttr (tracks_of (overs es))
first_stay h unit ttr es u = sym (kept_plain h unit ttr (tracks_of (overs es)) u)

pub cylinders_stay : (h unit ttr : ℕ) (es : List Extent) → 1 ≤ h → unit ≡ 0xC0 → ttr / 256 + 1 ≤ total (overs es)
    → (r : ℕ) → r ≡ kept_from h (ttr / 256 + 1) 0 (tracks_of (overs es)) → r ≡ tracks_kept h unit ttr (tracks_of (overs es))
cylinders_stay h unit ttr es pos u fits r q =
    q ∙ sym (kept_cylinders h unit ttr (tracks_of (overs es)) pos u (let l = tracks_length (overs es) in omega arith))
