-- Addresses of slots: five bytes pass the test where they are what the layout writes, and the slot is read back from them.
-- Assumes nothing.
use mathlib.Core.Path.{◌≡◌, refl, sym, ap, ap₂, ◌∙◌}
use mathlib.Core.Bool.{true, false, ◌&&◌, cond}
use mathlib.Core.List.{List, [], ◌∷◌, append-nil}
use Prim.Native.Nat.{ℕ, zero, suc, ◌+◌, ◌-◌, ◌*◌, ◌/◌, ◌%◌, ◌≤◌, ◌<◌}
use native.Mathlib.Nat.{add-zero, div-add-mod', mod-lt}
use native.Mathlib.Omega.{arith}
use borrow.Author.Tests.{eqb-true, eq-eqb, ltb-true, leb-true}
use lib.Dec.{T, eqb, leb, ltb}
use lib.ListN.{length, get_or, drop}
use lib.Seq.{get_or-take, get_or-drop}
use Rattle.model.specs.Basics.{get2, part, zeros}
use Rattle.model.specs.Model.{Geometry}
use Rattle.model.proofs.Lists.{and_l, and_r, by, is_true, true_is}
use Rattle.rules.specs.Layout.{address, link}
use Rattle.rules.specs.Reading.{slot_at, track_at}
use Rattle.rules.proofs.Bytes.{be2_back}
use Rattle.rules.proofs.LabelBack.{slot_back}
use Rattle.rows.specs.Words.{Bytes, all_are}
use Rattle.dscb.specs.Tests.{address_ok, slot_named}
use Rattle.dscb.proofs.Bytes10.{cyl_of, five_of, head_of}
use Rattle.dscb.proofs.Failing.{slot_is}
use Rattle.rows.proofs.Rows.{are→, →are}

-- ---- the address of a given slot

module _ (g : Geometry) (k : ℕ) where
  abbrev at : ℕ
  at = g.vtoc_start + k / g.records

  pub address_is : (x : List ℕ) → length x ≡ 5 → Bytes x → T (address_ok g.heads g.records g.vtoc_start k x) → address g k ≡ x
  unfolding address_ok
  address_is x len small p =
      let h = g.heads in
      let a : get2 x 0 ≡ at / h = eqb-true _ _ (is_true (and_l (eqb (get2 x 0) (at / h)) _ p)) in
      let p1 = and_r (eqb (get2 x 0) (at / h)) _ p in
      let b : get2 x 2 ≡ at % h = eqb-true _ _ (is_true (and_l (eqb (get2 x 2) (at % h)) _ p1)) in
      let c : get_or x 4 0 ≡ k % g.records + 1 = eqb-true _ _ (is_true (and_r (eqb (get2 x 2) (at % h)) _ p1)) in
      let s1 = small 1 in
      let s3 = small 3 in
      let q0 : at / h / 256 ≡ get_or x 0 0 = omega arith in
      let q1 : at / h % 256 ≡ get_or x 1 0 = omega arith in
      let q2 : at % h / 256 ≡ get_or x 2 0 = omega arith in
      let q3 : at % h % 256 ≡ get_or x 3 0 = omega arith in
      (λ i. q0 i ∷ q1 i ∷ q2 i ∷ q3 i ∷ sym c i ∷ []) ∙ sym (five_of x len)

-- a link is an address, but for slot 0, which stands for none
link_address : (g : Geometry) (k : ℕ) → 1 ≤ k → link g k ≡ address g k
link_address g zero h = absurd (omega arith)
link_address g (suc k) h = refl

pub link_is : (g : Geometry) (k : ℕ) (x : List ℕ) → length x ≡ 5 → Bytes x → 1 ≤ k → T (address_ok g.heads g.records g.vtoc_start k x) → link g k ≡ x
link_is g k x len small h p = link_address g k h ∙ address_is g k x len small p

-- ---- zeros: no slot

pub none_is : (g : Geometry) (x : List ℕ) → length x ≡ 5 → T (all_are 0 x) → link g 0 ≡ x
none_is g x len p = sym (are→ 0 x p ∙ ap (λ (n : ℕ). zeros n) len)

pub none_passes : (g : Geometry) → T (all_are 0 (link g 0))
none_passes g = →are 0 5

-- ---- the slot that is read

-- at a place of a record, and in the five bytes alone
pub slot_part : (g : Geometry) (r : List ℕ) (i : ℕ) → slot_at g (part i 5 r) 0 ≡ slot_at g r i
slot_part g r i =
    let e : i + 2 + 1 ≡ i + 3 = omega arith in
    let at : (j : ℕ) → j < 5 → get_or (part i 5 r) j 0 ≡ get_or r (i + j) 0 = λ j u. get_or-take 5 (drop i r) j 0 u ∙ get_or-drop i r j 0 in
    rw (at 0 (omega arith), at 1 (omega arith), at 2 (omega arith), at 3 (omega arith), at 4 (omega arith), add-zero, e)

pub slot_read : (g : Geometry) (k : ℕ) (x : List ℕ) → link g k ≡ x → slot_at g x 0 ≡ k
slot_read g k x e = slot_back g x [] 0 k (sym e ∙ sym (append-nil (link g k)))

pick : (b : _) (k m : ℕ) → cond b m 0 ≡ k → 1 ≤ k → (b ≡ true) × (m ≡ k)
pick true k m e h = (refl, e)
pick false k m e h = absurd (omega arith)

module _ (g : Geometry) (n : ℕ) (x : List ℕ) where
  abbrev H : ℕ
  H = g.heads

  abbrev D : ℕ
  D = g.records

  abbrev S : ℕ
  S = g.vtoc_start

  -- NAMED: the slot found has these bytes for its address
  pub slot_named_lem : (k : ℕ) → length x ≡ 5 → Bytes x → 1 ≤ k → slot_named H D S n x ≡ k → (link g k ≡ x) × (k < n)
  unfolding slot_named address_ok
  slot_named_lem k len small h e =
      let R = get_or x 4 0 in
      let t = track_at H x 0 in
      let m = (t - S) * D + R - 1 in
      let p = pick (ltb (get2 x 2) H && (leb 1 R && (leb R D && (leb S t && ltb m n)))) k m e h in
      let b0 : T (ltb (get2 x 2) H && (leb 1 R && (leb R D && (leb S t && ltb m n)))) = true_is p.0 in
      let a1 : get2 x 2 < H = ltb-true _ _ (is_true (and_l (ltb (get2 x 2) H) _ b0)) in
      let b1 = and_r (ltb (get2 x 2) H) _ b0 in
      let a2 : 1 ≤ R = leb-true _ _ (is_true (and_l (leb 1 R) _ b1)) in
      let b2 = and_r (leb 1 R) _ b1 in
      let a3 : R ≤ D = leb-true _ _ (is_true (and_l (leb R D) _ b2)) in
      let b3 = and_r (leb R D) _ b2 in
      let a4 : S ≤ t = leb-true _ _ (is_true (and_l (leb S t) _ b3)) in
      let a5 : m < n = ltb-true _ _ (is_true (and_r (leb S t) _ b3)) in
      let q : k ≡ (t - S) * D + (R - 1) = sym p.1 ∙ omega arith in
      let c : k / D ≡ t - S = ap (λ (y : ℕ). y / D) q ∙ cyl_of (t - S) D (R - 1) (omega arith) in
      let d : k % D ≡ R - 1 = ap (λ (y : ℕ). y % D) q ∙ head_of (t - S) D (R - 1) (omega arith) in
      let f : S + k / D ≡ t = omega arith in
      let u : t / H ≡ get2 x 0 = cyl_of (get2 x 0) H (get2 x 2) a1 in
      let v : t % H ≡ get2 x 2 = head_of (get2 x 0) H (get2 x 2) a1 in
      let w : k % D + 1 ≡ R = omega arith in
      let ok : T (address_ok H D S k x) = rw (f, u, v, w, eq-eqb (get2 x 0) (get2 x 0) refl, eq-eqb (get2 x 2) (get2 x 2) refl, eq-eqb R R refl) tt in
      (link_is g k x len small h ok, omega (arith, p.1))

  -- FOUND: the address of a slot gives the slot
  pub slot_found : 1 ≤ H → 1 ≤ D → (k : ℕ) → 1 ≤ k → k < n → link g k ≡ x → slot_named H D S n x ≡ k
  slot_found hh hd k h u e =
      let t = S + k / D in
      let ex : address g k ≡ x = sym (link_address g k h) ∙ e in
      let c = be2_back (t / H) in
      let f = be2_back (t % H) in
      let g0 : get2 x 0 ≡ t / H = ap (λ (y : List ℕ). get2 y 0) (sym ex) ∙ c in
      let g2 : get2 x 2 ≡ t % H = ap (λ (y : List ℕ). get2 y 2) (sym ex) ∙ f in
      let r : get_or x 4 0 ≡ k % D + 1 = ap (λ (y : List ℕ). get_or y 4 0) (sym ex) in
      let ml : t % H < H = mod-lt t hh in
      let dl : k % D < D = mod-lt k hd in
      let tt' : track_at H x 0 ≡ t = ap₂ (λ (a b : ℕ). a * H + b) g0 g2 ∙ div-add-mod' t H in
      let back = slot_read g k x e in
      sym (slot_is H D S n x (track_at H x 0) (get_or x 4 0) refl refl (omega arith) (omega arith) (omega arith) (omega arith) (omega arith)) ∙ back

-- no slot is found where there are zeros
pub slot_none : (h d s n : ℕ) → slot_named h d s n (zeros 5) ≡ 0
unfolding slot_named
slot_none h d s n = by (ltb 0 h) (λ e. rw e) (λ e. rw e)

pub slot_below : (h d s n : ℕ) (x : List ℕ) → 1 ≤ n → slot_named h d s n x < n
unfolding slot_named
slot_below h d s n x pos =
    let m = (track_at h x 0 - s) * d + get_or x 4 0 - 1 in
    let a = ltb (get2 x 2) h in
    let b = leb 1 (get_or x 4 0) in
    let c = leb (get_or x 4 0) d in
    let f = leb s (track_at h x 0) in
    by (a && (b && (c && (f && ltb m n))))
    (λ e. rw e (ltb-true m n (is_true (and_r f _ (and_r c _ (and_r b _ (and_r a _ (true_is e))))))))
    (λ e. rw e pos)

-- the same at its place in a record
pub place_read : (g : Geometry) (k : ℕ) (r : List ℕ) (i : ℕ) → link g k ≡ part i 5 r → slot_at g r i ≡ k
place_read g k r i e = sym (slot_part g r i) ∙ slot_read g k (part i 5 r) e
