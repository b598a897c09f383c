-- Ten bytes that pass the test are what the layout writes for the extent read from them, and the extent is good; and back.
-- Assumes nothing.
use mathlib.Core.Path.{◌≡◌, refl, sym, ap, ap₂, ◌∙◌}
use mathlib.Core.Bool.{true, ◌&&◌}
use mathlib.Core.List.{List, [], ◌∷◌, ◌++◌}
use Prim.Native.Nat.{ℕ, ◌+◌, ◌-◌, ◌*◌, ◌/◌, ◌%◌, ◌≤◌, ◌<◌}
use native.Mathlib.Nat.{mul-add-div_right, add_comm, add-zero, div-eq_of_lt, mod-eq_of_lt, mod-lt, add-mul-mod_self_right, div-add-mod', mod_self, lt_of_not-le}
use native.Mathlib.Decide.{dec_le}
use native.Mathlib.Omega.{arith}
use borrow.Author.Tests.{lt-ltb, le-leb, ltb-true, leb-true, eqb-true, eq-eqb}
use lib.Dec.{T, eqb, ltb, leb}
use lib.ListN.{length, get_or, drop_of_length-le}
use lib.Seq.{drop-cons}
use Rattle.model.specs.Basics.{be2, get2}
use Rattle.model.specs.Model.{Extent, Geometry, run, tracks}
use Rattle.model.proofs.Lists.{and_l, and_r, by, is_true}
use Rattle.rules.specs.Layout.{cchh, extent_bytes}
use Rattle.rules.specs.Reading.{read_extent, track_at}
use Rattle.rules.specs.Table.{good_type}
use Rattle.rules.proofs.Bytes.{be2_back}
use Rattle.rules.specs.Predicates.{GoodExtent}
use Rattle.rows.specs.Words.{Bytes}
use Rattle.dscb.specs.Tests.{good_ten, type_ok}

-- the track c * h + f, with f below h, is in cylinder c and is its track f
pub cyl_of : (c h f : ℕ) → f < h → (c * h + f) / h ≡ c
cyl_of c h f u = mul-add-div_right (omega arith) c f ∙ ap (λ (x : ℕ). c + x) (div-eq_of_lt u) ∙ add-zero c

pub head_of : (c h f : ℕ) → f < h → (c * h + f) % h ≡ f
head_of c h f u = ap (λ (x : ℕ). x % h) (add_comm (c * h) f) ∙ add-mul-mod_self_right f c h ∙ mod-eq_of_lt u

pub two_back : (a b : ℕ) → b < 256 → be2 (a * 256 + b) ≡ a ∷ b ∷ []
two_back a b u = ap₂ (λ (x y : ℕ). x ∷ y ∷ []) (omega arith) (omega arith)

pub cchh_back : (g : Geometry) (a b c d : ℕ) → b < 256 → d < 256 → c * 256 + d < g.heads → cchh g ((a * 256 + b) * g.heads + (c * 256 + d)) ≡ a ∷ b ∷ c ∷ d ∷ []
cchh_back g a b c d u v w =
    ap₂ (λ (x y : ℕ). be2 x ++ be2 y) (cyl_of (a * 256 + b) g.heads (c * 256 + d) w) (head_of (a * 256 + b) g.heads (c * 256 + d) w)
    ∙ ap₂ (λ (x y : List ℕ). x ++ y) (two_back a b u) (two_back c d v)

-- a list of five and one of ten by their bytes
pub five_of : (x : List ℕ) → length x ≡ 5 → x ≡ get_or x 0 0 ∷ get_or x 1 0 ∷ get_or x 2 0 ∷ get_or x 3 0 ∷ get_or x 4 0 ∷ []
five_of x e =
    drop-cons x 0 0 (omega arith)
    ∙ ap (λ (l : List ℕ). get_or x 0 0 ∷ l) (drop-cons x 1 0 (omega arith)
    ∙ ap (λ (l : List ℕ). get_or x 1 0 ∷ l) (drop-cons x 2 0 (omega arith)
    ∙ ap (λ (l : List ℕ). get_or x 2 0 ∷ l) (drop-cons x 3 0 (omega arith)
    ∙ ap (λ (l : List ℕ). get_or x 3 0 ∷ l) (drop-cons x 4 0 (omega arith)
    ∙ ap (λ (l : List ℕ). get_or x 4 0 ∷ l) (drop_of_length-le x {i = 5} (omega arith))))))

ten_of : (x : List ℕ) → length x ≡ 10
    → x ≡ get_or x 0 0 ∷ get_or x 1 0 ∷ get_or x 2 0 ∷ get_or x 3 0 ∷ get_or x 4 0 ∷ get_or x 5 0 ∷ get_or x 6 0 ∷ get_or x 7 0 ∷ get_or x 8 0 ∷ get_or x 9 0 ∷ []
ten_of x e =
    drop-cons x 0 0 (omega arith)
    ∙ ap (λ (l : List ℕ). get_or x 0 0 ∷ l) (drop-cons x 1 0 (omega arith)
    ∙ ap (λ (l : List ℕ). get_or x 1 0 ∷ l) (drop-cons x 2 0 (omega arith)
    ∙ ap (λ (l : List ℕ). get_or x 2 0 ∷ l) (drop-cons x 3 0 (omega arith)
    ∙ ap (λ (l : List ℕ). get_or x 3 0 ∷ l) (drop-cons x 4 0 (omega arith)
    ∙ ap (λ (l : List ℕ). get_or x 4 0 ∷ l) (drop-cons x 5 0 (omega arith)
    ∙ ap (λ (l : List ℕ). get_or x 5 0 ∷ l) (drop-cons x 6 0 (omega arith)
    ∙ ap (λ (l : List ℕ). get_or x 6 0 ∷ l) (drop-cons x 7 0 (omega arith)
    ∙ ap (λ (l : List ℕ). get_or x 7 0 ∷ l) (drop-cons x 8 0 (omega arith)
    ∙ ap (λ (l : List ℕ). get_or x 8 0 ∷ l) (drop-cons x 9 0 (omega arith)
    ∙ ap (λ (l : List ℕ). get_or x 9 0 ∷ l) (drop_of_length-le x {i = 10} (omega arith)))))))))))

-- what the test says, one by one
pub record GoodTen (h t i : ℕ) (x : List ℕ) : Type 0 where
  pub first : get2 x 4 < h
  pub last : get2 x 8 < h
  pub number : get_or x 1 0 ≡ i
  pub order : track_at h x 2 ≤ track_at h x 6
  pub ends : track_at h x 6 < t
  pub typed : T (type_ok h (get_or x 0 0) (get2 x 4) (get2 x 8))

pub ten→ : (h t i : ℕ) (x : List ℕ) → T (good_ten h t i x) → GoodTen h t i x
unfolding good_ten
ten→ h t i x p =
    let a : T (ltb (get2 x 4) h) = and_l (ltb (get2 x 4) h) _ p in
    let p1 = and_r (ltb (get2 x 4) h) _ p in
    let b : T (ltb (get2 x 8) h) = and_l (ltb (get2 x 8) h) _ p1 in
    let p2 = and_r (ltb (get2 x 8) h) _ p1 in
    let c : T (eqb (get_or x 1 0) i) = and_l (eqb (get_or x 1 0) i) _ p2 in
    let p3 = and_r (eqb (get_or x 1 0) i) _ p2 in
    let d : T (leb (track_at h x 2) (track_at h x 6)) = and_l (leb (track_at h x 2) (track_at h x 6)) _ p3 in
    let p4 = and_r (leb (track_at h x 2) (track_at h x 6)) _ p3 in
    let e : T (ltb (track_at h x 6) t) = and_l (ltb (track_at h x 6) t) _ p4 in
    record {
      first = ltb-true _ _ (is_true a);
      last = ltb-true _ _ (is_true b);
      number = eqb-true _ _ (is_true c);
      order = leb-true _ _ (is_true d);
      ends = ltb-true _ _ (is_true e);
      typed = and_r (ltb (track_at h x 6) t) _ p4;
    }

whole_cylinders : (h c d f l : ℕ) → f ≡ 0 → l + 1 ≡ h → c * h + f ≤ d * h + l → (d * h + l + 1 - (c * h + f)) % h ≡ 0
whole_cylinders h c d f l z y w =
    let X = d * h + l + 1 - (c * h + f) in
    let e : X + c * h ≡ h + d * h = omega arith in
    sym (add-mul-mod_self_right X c h) ∙ ap (λ (n : ℕ). n % h) e ∙ add-mul-mod_self_right h d h ∙ mod_self h

type_good : (h k c f d l : ℕ) → f < h → l < h → c * h + f ≤ d * h + l → T (type_ok h k f l) → T (good_type h k (run (c * h + f) (d * h + l + 1 - (c * h + f))))
type_good h k c f d l u v w p =
    by (eqb k 0x01)
    (λ e. rw e tt)
    (λ e.
    let q : T (eqb k 0x81 && (eqb f 0 && eqb (l + 1) h)) = rw e at p in
    let q1 = and_l (eqb k 0x81) _ q in
    let q2 = and_r (eqb k 0x81) _ q in
    let z : f ≡ 0 = eqb-true _ _ (is_true (and_l (eqb f 0) _ q2)) in
    let y : l + 1 ≡ h = eqb-true _ _ (is_true (and_r (eqb f 0) _ q2)) in
    let a : (c * h + f) % h ≡ 0 = head_of c h f u ∙ z in
    let b : (d * h + l + 1 - (c * h + f)) % h ≡ 0 = whole_cylinders h c d f l z y w in
    let k8 : eqb k 0x81 ≡ true = is_true q1 in
    rw (e, k8, a, b) tt)

module _ (g : Geometry) (i : ℕ) (x : List ℕ) (len : length x ≡ 10) (small : Bytes x) (s : GoodTen g.heads (tracks g) i x) where
  abbrev h : ℕ
  h = g.heads

  abbrev a : ℕ
  a = track_at h x 2

  abbrev b : ℕ
  b = track_at h x 6

  -- WRITTEN: the layout writes these bytes for the extent that they give
  pub ten_written : extent_bytes g i (read_extent h x) ≡ x
  ten_written =
      let o : a ≤ b = s.order in
      let e : a + (b + 1 - a) - 1 ≡ b = omega arith in
      let p = cchh_back g (get_or x 2 0) (get_or x 3 0) (get_or x 4 0) (get_or x 5 0) (small 3) (small 5) s.first in
      let q = cchh_back g (get_or x 6 0) (get_or x 7 0) (get_or x 8 0) (get_or x 9 0) (small 7) (small 9) s.last in
      ap (λ (z : ℕ). get_or x 0 0 ∷ i ∷ cchh g a ++ cchh g z) e
      ∙ ap₂ (λ (y z : List ℕ). get_or x 0 0 ∷ i ∷ y ++ z) p q
      ∙ ap (λ (j : ℕ). get_or x 0 0 ∷ j ∷ get_or x 2 0 ∷ get_or x 3 0 ∷ get_or x 4 0 ∷ get_or x 5 0 ∷ get_or x 6 0 ∷ get_or x 7 0 ∷ get_or x 8 0 ∷ get_or x 9 0 ∷ []) (sym s.number)
      ∙ sym (ten_of x len)

  -- GOOD: the extent that they give obeys the rules
  pub ten_good : GoodExtent g (read_extent h x)
  ten_good =
      let o : a ≤ b = s.order in
      let u : b < tracks g = s.ends in
      record {
        typed = type_good h (get_or x 0 0) (get2 x 2) (get2 x 4) (get2 x 6) (get2 x 8) s.first s.last o s.typed;
        full = omega arith;
        ends = omega arith;
      }

-- ---- and back: what the layout writes for a good extent passes the test

ends_cylinder : (n h : ℕ) → 1 ≤ h → (n + 1) % h ≡ 0 → n % h + 1 ≡ h
ends_cylinder n h pos e =
    let r : n % h < h = mod-lt n (omega arith) in
    let s : n / h * h + n % h ≡ n = div-add-mod' n h in
    elim (dec_le h (n % h + 1)) [
      | yes u ↦ omega arith
      | no u ↦ (
          let v : n % h + 1 < h = lt_of_not-le u in
          let x : n + 1 ≡ n / h * h + (n % h + 1) = omega arith in
          let y : (n + 1) % h ≡ n % h + 1 = ap (λ (z : ℕ). z % h) x ∙ head_of (n / h) h (n % h + 1) v in
          absurd (omega arith)
          )
    ]

sum_mod : (a b h : ℕ) → 1 ≤ h → a % h ≡ 0 → b % h ≡ 0 → (a + b) % h ≡ 0
sum_mod a b h pos p q =
    let s : b / h * h + b % h ≡ b = div-add-mod' b h in
    let e : a + b ≡ a + b / h * h = omega arith in
    ap (λ (z : ℕ). z % h) e ∙ add-mul-mod_self_right a (b / h) h ∙ p

module _ (g : Geometry) (pos : 1 ≤ g.heads) (i : ℕ) (e : Extent) (good : GoodExtent g e) where
  abbrev hd : ℕ
  hd = g.heads

  abbrev from : ℕ
  from = e.over.start

  abbrev upto : ℕ
  upto = e.over.start + e.over.count - 1

  type_back : T (type_ok hd e.type_byte (from % hd) (upto % hd))
  type_back =
      by (eqb e.type_byte 0x01)
      (λ z. rw z tt)
      (λ z.
      let q : T (eqb e.type_byte 0x81 && eqb (from % hd) 0 && eqb (e.over.count % hd) 0) = rw z at good.typed in
      let q0 = and_l (eqb e.type_byte 0x81 && eqb (from % hd) 0) _ q in
      let k8 : eqb e.type_byte 0x81 ≡ true = is_true (and_l (eqb e.type_byte 0x81) _ q0) in
      let z0 : eqb (from % hd) 0 ≡ true = is_true (and_r (eqb e.type_byte 0x81) _ q0) in
      let z1 : e.over.count % hd ≡ 0 = eqb-true _ _ (is_true (and_r (eqb e.type_byte 0x81 && eqb (from % hd) 0) _ q)) in
      let f = good.full in
      let u : upto + 1 ≡ from + e.over.count = omega arith in
      let w : upto % hd + 1 ≡ hd = ends_cylinder upto hd pos (ap (λ (n : ℕ). n % hd) u ∙ sum_mod from e.over.count hd pos (eqb-true _ _ z0) z1) in
      let w' : eqb (upto % hd + 1) hd ≡ true = eq-eqb _ _ w in
      rw (z, k8, z0, w') tt)

  pub ten_passes : T (good_ten hd (tracks g) i (extent_bytes g i e))
  unfolding good_ten
  ten_passes =
      let f = good.full in
      let n = good.ends in
      let a2 = be2_back (from / hd) in
      let a4 = be2_back (from % hd) in
      let a6 = be2_back (upto / hd) in
      let a8 = be2_back (upto % hd) in
      let s : from / hd * hd + from % hd ≡ from = div-add-mod' from hd in
      let t : upto / hd * hd + upto % hd ≡ upto = div-add-mod' upto hd in
      let b1 : ltb (from % hd) hd ≡ true = lt-ltb _ _ (mod-lt from pos) in
      let b2 : ltb (upto % hd) hd ≡ true = lt-ltb _ _ (mod-lt upto pos) in
      let b3 : eqb i i ≡ true = eq-eqb i i refl in
      let b4 : leb from upto ≡ true = le-leb from upto (omega arith) in
      let b5 : ltb upto (tracks g) ≡ true = lt-ltb upto (tracks g) (omega arith) in
      let b6 : type_ok hd e.type_byte (from % hd) (upto % hd) ≡ true = is_true type_back in
      rw (a2, a4, a6, a8, s, t, b1, b2, b3, b4, b5, b6) tt
