-- The tests of whole records as propositions, one by one. Assumes nothing.
use mathlib.Core.Path.{◌≡◌, sym, ap, ◌∙◌, subst}
use mathlib.Core.Bool.{Bool, true, false, ◌&&◌, ◌||◌}
use mathlib.Core.List.{List}
use Prim.Native.Nat.{ℕ, ◌+◌, ◌-◌, ◌≤◌, ◌<◌}
use native.Mathlib.Omega.{arith}
use borrow.Author.Tests.{eqb-true, eq-eqb, leb-true, le-leb, lt-ltb, le-ltb}
use lib.Bits.{bit_and}
use lib.Dec.{T, eqb, leb}
use lib.ListN.{get_or, drop}
use lib.Seq.{get_or-take, get_or-drop}
use Rattle.model.specs.Basics.{get2, get3, part, within}
use Rattle.model.specs.Model.{Geometry}
use Rattle.model.proofs.Lists.{and_l, and_r, by, is_true, true_is}
use Rattle.rules.specs.Reading.{read_geometry, track_at}
use Rattle.rules.specs.Table.{good_name, good_unit, limits}
use Rattle.rules.proofs.Valid.{limits→}
use Rattle.rules.specs.Predicates.{Limits}
use Rattle.dscb.specs.Tests.{good_ten}
use Rattle.rows.specs.Words.{all_are}
use Rattle.ebcdic.proofs.Names.{agree, agree_is, for_all}
use Rattle.dscb.specs.Forms.{extent_ok, one_ok, three_ok}

-- a test that implies what is not so is false
pub refuted : {A : Type 0} (b : Bool) → (T b → A) → (A → ⊥) → false ≡ b
refuted b f n = by b (λ e. absurd (n (f (true_is e)))) (λ e. sym e)

-- ---- the limits

pub no_limits : (g : Geometry) → (Limits g → ⊥) → false ≡ limits g
no_limits g n = refuted (limits g) (limits→ g) n

-- ---- a part of a record, read in the record

pub byte_part : (i n j : ℕ) (r : List ℕ) → j < n → get_or (part i n r) j 0 ≡ get_or r (i + j) 0
byte_part i n j r u = get_or-take n (drop i r) j 0 u ∙ get_or-drop i r j 0

pub track_part : (h i n j : ℕ) (r : List ℕ) → j + 3 < n → track_at h (part i n r) j ≡ track_at h r (i + j)
track_part h i n j r u =
    let a = byte_part i n j r (omega arith) in
    let b = byte_part i n (j + 1) r (omega arith) in
    let c = byte_part i n (j + 2) r (omega arith) in
    let d = byte_part i n (j + 2 + 1) r (omega arith) in
    let e1 : i + (j + 1) ≡ i + j + 1 = omega arith in
    let e2 : i + (j + 2) ≡ i + j + 2 = omega arith in
    let e3 : i + (j + 2 + 1) ≡ i + j + 2 + 1 = omega arith in
    rw (a, b, c, d, e1, e2, e3)

-- ---- the unit

-- one test tells both units of space among the bytes: computed
space_unit : (u : ℕ) → u < 256 → (eqb u 0x80 || eqb u 0xC0) ≡ eqb (bit_and u 0xBF) 0x80
space_unit u h = agree_is _ _ (for_all (λ x. agree (eqb x 0x80 || eqb x 0xC0) (eqb (bit_and x 0xBF) 0x80)) 0 256 tt u (omega arith) (omega arith))

module _ (u s : ℕ) (h : u < 256) where
  pub unit_space : bit_and u 0xBF ≡ 0x80 → true ≡ good_unit u s
  unit_space e = rw (space_unit u h, eq-eqb (bit_and u 0xBF) 0x80 e)

-- ---- the formats

pub record OneOk (r : List ℕ) : Type 0 where
  pub least : 1 ≤ get_or r 59 0
  pub most : get_or r 59 0 ≤ 16
  pub unit : T (good_unit (get_or r 94 0) (get3 r 95))
  pub name : T (good_name (part 0 44 r))

pub one→ : (r : List ℕ) → T (one_ok r) → OneOk r
unfolding one_ok
one→ r p =
    let n = get_or r 59 0 in
    let w : T (leb 1 n && leb n 16) = and_l (within 1 16 n) _ p in
    let q = and_r (within 1 16 n) _ p in
    record {
      least = leb-true _ _ (is_true (and_l (leb 1 n) _ w));
      most = leb-true _ _ (is_true (and_r (leb 1 n) _ w));
      unit = and_l (good_unit (get_or r 94 0) (get3 r 95)) _ q;
      name = and_r (good_unit (get_or r 94 0) (get3 r 95)) _ q;
    }

pub one_last : (r : List ℕ) → 1 ≤ get_or r 59 0 → get_or r 59 0 ≤ 16 → good_unit (get_or r 94 0) (get3 r 95) ≡ true → good_name (part 0 44 r) ≡ one_ok r
unfolding one_ok
one_last r a b c = rw (le-leb 1 (get_or r 59 0) a, le-leb (get_or r 59 0) 16 b, c)

pub →one : (r : List ℕ) → OneOk r → T (one_ok r)
→one r x = subst T (one_last r x.least x.most (is_true x.unit)) x.name

pub record ThreeOk (r : List ℕ) : Type 0 where
  pub id : get_or r 44 0 ≡ 0xF3
  pub key : T (all_are 0x03 (part 0 4 r))
  pub tail : T (all_are 0 (part 135 5 r))

pub three→ : (r : List ℕ) → T (three_ok r) → ThreeOk r
unfolding three_ok
three→ r p =
    let q = and_r (eqb (get_or r 44 0) 0xF3) _ p in
    record {
      id = eqb-true _ _ (is_true (and_l (eqb (get_or r 44 0) 0xF3) _ p));
      key = and_l (all_are 0x03 (part 0 4 r)) _ q;
      tail = and_r (all_are 0x03 (part 0 4 r)) _ q;
    }

pub three_last : (r : List ℕ) → get_or r 44 0 ≡ 0xF3 → all_are 0x03 (part 0 4 r) ≡ true → all_are 0 (part 135 5 r) ≡ three_ok r
unfolding three_ok
three_last r a b = rw (eq-eqb (get_or r 44 0) 0xF3 a, b)

pub →three : (r : List ℕ) → ThreeOk r → T (three_ok r)
→three r x = subst T (three_last r x.id (is_true x.key)) x.tail

-- an extent in use, and one that is not
module _ (h t n e : ℕ) (x : List ℕ) where
  pub in_use : e < n → good_ten h t e x ≡ extent_ok h t n e x
  unfolding extent_ok
  in_use u = rw (lt-ltb e n u)

  pub not_in_use : n ≤ e → all_are 0 x ≡ extent_ok h t n e x
  unfolding extent_ok
  not_in_use u = rw (le-ltb e n u)

-- the geometry of a format 4, by its numbers
pub geometry_is_lem : (r : List ℕ) (c h d s e : ℕ) → c ≡ get2 r 62 → h ≡ get2 r 64 → d ≡ get_or r 74 0 → s ≡ track_at h r 107 → e ≡ track_at h r 111
    → ◌≡◌ {A = Geometry} (record { cylinders = c; heads = h; records = d; vtoc_start = s; vtoc_tracks = e + 1 - s }) (read_geometry r)
unfolding read_geometry
geometry_is_lem r c h d s e ec eh ed es ee =
    let s' : s ≡ track_at (get2 r 64) (part 105 10 r) 2 = es ∙ ap (λ (x : ℕ). track_at x r 107) eh ∙ sym (track_part (get2 r 64) 105 10 2 r (omega arith)) in
    let e' : e ≡ track_at (get2 r 64) (part 105 10 r) 6 = ee ∙ ap (λ (x : ℕ). track_at x r 111) eh ∙ sym (track_part (get2 r 64) 105 10 6 r (omega arith)) in
    λ i. record { cylinders = ec i; heads = eh i; records = ed i; vtoc_start = s' i; vtoc_tracks = e' i + 1 - s' i }
