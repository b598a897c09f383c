-- Sixteen bits hold every sum of tracks on a volume that meets the limits. Where a table would need more the check stops: here is why a
-- stop is right where it is met, why the numbers of what passes fit, and that what is good meets none. Assumes nothing.
use mathlib.Core.Path.{◌≡◌, refl, sym, ap, ap₂, ◌∙◌, subst}
use mathlib.Core.Bool.{Bool, true, false, ◌&&◌}
use mathlib.Core.List.{List}
use Prim.Native.Nat.{ℕ, zero, suc, ◌+◌, ◌-◌, ◌*◌, ◌/◌, ◌%◌, ◌≤◌, ◌<◌, min}
use native.Mathlib.Nat.{add-mul, div-add-mod', le_refl, mul_comm, mul-le-mul, mul_right_comm, mul-zero}
use native.Mathlib.Omega.{arith}
use borrow.Author.Tests.{leb-false, leb-true, le-leb, lt-leb, ltb-false, ltb-true}
use lib.Dec.{T, leb, ltb}
use lib.ListN.{get_or}
use Rattle.model.specs.Basics.{get2}
use Rattle.model.specs.Model.{Geometry, slots, tracks}
use Rattle.model.proofs.Lists.{and_l, and_r, by, clash, is_true, true_is}
use Rattle.rules.specs.Predicates.{Limits}
use Rattle.rules.specs.Reading.{read_geometry, track_at}
use Rattle.rules.specs.Table.{limits}
use Rattle.rules.proofs.Valid.{→limits}
use Rattle.rules.specs.Promises.{geometry}
use Rattle.std.specs.Prelude.{Some, None}
use Rattle.dscb.specs.Forms.{Gives, geometry_of}
use Rattle.dscb.specs.declared.device.Geometry.{Geometry as Numbers}
use Rattle.dscb.specs.Tests.{good_ten, slot_named}
use Rattle.dscb.proofs.Failing.{bad_end, bad_first, bad_last, bad_order, past_slots}
use Rattle.dscb.proofs.Sound.{geometry_is_lem, no_limits}

-- ---- a product, made of the bytes of a factor

module _ (a b : ℕ) where
  pub by_bytes : a * b ≡ 256 * (a / 256 * b) + a % 256 * b
  by_bytes =
      sym (ap (λ (z : ℕ). z * b) (div-add-mod' a 256))
      ∙ add-mul (a / 256 * 256) (a % 256) b
      ∙ ap (λ (z : ℕ). z + a % 256 * b) (mul_right_comm (a / 256) 256 b ∙ mul_comm (a / 256 * b) 256)

  -- the stop: the part of the high byte is more than the product may be
  pub high_past : (most : ℕ) → b ≤ 255 → most / 256 < a / 256 * b → false ≡ (leb b 255 && leb (a * b) most)
  high_past most v u = let e = by_bytes in let w : most < a * b = omega arith in rw (lt-leb (a * b) most w, le-leb b 255 v)

  pub low_tells : (most : ℕ) → b ≤ 255 → a / 256 * b ≤ most / 256 → leb (a % 256 * b) (most - 256 * (a / 256 * b)) ≡ (leb b 255 && leb (a * b) most)
  low_tells most v u =
      let e = by_bytes in
      by (leb (a % 256 * b) (most - 256 * (a / 256 * b)))
      (λ q.
      let l = leb-true (a % 256 * b) (most - 256 * (a / 256 * b)) q in
      let w : a * b ≤ most = omega arith in
      let r : true ≡ (leb b 255 && leb (a * b) most) = rw (le-leb (a * b) most w, le-leb b 255 v) in
      q ∙ r)
      (λ q.
      let l = leb-false (a % 256 * b) (most - 256 * (a / 256 * b)) q in
      let w : most < a * b = omega arith in
      let r : false ≡ (leb b 255 && leb (a * b) most) = rw (lt-leb (a * b) most w, le-leb b 255 v) in
      q ∙ r)

  -- what the test tells
  pub product_fits : (most : ℕ) (r : Bool) → r ≡ (leb b 255 && leb (a * b) most) → r ≡ true → (b ≤ 255) × (a * b ≤ most)
  product_fits most r e q =
      let p : T (leb b 255 && leb (a * b) most) = true_is (sym e ∙ q) in
      (leb-true _ _ (is_true (and_l (leb b 255) _ p)), leb-true _ _ (is_true (and_r (leb b 255) _ p)))

  pub product_past : (most : ℕ) (r : Bool) → r ≡ (leb b 255 && leb (a * b) most) → r ≡ false → b ≤ 255 → a * b ≤ most → ⊥
  product_past most r e q v u = let s : true ≡ r = rw (e, le-leb b 255 v, le-leb (a * b) most u) in clash (sym s) q

-- ---- cylinders and tracks

module _ (c h cc : ℕ) where
  -- what begins in no cylinder of the volume lies behind its end
  pub cylinder_past : c ≤ cc → c * h ≤ cc * h
  cylinder_past u = mul-le-mul u (le_refl h)

  -- what begins in one of them, with a head below h, lies on it
  pub cylinder_fits : cc < c → cc * h + h ≤ c * h
  cylinder_fits u = let p : cc + 1 ≤ c = omega arith in let m = mul-le-mul p (le_refl h) in omega (arith, add-mul cc 1 h)

-- the track whose cylinder, p, and head, q, stand at place i
module _ (h p q i : ℕ) (s : List ℕ) (ep : p ≡ get2 s i) (eq : q ≡ get2 s (i + 2)) where
  pub track_is : p * h + q ≡ track_at h s i
  track_is = ap₂ (λ (x y : ℕ). x * h + y) ep eq

  pub track_fits : track_at h s i ≤ 65535 → (p * h ≤ 65535) × (p * h + q ≤ 65535)
  track_fits u = let e = track_is in (omega arith, omega arith)

  -- on a volume of c cylinders, or its end
  module _ (c : ℕ) where
    pub past_cylinders : c ≤ p → c * h ≡ min (c * h) (track_at h s i)
    past_cylinders u = let e = track_is in let l = cylinder_past c h p u in omega arith

    pub past_heads : p < c → c * h - p * h ≤ q → c * h ≡ min (c * h) (track_at h s i)
    past_heads u v = let e = track_is in let l = cylinder_fits c h p u in omega arith

    pub on_cylinder : p < c → q < c * h - p * h → p * h + q ≡ min (c * h) (track_at h s i)
    on_cylinder u v = let e = track_is in omega arith

-- ---- extents

module _ (c h i : ℕ) (x : List ℕ) where
  -- the stop at the volume's end, and that what it passes fits
  pub end_past : c ≤ get2 x 6 → false ≡ good_ten h (c * h) i x
  end_past u = let p = cylinder_past c h (get2 x 6) u in bad_end h (c * h) i x (omega arith)

  pub end_fits : get2 x 6 < c → get2 x 8 < h → track_at h x 6 < c * h
  end_fits u v = let p = cylinder_fits c h (get2 x 6) u in omega arith

  -- the stop at an extent that begins in a later cylinder than it ends in, and that the first track of any other fits
  pub later_cylinder : get2 x 6 < get2 x 2 → get2 x 8 < h → false ≡ good_ten h (c * h) i x
  later_cylinder u v = let p = cylinder_fits (get2 x 2) h (get2 x 6) u in bad_order h (c * h) i x (omega arith)

  pub first_fits : get2 x 2 ≤ get2 x 6 → get2 x 6 < c → get2 x 4 < h → track_at h x 2 < c * h
  first_fits w u v = let d : get2 x 2 < c = omega arith in let p = cylinder_fits c h (get2 x 2) d in omega arith

  -- the stops before the tracks are numbered, together: what meets one is no extent
  pub stopped : (get2 x 4 < h → get2 x 8 < h → get2 x 6 < c → get2 x 2 ≤ get2 x 6 → ⊥) → false ≡ good_ten h (c * h) i x
  stopped n =
      by (ltb (get2 x 4) h)
      (λ p.
      by (ltb (get2 x 8) h)
      (λ q.
      by (ltb (get2 x 6) c)
      (λ r. later_cylinder (omega (arith, n (ltb-true _ _ p) (ltb-true _ _ q) (ltb-true _ _ r))) (ltb-true _ _ q))
      (λ r. end_past (ltb-false _ _ r)))
      (λ q. bad_last h (c * h) i x (ltb-false _ _ q)))
      (λ p. bad_first h (c * h) i x (ltb-false _ _ p))

  -- a good extent meets no stop
  pub good_passes : good_ten h (c * h) i x ≡ true → get2 x 8 < h → (get2 x 6 < c) × (get2 x 2 ≤ get2 x 6)
  good_passes e v = (
    by (ltb (get2 x 6) c) (λ q. ltb-true _ _ q) (λ q. clash e (sym (end_past (ltb-false _ _ q)))),
    by (leb (get2 x 2) (get2 x 6)) (λ q. leb-true _ _ q) (λ q. clash e (sym (later_cylinder (leb-false _ _ q) v))),
  )

-- ---- addresses

module _ (g : Geometry) (x : List ℕ) (l : Limits g) where
  -- what lies behind the VTOC is no slot's address
  pub vtoc_past : 1 ≤ get_or x 4 0 → g.vtoc_tracks ≤ track_at g.heads x 0 - g.vtoc_start → 0 ≡ slot_named g.heads g.records g.vtoc_start (slots g) x
  vtoc_past a u =
      let t = track_at g.heads x 0 in
      let p = cylinder_past g.vtoc_tracks g.records (t - g.vtoc_start) u in
      past_slots g.heads g.records g.vtoc_start (slots g) x t (get_or x 4 0) refl refl (omega arith)

  pub volume_past : 1 ≤ get_or x 4 0 → g.cylinders ≤ get2 x 0 → 0 ≡ slot_named g.heads g.records g.vtoc_start (slots g) x
  volume_past a u =
      let p = cylinder_past g.cylinders g.heads (get2 x 0) u in
      vtoc_past a (omega (arith, l.ends))

  -- the address of a slot meets neither
  pub named_passes : 1 ≤ get_or x 4 0 → 1 ≤ slot_named g.heads g.records g.vtoc_start (slots g) x
      → (get2 x 0 < g.cylinders) × (track_at g.heads x 0 - g.vtoc_start < g.vtoc_tracks)
  named_passes a some = (
    by (ltb (get2 x 0) g.cylinders) (λ q. ltb-true _ _ q) (λ q. absurd (omega (arith, volume_past a (ltb-false _ _ q)))),
    by (ltb (track_at g.heads x 0 - g.vtoc_start) g.vtoc_tracks) (λ q. ltb-true _ _ q) (λ q. absurd (omega (arith, vtoc_past a (ltb-false _ _ q)))),
  )

  -- the number of any other slot fits
  pub slot_inside : (t r : ℕ) → r ≤ g.records → 1 ≤ r → t - g.vtoc_start < g.vtoc_tracks → (t - g.vtoc_start) * g.records + r - 1 < slots g
  slot_inside t r a b u = let p = cylinder_fits g.vtoc_tracks g.records (t - g.vtoc_start) u in omega arith

-- ---- the geometry

-- a product that is some has both its factors
pub factors : (a b : ℕ) → 1 ≤ a * b → (1 ≤ a) × (1 ≤ b)
factors zero b u = absurd (omega arith)
factors (suc a) zero u = absurd (omega (arith, mul-zero (suc a)))
factors (suc a) (suc b) u = (omega arith, omega arith)

-- the limits, all but that there are three slots
pub limits_last : (g : Geometry) → (g.heads ≤ 255) × (tracks g ≤ 65535) → 1 ≤ g.vtoc_start → g.vtoc_start ≤ tracks g → g.vtoc_tracks ≤ tracks g - g.vtoc_start
    → (g.records ≤ 255) × (slots g ≤ 468) → leb 3 (slots g) ≡ limits g
limits_last g a b c d e =
    let ch = factors g.cylinders g.heads (omega arith) in
    by (leb 3 (slots g))
    (λ p.
    let some = leb-true 3 (slots g) p in
    let vd = factors g.vtoc_tracks g.records (omega arith) in
    p
    ∙ sym
    (is_true
    (→limits g
    (record {
      cylinders = ch.0;
      heads = ch.1;
      heads_most = a.0;
      records = vd.1;
      records_most = e.0;
      start = b;
      vtoc = vd.0;
      tracks_most = a.1;
      ends = omega arith;
      least = some;
      most = e.1;
    }))))
    (λ p. let few = leb-false 3 (slots g) p in p ∙ no_limits g (λ x. absurd (omega (arith, x.least))))

-- numbers that meet the limits have 16 bits
pub record Sixteen (g : Geometry) : Type 0 where
  pub cylinders : g.cylinders ≤ 65535
  pub heads : g.heads ≤ 65535
  pub records : g.records ≤ 65535
  pub start : g.vtoc_start ≤ 65535
  pub vtoc : g.vtoc_tracks ≤ 65535

pub sixteen : (g : Geometry) → Limits g → Sixteen g
sixteen g l =
    let m : g.cylinders * 1 ≤ tracks g = mul-le-mul (le_refl g.cylinders) l.heads in
    record {
      cylinders = omega (arith, l.tracks_most);
      heads = omega (arith, l.heads_most);
      records = omega (arith, l.records_most);
      start = omega (arith, l.ends, l.tracks_most);
      vtoc = omega (arith, l.ends, l.tracks_most);
    }

-- numbers that meet the limits meet no stop of a product
pub limits_pass : (g : Geometry) → Limits g
    → (true ≡ (leb g.heads 255 && leb (g.cylinders * g.heads) 65535)) × (true ≡ (leb g.records 255 && leb (g.vtoc_tracks * g.records) 468))
limits_pass g l =
    (rw (le-leb g.heads 255 l.heads_most, le-leb (tracks g) 65535 l.tracks_most), rw (le-leb g.records 255 l.records_most, le-leb (slots g) 468 l.most))

-- what is given where the limits are met is the geometry, and nothing is where they are not
pub given_good : (x : Geometry) (n : Numbers) → Gives x (Some n) → geometry_of n ≡ x
given_good x n g = g

pub given_bad : (x : Geometry) → Gives x None → limits x ≡ false
given_bad x g = g

-- the VTOC of c cylinders of h tracks, from track s to track e, as a format 4 tells of it
abbrev pub vtoc_from : (c h d s e : ℕ) → Geometry
vtoc_from c h d s e = record { cylinders = c; heads = h; records = d; vtoc_start = s; vtoc_tracks = e + 1 - s }

module _ (c h d s e : ℕ) where
  pub ends_first : min (c * h) e < min (c * h) s → Limits (vtoc_from c h d s e) → ⊥
  ends_first u l = absurd (omega (arith, l.vtoc))

  pub ends_past : c * h ≤ min (c * h) e → Limits (vtoc_from c h d s e) → ⊥
  ends_past u l = absurd (omega (arith, l.vtoc, l.ends))

-- a format 4 whose numbers break the limits, and one whose VTOC is on the volume; c, h and d are read from it, f and l are the first and the
-- last track of the VTOC, or the volume's end
module _ (r : List ℕ) (c h : ℕ) (ec : c ≡ get2 r 62) (eh : h ≡ get2 r 64) where
  pub read_none : (Limits (vtoc_from c h (get_or r 74 0) (track_at h r 107) (track_at h r 111)) → ⊥) → limits (read_geometry r) ≡ false
  read_none broken =
      subst (λ (x : Geometry). limits x ≡ false) (geometry_is_lem r c h _ _ _ ec eh refl refl refl) (sym (no_limits (vtoc_from c h (get_or r 74 0) (track_at h r 107) (track_at h r 111)) broken))

  same_read : (d f l : ℕ) → d ≡ get_or r 74 0 → f ≡ track_at h r 107 → l ≡ track_at h r 111 → l - f + 1 ≡ l + 1 - f
      → ◌≡◌ {A = Geometry} (record { cylinders = c; heads = h; records = d; vtoc_start = f; vtoc_tracks = l - f + 1 }) (read_geometry r)
  same_read d f l ed es ee long =
      ap (λ (k : ℕ). record { cylinders = c; heads = h; records = d; vtoc_start = f; vtoc_tracks = k }) long ∙ geometry_is_lem r c h d f l ec eh ed es ee

  pub read_same : (d f l : ℕ) → d ≡ get_or r 74 0 → f ≡ min (c * h) (track_at h r 107) → l ≡ min (c * h) (track_at h r 111) → f ≤ l → l < c * h
      → geometry c h d f (l - f + 1) ≡ read_geometry r
  read_same d f l ed ef el u v = same_read d f l ed (omega arith) (omega arith) (omega arith)
