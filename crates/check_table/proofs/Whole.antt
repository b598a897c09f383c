-- The maps as they begin, the rest, and the whole: each result of the check is `taken`. Assumes nothing.
use mathlib.Core.Path.{◌≡◌, refl, sym, ap, ◌∙◌, subst}
use mathlib.Core.Bool.{Bool, true, false}
use mathlib.Core.List.{List, [], ◌∷◌}
use Prim.Native.Nat.{ℕ, ◌+◌, ◌*◌, ◌/◌, ◌%◌, ◌≤◌, ◌<◌}
use native.Mathlib.Omega.{arith}
use lib.Dec.{T}
use lib.ListN.{get_or, length}
use Rattle.model.specs.Basics.{same}
use Rattle.model.specs.Model.{Geometry, Volume, held, run, slots, tracks, unused}
use Rattle.model.proofs.Lists.{by, clash, is_true, same_refl, same→eq, true_is}
use Rattle.model.proofs.Runs.{hit_below}
use Rattle.rules.specs.Layout.{format4}
use Rattle.rules.specs.Reading.{chop, read, read_geometry, read_records}
use Rattle.rules.specs.Table.{limits, taken}
use Rattle.rules.proofs.Taken.{length_encode, taken_is}
use Rattle.rules.specs.Predicates.{Limits}
use Rattle.rules.proofs.Meaning.{records_of, sound_taken, taken_sound}
use Rattle.bitmap.specs.Map.{AllFree, FreedBelow, Shows, Taken}
use Rattle.bitmap.proofs.Held.{shows_opened, shows_take, taken_true}
use Rattle.dscb.specs.Records.{slot_bytes}
use Rattle.dscb.proofs.Records.{chop_slot}
use Rattle.dscb.specs.Forms.{geometry_of}
use Rattle.check_label.specs.Marks.{units}
use Rattle.check_table.proofs.Scan.{unit_tally}
use Rattle.std.specs.Prelude.{Option, Some, None, IfSome, is_some}
use Rattle.check_table.specs.Spare.{AllZero, ZeroBelow, highest_slot}
use Rattle.check_table.proofs.Unused.{count_unused}
use Rattle.check_table.specs.declared.Verdict.{Verdict}
use Rattle.check_table.specs.Check.{Checked, Contents, MapsBegun, Rest, RestTold, Shown, TellsVolume, volume_at}
use Rattle.check_table.proofs.Read.{records_are, volume_is}

-- ---- the maps

-- slot 0, or the first track, of a map in which nothing is held
first_taken : (m m₁ m₂ : List ℕ) (n : ℕ) (r : Bool) → 1 ≤ n → FreedBelow m m₁ n → Taken m₁ m₂ 0 1 r → Shows m₂ n (run 0 1 ∷ [])
first_taken m m₁ m₂ n r pos b x =
    let h = shows_opened m m₁ n b in
    let a : AllFree m₁ 0 1 = λ t u w. let z = h t (omega arith) in omega arith in
    let e = taken_true m₁ m₂ 0 1 r a x in
    shows_take m₁ m₂ n 0 1 [] h a (x.made e)

module _ (g : Geometry) (limit : Limits g) (m m₁ m₂ : List ℕ) (r₁ r₂ : Bool) (b : AllFree m 0 (tracks g))
    (x : Taken m m₁ g.vtoc_start (g.vtoc_start + g.vtoc_tracks) r₁) (y : Taken m₁ m₂ 0 1 r₂) where
  pub tracks_begun : Shows m₂ (tracks g) (held g [])
  unfolding held
  tracks_begun =
      let h : Shows m (tracks g) [] = λ t u. let z = b t (omega arith) u in omega arith in
      let n = limit.ends in
      let f : AllFree m g.vtoc_start (g.vtoc_start + g.vtoc_tracks) = λ t u w. b t (omega arith) (omega arith) in
      let e = taken_true m m₁ g.vtoc_start (g.vtoc_start + g.vtoc_tracks) r₁ f x in
      let k = shows_take m m₁ (tracks g) g.vtoc_start g.vtoc_tracks [] h f (x.made e) in
      let s = limit.start in
      let p : AllFree m₁ 0 1 = λ t u w.
      let z = k t (omega arith) in
      let c = hit_below (run g.vtoc_start g.vtoc_tracks) t (omega arith) in
      omega arith
      in
      let q = taken_true m₁ m₂ 0 1 r₂ p y in
      shows_take m₁ m₂ (tracks g) 0 1 (run g.vtoc_start g.vtoc_tracks ∷ []) k p (y.made q)

  pub maps_begun : (s s₁ s₂ : List ℕ) (r₃ : Bool) (n : ℕ) → n ≡ slots g → FreedBelow s s₁ n → Taken s₁ s₂ 0 1 r₃ → MapsBegun g m m₂ s s₂
  maps_begun s s₁ s₂ r₃ n e c z =
      record {
        long_map = y.long ∙ x.long;
        long_slots = z.long ∙ c.long;
        free_tracks = tracks_begun;
        free_slots = first_taken s s₁ s₂ (slots g) r₃ (omega (arith, limit.least)) (subst (FreedBelow s s₁) e c) z;
      }

-- ---- the rest

module _ (g : Geometry) (t s : List ℕ) where
  no_rest : ((us : List ℕ) → Shows s (slots g) (units us) → Rest g t us → ⊥) → RestTold g t s None
  no_rest f = record { yes = λ q. clash q refl; no = λ _. f; tells = tt }

  pub rest_unclear : (n : ℕ) → n ≡ slots g → (ZeroBelow t n s → ⊥) → RestTold g t s None
  rest_unclear n all f = no_rest (λ us h y. f (λ k u i. y.zero k (omega arith) (let a = h k (omega arith) in let c = unit_tally k us in omega arith)))

  -- the verdict v, whose numbers are those that the format 4 is made of
  module _ (count n : ℕ) (all : n ≡ slots g) (spared : AllZero t n s count) (made rec : List ℕ) (v : Verdict) (is : geometry_of v.geometry ≡ g)
      (many : v.format0s ≡ count) (highest : v.highest ≡ highest_slot t n) (four : made ≡ format4 g v.highest count) (first : rec ≡ slot_bytes t 0) where
    x : AllZero t (slots g) s count
    x = subst (λ (k : ℕ). AllZero t k s count) all spared

    high : v.highest ≡ highest_slot t (slots g)
    high = highest ∙ ap (highest_slot t) all

    count_is : (us : List ℕ) → Shows s (slots g) (units us) → count ≡ length (unused (slots g) us)
    count_is us w = x.many ∙ count_unused s (slots g) us (λ k u. let a = w k u in let c = unit_tally k us in omega arith)

    made_is : (us : List ℕ) → Shows s (slots g) (units us) → made ≡ format4 g (highest_slot t (slots g)) (length (unused (slots g) us))
    made_is us w = four ∙ ap (λ (k : ℕ). format4 g k count) high ∙ ap (format4 g (highest_slot t (slots g))) (count_is us w)

    pub rest_wrong : same made rec ≡ false → RestTold g t s None
    rest_wrong q =
        no_rest (λ us w y.
        let i : made ≡ rec = made_is us w ∙ y.four ∙ sym first in
        clash (ap (same made) (sym i) ∙ is_true (same_refl made)) q)

    pub rest_told : same made rec ≡ true → RestTold g t s (Some v)
    rest_told q =
        record {
          yes = λ _ us w.
              record {
                zero = λ k u z. x.zero k u (let a = w k u in let c = unit_tally k us in omega arith);
                four = sym (made_is us w) ∙ same→eq made rec (true_is q) ∙ first;
              };
          no = λ e. clash {b = true} refl e;
          tells = record {
            geometry_is = is;
            count_is = λ us w. many ∙ count_is us w;
            count_most = let a = x.most in omega arith;
            highest_is = high;
          };
        }

-- ---- refused at once

refused : (t : List ℕ) → (T (taken t) → ⊥) → false ≡ taken t
refused t f = by (taken t) (λ e. absurd (f (true_is e))) (λ e. sym e)

-- nothing was marked in the maps, and there is no verdict
no_maps : (t m s : List ℕ) → (T (taken t) → ⊥) → Checked t m m s s None
no_maps t m s f = record { long_map = refl; long_slots = refl; told = refused t f; shown = λ q. clash q refl; tells = tt }

pub taken_long : (t : List ℕ) → T (taken t) → length t ≡ slots (read t).geometry * 140
taken_long t x = let p = taken_is t x in ap length (sym p.1) ∙ length_encode (read t) p.0

pub geometry_read : (t : List ℕ) → 140 ≤ length t → (read t).geometry ≡ read_geometry (slot_bytes t 0)
unfolding read read_records
geometry_read t u = ap read_geometry (chop_slot (length t / 140) t 0 (omega arith))

four_id : (g : Geometry) (a b : ℕ) → get_or (format4 g a b) 44 0 ≡ 0xF4
unfolding format4
four_id g a b = refl

module _ (t m s : List ℕ) where
  pub too_short : length t < 140 → Checked t m m s s None
  too_short u = no_maps t m s (λ x. let l = taken_long t x in let n = (taken_sound t x).limits.least in omega arith)

  module _ (u : 140 ≤ length t) where
    pub no_four : (rec : List ℕ) → rec ≡ slot_bytes t 0 → (get_or rec 44 0 ≡ 0xF4 → ⊥) → Checked t m m s s None
    no_four rec e f =
        no_maps t m s (λ x.
        let y = taken_sound t x in
        f (ap (λ (r : List ℕ). get_or r 44 0) (e ∙ sym (chop_slot (length t / 140) t 0 (omega arith)) ∙ sym y.four) ∙ four_id (read t).geometry _ _))

    module _ (g : Geometry) (e : g ≡ read_geometry (slot_bytes t 0)) where
      pub out_of_limits : limits g ≡ false → Checked t m m s s None
      out_of_limits f =
          no_maps t m s (λ x.
          let q : (read t).geometry ≡ g = geometry_read t u ∙ sym e in
          clash (is_true (taken_is t x).0.limit) (ap limits q ∙ f))

      pub wrong_length : (n : ℕ) → n ≡ slots g → (length t ≡ 140 * n → ⊥) → Checked t m m s s None
      wrong_length n all f =
          no_maps t m s (λ x.
          let q : slots (read t).geometry ≡ slots g = ap slots (geometry_read t u ∙ sym e) in
          let l = taken_long t x in
          f (omega arith))

-- ---- the contents decide

pub contents_decide : (t m m' s s' : List ℕ) (g : Geometry) (r : Option Verdict) → Limits g → g ≡ read_geometry (slot_bytes t 0) → length t ≡ 140 * slots g → Contents g t m m' s s' r
    → Checked t m m' s s' r
contents_decide t m m' s s' g r limit e len x =
    let n = limit.least in
    let v : read t ≡ volume_at g t = volume_is g t len (omega arith) e in
    let c : records_of t ≡ chop (slots g) t = records_are g t len in
    record {
      long_map = x.long_map;
      long_slots = x.long_slots;
      told =
          by (is_some r)
          (λ q. q ∙ sym (is_true (sound_taken t (let z : length t % 140 ≡ 0 = omega arith in z) (rw (v, c) (x.yes q)))))
          (λ q. q ∙ refused t (λ y. x.no q (let z = taken_sound t y in rw (v, c) at z)));
      shown = λ q. subst (λ (w : Volume). Shown w m' s') (sym v) (x.shown q);
      tells = subst (λ (w : Volume). IfSome r (λ o. TellsVolume w (geometry_of o.geometry) o.format0s o.highest)) (sym v) x.tells;
    }

pub no_label : (t rec : List ℕ) → rec ≡ slot_bytes t 0 → get_or rec 44 0 ≡ 0xF4 → Rattle.names.specs.Find.is_label (slot_bytes t 0) ≡ false
no_label t rec e q = ap (λ (r : List ℕ). Rattle.names.specs.Find.is_label r) (sym e) ∙ ap (λ (b : ℕ). lib.Dec.eqb b 0xF1) q
