-- A release that is accepted, document 02, [2]: what it leaves of the data set; and the plotting jobs' wish, that a cylinder file
-- all of whose extents have type X'81' has such extents then too, each of them whole cylinders. Assumes nothing.
use mathlib.Core.Path.{◌≡◌, refl, sym, ap, ◌∙◌, subst}
use mathlib.Core.Bool.{Bool, true, false}
use mathlib.Core.Option.{Option, none, some}
use mathlib.Core.List.{List}
use Prim.Native.Nat.{ℕ, suc, ◌-◌, ◌%◌, ◌≤◌, ◌<◌}
use borrow.Author.Tests.{eq-eqb, ne_eqb}
use lib.Dec.{T}
use lib.ListN.{get_or, length, take}
use Rattle.model.specs.Model.{Extent, Geometry, Label, Volume, overs, runs_of, total}
use Rattle.model.specs.Tracks.{tracks_of}
use Rattle.model.proofs.Cylinders.{KeptCount}
use Rattle.model.proofs.Lists.{All_map, All_both}
use Rattle.model.specs.Predicates.{All}
use Rattle.rules.specs.Calls.{Outcome, Reply, accept, cut_type, given, given_back, good_ttr, refuse, release, release_tracks, release_set, rule, shorter, tell, tracks_kept_of, unless}
use Rattle.rules.specs.Predicates.{GoodExtent, Valid}
use Rattle.rules.specs.Slots.{changed, found, without}
use Rattle.rules.specs.Table.{good_name, unit_in}
use Rattle.rules.proofs.Cut.{keep_cut, keep_same, keep_tracks, keep_typed, whole_extent}
use Rattle.rules.proofs.FoundSet.{found_good}
use Rattle.rules.proofs.Grants.{put_released, release_count}
use Rattle.rules.proofs.Placed.{Put, put_found}

-- where a call is accepted, this holds of its reply and the volume after it
abbrev pub After : (Reply → Volume → Type 0) → Outcome → Type 0
After P (refuse n) = Unit {0}
After P (accept r w) = P r w
After P (tell r) = ⊥

pub after_unless : (P : Reply → Volume → Type 0) (b : Bool) (n : ℕ) (o : Outcome) → (T b → After P o) → After P (unless b n o)
after_unless P true n o k = k tt
after_unless P false n o k = tt

pub after_given : {A : Type 0} (P : Reply → Volume → Type 0) (o : Option A) (n : ℕ) (k : A → Outcome) → ((a : A) → o ≡ some a → After P (k a)) → After P (given o n k)
after_given P none n k p = tt
after_given P (some a) n k p = p a refl

-- extent e was d and is shorter now: in a cylinder file it has its type still, elsewhere X'01'
pub record Shortened (unit : ℕ) (e d : Extent) : Type 0 where
  pub type_kept : unit ≡ 0xC0 → e.type_byte ≡ d.type_byte
  pub type_lost : (unit ≡ 0xC0 → ⊥) → e.type_byte ≡ 0x01

shortened : (unit : ℕ) (e d : Extent) → e.type_byte ≡ cut_type unit d → Shortened unit e d
shortened unit e d q = record { type_kept = λ c. q ∙ rw (eq-eqb unit 0xC0 c); type_lost = λ c. q ∙ rw (ne_eqb unit 0xC0 c) }

-- the data set n, which was l: so many tracks stay as the paper says, the first of its list; the others are given back; an extent
-- all of whose tracks stay is as it was, one that is cut has the paper's type; the TTR is stored
pub record Released (h : ℕ) (n : List ℕ) (l : Label) (ttr : ℕ) (r : Reply) (w : Volume) : Type 0 where
  pub kept : ℕ
  pub count : KeptCount h (unit_in l.unit) ttr (tracks_of (runs_of l)) kept
  pub reply : r ≡ given_back (total (runs_of l) - kept)
  pub label : Label
  pub there : found w n ≡ some label
  pub list : tracks_of (runs_of label) ≡ take kept (tracks_of (runs_of l))
  pub same : (i : ℕ) (d : Extent) → i < length l.extents → total (overs (take (suc i) l.extents)) ≤ kept → get_or label.extents i d ≡ get_or l.extents i d
  pub typed : (i : ℕ) (d : Extent) → i < length label.extents → (get_or label.extents i d).over.count < (get_or l.extents i d).over.count
      → Shortened (unit_in l.unit) (get_or label.extents i d) (get_or l.extents i d)
  pub unit_is : label.unit ≡ l.unit
  pub ttr_is : label.ttr ≡ ttr

-- type X'81', from a cylinder's start to a cylinder's end
abbrev pub WholeCylinders : Geometry → Extent → Type 0
WholeCylinders g e = (e.type_byte ≡ 0x81) × (e.over.start % g.heads ≡ 0) × (e.over.count % g.heads ≡ 0)

-- the data set n, all of whose extents are such
pub record InWholeCylinders (n : List ℕ) (r : Reply) (w : Volume) : Type 0 where
  pub label : Label
  pub there : found w n ≡ some label
  pub extents : All (WholeCylinders w.geometry) label.extents

module _ (v : Volume) (h : Valid v) (n : List ℕ) (l : Label) (f : found v n ≡ some l) (ttr : ℕ) where
  abbrev k : ℕ
  k = tracks_kept_of v.geometry ttr l

  abbrev others : List Label
  others = without n v.labels

  abbrev l₀ : Label
  l₀ = shorter k ttr l

  abbrev back : Reply
  back = given_back (total (runs_of l) - k)

  module _ (w : Volume) (p : Put v others l₀ w) where
    there : found w n ≡ some p.label
    there = put_found v n l f l₀ refl w p

    put_leaves : (ok : T (good_ttr ttr (total (runs_of l)))) → Released v.geometry.heads n l ttr back w
    put_leaves ok =
        record {
          kept = k;
          count = release_count v h n l f ttr ok;
          reply = refl;
          label = p.label;
          there = there;
          list = ap (λ (es : List Extent). tracks_of (overs es)) p.extents ∙ keep_tracks (unit_in l.unit) k l.extents;
          same = λ i d u fits. ap (λ (es : List Extent). get_or es i d) p.extents ∙ keep_same (unit_in l.unit) k l.extents i d u fits;
          typed = λ i d.
              subst
              (λ (es : List Extent). i < length es → (get_or es i d).over.count < (get_or l.extents i d).over.count → Shortened (unit_in l.unit) (get_or es i d) (get_or l.extents i d))
              (sym p.extents)
              (λ u less. shortened (unit_in l.unit) (get_or l₀.extents i d) (get_or l.extents i d) (keep_cut (unit_in l.unit) k l.extents i d u less));
          unit_is = p.unit;
          ttr_is = p.ttr;
        }

    put_whole : unit_in l.unit ≡ 0xC0 → All (λ e. e.type_byte ≡ 0x81) l.extents → InWholeCylinders n back w
    put_whole unit typed =
        let kept : All (λ e. e.type_byte ≡ 0x81) p.label.extents = subst (All (λ e. e.type_byte ≡ 0x81)) (sym p.extents) (keep_typed (unit_in l.unit) k l.extents (eq-eqb (unit_in l.unit) 0xC0 unit) typed) in
        record {
          label = p.label;
          there = there;
          extents =
              All_map (λ e. GoodExtent w.geometry e × (e.type_byte ≡ 0x81)) (WholeCylinders w.geometry)
              (λ e x. let y = whole_extent w.geometry e x.0 x.1 in (x.1, y.0, y.1))
              p.label.extents (All_both (GoodExtent w.geometry) (λ e. e.type_byte ≡ 0x81) p.label.extents (found_good w p.valid n p.label there).extents kept);
        }

  -- whatever holds where the rule accepts
  after_release : (P : Reply → Volume → Type 0) → (T (good_ttr ttr (total (runs_of l))) → (w : Volume) → Put v others l₀ w → P back w) → After P (rule v (release n ttr))
  unfolding rule
  after_release P leaves =
      after_unless P (good_name n) 4 (given (found v n) 5 (release_set v n ttr))
      (λ good. subst (λ (o : Option Label). After P (given o 5 (release_set v n ttr))) (sym f)
      (after_unless P (good_ttr ttr (total (runs_of l))) 12 (release_tracks v n ttr l k)
      (λ ok. after_given P (changed v n l₀) 11 (accept back) (λ w e. leaves ok w (put_released v h n l f ttr ok w e)))))

  pub release_leaves : After (Released v.geometry.heads n l ttr) (rule v (release n ttr))
  release_leaves = after_release (Released v.geometry.heads n l ttr) (λ ok w p. put_leaves w p ok)

  pub release_whole : unit_in l.unit ≡ 0xC0 → All (λ e. e.type_byte ≡ 0x81) l.extents → After (InWholeCylinders n) (rule v (release n ttr))
  release_whole unit typed = after_release (InWholeCylinders n) (λ ok w p. put_whole w p unit typed)
