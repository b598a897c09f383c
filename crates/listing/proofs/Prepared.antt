-- A taken table is ready to be listed, and its parts make the listing. Assumes nothing.
use mathlib.Core.Path.{◌≡◌, refl, sym, ap, ◌∙◌, subst}
use mathlib.Core.Bool.{true, false}
use mathlib.Core.List.{List, [], ◌∷◌}
use Prim.Native.Nat.{ℕ, zero, suc, ◌*◌, ◌≤◌, ◌<◌, ◌/◌}
use native.Mathlib.Omega.{arith}
use lib.ListN.{length}
use Rattle.std.specs.Prelude.{Option, Some, IfSome, is_some}
use Rattle.check_table.specs.declared.Verdict.{Verdict}
use Rattle.model.specs.Basics.{flat}
use Rattle.model.specs.Model.{Geometry, Label, Volume, format0s, free, runs_of, slots, total, tracks}
use Rattle.model.specs.Predicates.{All}
use Rattle.model.proofs.Lists.{true_is}
use Rattle.rules.specs.Layout.{link}
use Rattle.rules.specs.Listing.{data_line, free_line, listing, listing_of, refusal_line, slot_line, volume_line}
use Rattle.rules.specs.Reading.{read}
use Rattle.rules.specs.Table.{good_length, taken}
use Rattle.rules.proofs.LabelBack.{length_1}
use Rattle.rules.proofs.Taken.{taken_is}
use Rattle.rules.specs.Predicates.{Limits, Valid}
use Rattle.rules.specs.Sound.{LabelOk, Sound}
use Rattle.rules.proofs.Meaning.{records_of, taken_sound}
use Rattle.bitmap.specs.Map.{free_from}
use Rattle.dscb.specs.Forms.{geometry_of, linked_slot}
use Rattle.dscb.specs.Records.{slot_bytes}
use Rattle.dscb.specs.Tests.{slot_named}
use Rattle.dscb.proofs.Links.{slot_found, slot_none}
use Rattle.dscb.proofs.Records.{chop_slot, length_chop}
use Rattle.dscb.proofs.Written.{link1_back}
use Rattle.check_table.specs.Labels.{labels_below}
use Rattle.rows.specs.Text.{Written}
use Rattle.rows.proofs.Text.{then}
use Rattle.listing.specs.Text.{volume_text}
use Rattle.listing.proofs.Extents.{good_proper, tracks_most_lem}
use Rattle.listing.proofs.Volumes.{volume_text_lem}
use Rattle.check_table.specs.Check.{Checked, Shown, TellsVolume, volume_at}
use Rattle.check_table.proofs.Free.{free_shown}
use Rattle.check_table.proofs.Pieces.{in_table, third_below}
use Rattle.check_table.proofs.Read.{volume_is}
use Rattle.check_table.proofs.Whole.{geometry_read, taken_long}
use Rattle.listing.specs.Whole.{Listable, ReadyToList}
use Rattle.listing.proofs.Passes.{reads, widen}

-- ---- a taken table

all_two : {A : Type 0} (P Q R : A → Type 0) → ((x : A) → P x → Q x → R x) → (xs : List A) → All P xs → All Q xs → All R xs
all_two P Q R f [] a b = tt
all_two P Q R f (x ∷ xs) a b = (f x a.0 b.0, all_two P Q R f xs a.1 b.1)

-- the slot of a label's format 3 is the one that its format 1 is linked to
linked_so : (g : Geometry) (t : List ℕ) (l : Label) → Limits g → length (records_of t) ≡ slots g → LabelOk g (records_of t) l → linked_slot g (slot_bytes t l.slot) ≡ l.slot3
linked_so g t l lim many x =
    let rs = records_of t in
    let long = length_chop (length t / 140) t in
    let least = lim.least in
    let a = in_table rs l.slot (ap length (sym x.one) ∙ length_1 g l x.good) in
    let b = third_below g rs l (omega arith) x in
    ap (λ (r : List ℕ). linked_slot g r) (sym (x.one ∙ chop_slot (length t / 140) t l.slot (omega arith)))
    ∙ ap (λ (y : List ℕ). slot_named g.heads g.records g.vtoc_start (slots g) y) (link1_back g l x.good)
    ∙ named l.slot3 (omega arith)
  where
    named : (k : ℕ) → k < slots g → slot_named g.heads g.records g.vtoc_start (slots g) (link g k) ≡ k
    named zero u = slot_none g.heads g.records g.vtoc_start (slots g)
    named (suc k) u = slot_found g (slots g) (link g (suc k)) lim.heads lim.records (suc k) (omega arith) u refl

module _ (g : Geometry) (t m s : List ℕ) (len : length t ≡ 140 * slots g) (v : read t ≡ volume_at g t) (valid : Valid (volume_at g t)) (sound : Sound (records_of t) (volume_at g t)) (shown : Shown (volume_at g t) m s)
    (count top : ℕ) (tells : TellsVolume (volume_at g t) g count top) where
  ready_so : ReadyToList g count t m
  ready_so =
      let rs = records_of t in
      record {
        limits = sound.limits;
        long = len;
        volume = v;
        labels =
            all_two (LabelOk g rs) (λ l. total (runs_of l) ≤ 65535) (Listable g t)
            (λ l x y.
            record {
              most = x.good.most;
              proper = good_proper g sound.limits l x.good;
              tracks = y;
              linked = linked_so g t l sound.limits sound.many x;
            })
            (labels_below g t (slots g)) sound.labels (tracks_most_lem (volume_at g t) valid);
        free_tracks = free_shown (volume_at g t) m s shown;
        count_is = tells.count_is;
        count_most = tells.count_most;
      }

-- what the check tells of it
pub ready_to_list : (t : List ℕ) {m m' s s' : List ℕ} {r : Option Verdict} → Checked t m m' s s' r → (o : Verdict) → r ≡ Some o → ReadyToList (geometry_of o.geometry) o.format0s t m'
ready_to_list t {m' = m'} {s' = s'} c o e =
    let g = geometry_of o.geometry in
    let there = ap is_some e in
    let tells : TellsVolume (read t) g o.format0s o.highest
    = subst (λ (u : Option Verdict). IfSome u (λ k. TellsVolume (read t) (geometry_of k.geometry) k.format0s k.highest)) e c.tells in
    let x = true_is (sym c.told ∙ there) in
    let p = taken_is t x in
    let y = taken_sound t x in
    let l = taken_long t x in
    let n = y.limits.least in
    let q : g ≡ (read t).geometry = tells.geometry_is in
    let z : slots g ≡ slots (read t).geometry = ap slots q in
    let len : length t ≡ 140 * slots g = omega arith in
    let v : read t ≡ volume_at g t = volume_is g t len (omega arith) (q ∙ geometry_read t (omega arith)) in
    ready_so g t m' s' len v (subst Valid v p.0) (subst (Sound (records_of t)) v y) (subst (λ (u : Volume). Shown u m' s') v (c.shown there)) o.format0s o.highest
    (subst (λ (u : Volume). TellsVolume u g o.format0s o.highest) v tells)

-- ---- its listing

module _ (g : Geometry) (count : ℕ) (t m : List ℕ) (h : ReadyToList g count t m) where
  pub whole_written : {a b d r : ℕ} {o o₁ o₂ o₃ o₄ : List ℕ} (n : ℕ) → n ≡ tracks g
      → Written 0 (volume_text g.cylinders g.heads) 64 o o₁ a
      → Written a (flat data_line (labels_below g t (slots g))) 29952 o₁ o₂ b
      → Written b (flat free_line (free_from m n 0)) (14 * n) o₂ o₃ d
      → Written d (slot_line count) 64 o₃ o₄ r → Written 0 (listing_of (read t)) 1000000 o o₄ r
  whole_written n all v w x y =
      let top = h.limits.tracks_most in
      reads (listing_of (read t)) (ap listing_of (sym h.volume))
      (widen 1000000 (omega arith)
      (then (then (then (reads (volume_line g) (volume_text_lem g) v) w) (reads (flat free_line (free g (labels_below g t (slots g)))) (ap (flat free_line) (ap (λ (k : ℕ). free_from m k 0) all ∙ h.free_tracks)) x))
      (reads (slot_line (length (format0s (volume_at g t)))) (ap slot_line h.count_is) y)))

-- ---- refused or not

pub list_wrong_length : (t : List ℕ) → good_length t ≡ false → refusal_line 2 ≡ listing t
unfolding listing
list_wrong_length t h = rw h

pub not_taken : (t : List ℕ) → good_length t ≡ true → taken t ≡ false → refusal_line 3 ≡ listing t
unfolding listing
not_taken t h k = rw (h, k)

pub is_taken_lem : (t : List ℕ) → good_length t ≡ true → taken t ≡ true → listing_of (read t) ≡ listing t
unfolding listing
is_taken_lem t h k = rw (h, k)
