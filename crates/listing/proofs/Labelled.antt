-- The label in a slot, and its line. Assumes nothing.
use mathlib.Core.Path.{◌≡◌, sym, ap, ap₂, ◌∙◌, subst}
use mathlib.Core.List.{List}
use Prim.Native.Nat.{ℕ, ◌≤◌, ◌<◌}
use native.Mathlib.Omega.{arith}
use lib.ListN.{length, get_or, take, length-map}
use Rattle.model.specs.Basics.{up_from}
use Rattle.model.specs.Model.{Extent, Geometry, overs, runs_of, slots, total}
use Rattle.model.proofs.Lists.{length_up_from}
use Rattle.model.specs.Predicates.{All}
use Rattle.rules.specs.Layout.{extent_part}
use Rattle.rules.specs.Listing.{data_line}
use Rattle.rules.specs.Reading.{chop, read_extent, read_extents, read_label, record_at, slot_at}
use Rattle.dscb.specs.Forms.{linked_slot}
use Rattle.dscb.specs.Records.{slot_bytes}
use Rattle.dscb.proofs.Records.{chop_slot}
use Rattle.check_label.specs.Marks.{label_at}
use Rattle.listing.specs.Text.{Proper, data_text}
use Rattle.listing.proofs.Volumes.{data_text_lem}
use Rattle.listing.specs.Whole.{Listable}

extents_many : (h : ℕ) (f1 f3 : List ℕ) (n : ℕ) → length (read_extents h f1 f3 n) ≡ n
unfolding read_extents
extents_many h f1 f3 n = length-map (up_from 0 n) (λ e. read_extent h (extent_part f1 f3 e)) ∙ length_up_from 0 n

module _ (g : Geometry) (t : List ℕ) (k q : ℕ) (f1 : List ℕ) (a : Listable g t (label_at g t k)) (e1 : f1 ≡ slot_bytes t k) (eq : q ≡ linked_slot g f1) (inside : q < slots g) where
  -- the slot as the reading has it, without a test
  slot_read : slot_at g f1 135 ≡ q
  unfolding read_label
  slot_read = ap (λ (r : List ℕ). slot_at g r 135) e1 ∙ sym a.linked ∙ ap (λ (r : List ℕ). linked_slot g r) (sym e1) ∙ sym eq

  module _ (f3 : List ℕ) (n : ℕ) (e3 : f3 ≡ slot_bytes t q) (en : n ≡ get_or f1 59 0) where
    pub extents_are_lem : (label_at g t k).extents ≡ read_extents g.heads f1 f3 n
    unfolding read_label
    extents_are_lem =
        ap (λ (r : List ℕ). read_extents g.heads r (record_at (chop (slots g) t) (slot_at g r 135)) (get_or r 59 0)) (sym e1)
        ∙ ap₂ (λ (x : List ℕ) (m : ℕ). read_extents g.heads f1 x m)
        (ap (record_at (chop (slots g) t)) slot_read ∙ chop_slot (slots g) t q inside ∙ sym e3) (sym en)

    many_are : length (label_at g t k).extents ≡ n
    many_are = ap length extents_are_lem ∙ extents_many g.heads f1 f3 n

    pub few : n ≤ 16
    few = let x = a.most in let y = many_are in omega arith

    pub all_proper : All Proper (read_extents g.heads f1 f3 n)
    all_proper = subst (All Proper) extents_are_lem a.proper

    module _ (many : ℕ) (em : many ≡ total (overs (read_extents g.heads f1 f3 n))) where
      many_is : total (runs_of (label_at g t k)) ≡ many
      many_is = ap (λ (es : List Extent). total (overs es)) extents_are_lem ∙ sym em

      pub many_small : many < 100000
      many_small = let x = a.tracks in let y = many_is in omega arith

      name_is : (label_at g t k).name ≡ take 44 f1
      unfolding read_label
      name_is = ap (take 44) (sym e1)

      pub text_is : data_text (take 44 f1) many n ≡ data_line (label_at g t k)
      text_is =
          ap (λ (x : List ℕ). data_text x many n) (sym name_is)
          ∙ ap₂ (λ (x y : ℕ). data_text (label_at g t k).name x y) (sym many_is) (sym many_are)
          ∙ data_text_lem (label_at g t k)
