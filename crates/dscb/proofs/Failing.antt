-- The tests of `specs/Tests.antt`, by what fails first. Assumes nothing.
use mathlib.Core.Path.{◌≡◌}
use mathlib.Core.Bool.{false}
use mathlib.Core.List.{List}
use Prim.Native.Nat.{ℕ, ◌+◌, ◌-◌, ◌*◌, ◌≤◌, ◌<◌}
use borrow.Author.Tests.{lt-ltb, le-ltb, le-leb, lt-leb}
use lib.ListN.{get_or}
use Rattle.model.specs.Basics.{get2}
use Rattle.rules.specs.Reading.{track_at}
use Rattle.dscb.specs.Tests.{good_ten, slot_named}
use Rattle.rows.proofs.Rows.{and_false}

module _ (h t i : ℕ) (x : List ℕ) where
  pub bad_first : h ≤ get2 x 4 → false ≡ good_ten h t i x
  unfolding good_ten
  bad_first u = rw (le-ltb (get2 x 4) h u)

  pub bad_last : h ≤ get2 x 8 → false ≡ good_ten h t i x
  unfolding good_ten
  bad_last u = rw (le-ltb (get2 x 8) h u, and_false)

  pub bad_order : track_at h x 6 < track_at h x 2 → false ≡ good_ten h t i x
  unfolding good_ten
  bad_order u = rw (lt-leb (track_at h x 2) (track_at h x 6) u, and_false, and_false, and_false)

  pub bad_end : t ≤ track_at h x 6 → false ≡ good_ten h t i x
  unfolding good_ten
  bad_end u = rw (le-ltb (track_at h x 6) t u, and_false, and_false, and_false, and_false)

module _ (h d s n : ℕ) (x : List ℕ) where
  pub no_head : h ≤ get2 x 2 → 0 ≡ slot_named h d s n x
  unfolding slot_named
  no_head u = rw (le-ltb (get2 x 2) h u)

  pub no_record : get_or x 4 0 < 1 → 0 ≡ slot_named h d s n x
  unfolding slot_named
  no_record u = rw (lt-leb 1 (get_or x 4 0) u, and_false)

  pub past_records : d < get_or x 4 0 → 0 ≡ slot_named h d s n x
  unfolding slot_named
  past_records u = rw (lt-leb (get_or x 4 0) d u, and_false, and_false)

  pub before_vtoc : track_at h x 0 < s → 0 ≡ slot_named h d s n x
  unfolding slot_named
  before_vtoc u = rw (lt-leb s (track_at h x 0) u, and_false, and_false, and_false)

  module _ (t r : ℕ) (et : t ≡ track_at h x 0) (er : r ≡ get_or x 4 0) where
    pub past_slots : n ≤ (t - s) * d + r - 1 → 0 ≡ slot_named h d s n x
    unfolding slot_named
    past_slots u = rw (← et, ← er, le-ltb ((t - s) * d + r - 1) n u, and_false, and_false, and_false, and_false)

    pub slot_is : get2 x 2 < h → 1 ≤ r → r ≤ d → s ≤ t → (t - s) * d + r - 1 < n → (t - s) * d + r - 1 ≡ slot_named h d s n x
    unfolding slot_named
    slot_is a b c e f = rw (← et, ← er, lt-ltb (get2 x 2) h a, le-leb 1 r b, le-leb r d c, le-leb s t e, lt-ltb ((t - s) * d + r - 1) n f)
