-- Extend and its preview as calls on a named data set. Assumes nothing.
use mathlib.Core.Path.{◌≡◌, refl}
use mathlib.Core.Bool.{Bool, ◌&&◌}
use mathlib.Core.List.{List, []}
use Prim.Native.Nat.{ℕ}
use lib.Dec.{eqb}
use lib.ListN.{length}
use Rattle.open_table.specs.declared.SetOpening.{SetOpening}
use Rattle.rules.specs.Calls.{extend, extend_set, on_copy, preview, rule}
use Rattle.rules.specs.Entries.{lent}
use Rattle.rules.specs.Table.{good_name}
use Rattle.dscb.specs.Forms.{geometry_of}
use Rattle.open_table.specs.Opening.{KnownAt}
use Rattle.open_table.proofs.Calls.{AsksSet, preview_set}
use Rattle.grant_space.specs.Longer.{Longer}

module _ (t a name : List ℕ) (ok : Bool) (lengths : ok ≡ (eqb (length a) 24 && eqb (length name) 44)) where
  pub extends : AsksSet (lent t a []) (extend name) ok (good_name name) name (λ v. extend_set v name)
  unfolding rule
  extends = record { lengths = lengths; rules = λ v. refl }

  pub previews : AsksSet (lent t a []) (preview (extend name)) ok (good_name name) name (λ v l. on_copy v (extend_set v name l))
  previews = preview_set extends

abbrev pub longer : {t name m s : List ℕ} {r : SetOpening} (a : List ℕ) → KnownAt t name m s r → length a ≡ 24 → Longer t m s a (geometry_of r.geometry) r.slot
longer {name = name} a w long =
    record {
      name = name;
      is_taken = w.is_taken;
      geometry_is = w.geometry_is;
      shown = w.maps.shown;
      map_fits = w.maps.map_fits;
      long_slots = w.maps.long_slots;
      long_answer = long;
      there = w.it;
    }
