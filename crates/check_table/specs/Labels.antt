-- The labels of a table, slot by slot, taken out of the maps of free tracks and slots; and that their names differ. Assumes nothing.
use Rattle.std.specs.Prelude.{◌≡◌, ℕ, Bool, true, false, List, [], ◌++◌, length}
use Rattle.model.specs.Basics.{flat, keep_if, up_from}
use Rattle.model.specs.Model.{Geometry, Label, Run, runs_of, slots, slots_of, tracks}
use Rattle.model.specs.Predicates.{All, Once}
use Rattle.rules.specs.Reading.{chop}
use Rattle.rules.specs.Sound.{LabelOk}
use Rattle.bitmap.specs.Map.{Shows}
use Rattle.dscb.specs.Records.{slot_bytes}
use Rattle.names.specs.Find.{distinct, is_label}
use Rattle.check_label.specs.Marks.{label_at, units}

-- the label in slot k, if there is one
abbrev pub at_slot : Geometry → List ℕ → ℕ → List Label
at_slot g t k = keep_if (is_label (slot_bytes t k)) (label_at g t k) []

-- the labels in the slots below k
unfoldable pub labels_below : Geometry → List ℕ → ℕ → List Label
labels_below g t k = flat (at_slot g t) (up_from 0 k)

-- labels ls are as the layout says, and have left the maps; or they are not so, or something would be held twice
pub record LabelsGone (g : Geometry) (t : List ℕ) (ls : List Label) (m m' s s' : List ℕ) (r : Bool) : Type 0 where
  pub long_map : length m' ≡ length m
  pub long_slots : length s' ≡ length s
  pub good : r ≡ true → All (LabelOk g (chop (slots g) t)) ls
  pub free : r ≡ true → (hs : List Run) → Shows m (tracks g) hs → Shows m' (tracks g) (flat runs_of ls ++ hs)
  pub empty : r ≡ true → (us : List Run) → Shows s (slots g) us → Shows s' (slots g) (units (flat slots_of ls) ++ us)
  pub no : r ≡ false → (hs us : List Run) → Shows m (tracks g) hs → Shows s (slots g) us → All (LabelOk g (chop (slots g) t)) ls
      → Once (tracks g) (flat runs_of ls ++ hs) → Once (slots g) (units (flat slots_of ls) ++ us) → ⊥

abbrev pub Looked : Geometry → List ℕ → ℕ → List ℕ → List ℕ → List ℕ → List ℕ → Bool → Type 0
Looked g t k m m' s s' r = LabelsGone g t (at_slot g t k) m m' s s' r

-- the same of the labels in the slots below k
abbrev pub GoneBelow : Geometry → List ℕ → ℕ → List ℕ → List ℕ → List ℕ → List ℕ → Bool → Type 0
GoneBelow g t k m m' s s' r = LabelsGone g t (labels_below g t k) m m' s s' r

-- the same, and no two of them have the same name; or two have, or the answer is that of the labels
pub record LabelsTaken (g : Geometry) (t : List ℕ) (k : ℕ) (m m' s s' : List ℕ) (r : Bool) : Type 0 where
  pub long_map : length m' ≡ length m
  pub long_slots : length s' ≡ length s
  pub differ : r ≡ true → distinct t k ≡ true
  pub gone : distinct t k ≡ true → GoneBelow g t k m m' s s' r
