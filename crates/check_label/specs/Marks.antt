-- What taking tracks and slots out of the maps of free ones answers and leaves. The list of what was held before is the
-- caller's: it is quantified, and no ghost argument is needed. Assumes nothing.
use Rattle.std.specs.Prelude.{◌≡◌, ℕ, ◌+◌, ◌≤◌, ◌<◌, ◌*◌, Bool, true, false, List, ◌++◌, map, length, get_or}
use Rattle.model.specs.Model.{Geometry, Label, Run, one_slot, overs, run, runs_of, slots, slots_of, tracks}
use Rattle.model.specs.Predicates.{Once}
use Rattle.rules.specs.Reading.{chop, read_extents, read_label, track_at}
use Rattle.rules.specs.Predicates.{Limits}
use Rattle.rules.specs.Sound.{LabelOk}
use Rattle.bitmap.specs.Map.{Shows, Taken}
use Rattle.dscb.specs.Records.{slot_bytes}
use Rattle.dscb.specs.Tests.{good_ten}
use Rattle.check_label.specs.Label.{used_ok}

-- the runs rs have left the map of n tracks, or a track would be held twice
pub record Took (n : ℕ) (rs : List Run) (m m' : List ℕ) (r : Bool) : Type 0 where
  pub long : length m' ≡ length m
  pub yes : r ≡ true → (hs : List Run) → Shows m n hs → Shows m' n (rs ++ hs)
  pub no : r ≡ false → (hs : List Run) → Shows m n hs → Once n (rs ++ hs) → ⊥

-- extent number e, the ten bytes x, is good and has left the map; or it is not good, or a track of its was not free
pub record TookTen (g : Geometry) (e : ℕ) (x m m' : List ℕ) (r : Bool) : Type 0 where
  pub long : length m' ≡ length m
  pub good : r ≡ true → good_ten g.heads (tracks g) e x ≡ true
  pub taken : good_ten g.heads (tracks g) e x ≡ true → Taken m m' (track_at g.heads x 2) (track_at g.heads x 6 + 1) r

-- the first n extents are good and have left the map; or one is not good, or a track would be held twice
pub record TookTested (g : Geometry) (f1 f3 : List ℕ) (n : ℕ) (m m' : List ℕ) (r : Bool) : Type 0 where
  pub long : length m' ≡ length m
  pub good : r ≡ true → used_ok g f1 f3 n ≡ true
  pub took : used_ok g f1 f3 n ≡ true → Took (tracks g) (overs (read_extents g.heads f1 f3 n)) m m' r

-- slots as runs of one
abbrev pub units : List ℕ → List Run
units ks = map (λ k. run k 1) ks

-- slots k and q, 0 for none, have left the map, however many slots it is taken to show
pub record TookSlots (k q : ℕ) (s s' : List ℕ) (r : Bool) : Type 0 where
  pub long : length s' ≡ length s
  pub yes : r ≡ true → (n : ℕ) (hs : List Run) → Shows s n hs → Shows s' n (units (one_slot k ++ one_slot q) ++ hs)
  pub no : r ≡ false → (n : ℕ) → k < n → q < n → (hs : List Run) → Shows s n hs → Once n (units (one_slot k ++ one_slot q) ++ hs) → ⊥

-- ---- a label

-- slot k of a table of this geometry has a format 1
pub record AtLabel (g : Geometry) (t : List ℕ) (k : ℕ) : Type 0 where
  pub limits : Limits g
  pub long : length t ≡ 140 * slots g
  pub low : 1 ≤ k
  pub high : k < slots g
  pub id : get_or (slot_bytes t k) 44 0 ≡ 0xF1

-- the label that is read from slot k
abbrev pub label_at : Geometry → List ℕ → ℕ → Label
label_at g t k = read_label g (chop (slots g) t) k (slot_bytes t k)

-- the label is as the layout says, and its tracks and slots have left the maps; or it is not so, or one would be held twice
pub record TookLabel (g : Geometry) (t : List ℕ) (k : ℕ) (m m' s s' : List ℕ) (r : Bool) : Type 0 where
  pub long_map : length m' ≡ length m
  pub long_slots : length s' ≡ length s
  pub good : r ≡ true → LabelOk g (chop (slots g) t) (label_at g t k)
  pub free : r ≡ true → (hs : List Run) → Shows m (tracks g) hs → Shows m' (tracks g) (runs_of (label_at g t k) ++ hs)
  pub empty : r ≡ true → (us : List Run) → Shows s (slots g) us → Shows s' (slots g) (units (slots_of (label_at g t k)) ++ us)
  pub no : r ≡ false → (hs us : List Run) → Shows m (tracks g) hs → Shows s (slots g) us → LabelOk g (chop (slots g) t) (label_at g t k)
      → Once (tracks g) (runs_of (label_at g t k) ++ hs) → Once (slots g) (units (slots_of (label_at g t k)) ++ us) → ⊥
