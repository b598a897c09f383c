-- What the tests of a label answer, as the code goes. Assumes nothing.
use Rattle.std.specs.Prelude.{ℕ, zero, suc, ◌-◌, Bool, true, cond, ◌&&◌, List, get_or, leb, Option, None}
use Rattle.std.specs.Bool.{then_some}
use Rattle.model.specs.Basics.{part}
use Rattle.model.specs.Model.{Geometry, tracks}
use Rattle.rules.specs.Layout.{extent_part}
use Rattle.dscb.specs.Records.{slot_bytes}
use Rattle.rows.specs.Words.{all_are}
use Rattle.dscb.specs.Forms.{extent_ok, linked_slot, one_ok, three_ok}

-- k extents from number e on, where n are in use
unfoldable pub extents_ok : ℕ → ℕ → List ℕ → List ℕ → ℕ → ℕ → ℕ → Bool
extents_ok h t f1 f3 n e zero = true
extents_ok h t f1 f3 n e (suc k) = extent_ok h t n e (extent_part f1 f3 e) && extents_ok h t f1 f3 n (suc e) k

-- a format 1 without a format 3
unfoldable pub few_ok : ℕ → ℕ → List ℕ → ℕ → Bool
few_ok h t f1 n = all_are 0 (part 135 5 f1) && extents_ok h t f1 f1 n 0 3

-- the slot that a format 1 names as its format 3's
abbrev pub named_third : Geometry → List ℕ → ℕ
named_third = linked_slot

-- a format 1 with its format 3: the slot of that, where nothing is wrong
unfoldable pub third_of : Geometry → List ℕ → List ℕ → ℕ → Option ℕ
third_of g t f1 n =
    let q : ℕ = named_third g f1 in
    then_some ((leb 1 q && three_ok (slot_bytes t q)) && extents_ok g.heads (tracks g) f1 (slot_bytes t q) n 0 16) q

-- the label in slot k: the slot of its format 3, 0 for none, where nothing is wrong; else document 01's "3 | VTOC unsound"
unfoldable pub form_of : Geometry → List ℕ → ℕ → Option ℕ
form_of g t k =
    let f1 : List ℕ = slot_bytes t k in
    let n : ℕ = get_or f1 59 0 in
    cond (one_ok f1) (cond (leb n 3) (then_some (few_ok g.heads (tracks g) f1 n) 0) (third_of g t f1 n)) None

-- ---- the same but for the extents in use, which are tested where they are taken

-- k extents from number e on are zeros
unfoldable pub unused_ok : List ℕ → List ℕ → ℕ → ℕ → Bool
unused_ok f1 f3 e zero = true
unused_ok f1 f3 e (suc k) = all_are 0 (extent_part f1 f3 e) && unused_ok f1 f3 (suc e) k

unfoldable pub few_shape : List ℕ → ℕ → Bool
few_shape f1 n = all_are 0 (part 135 5 f1) && unused_ok f1 f1 n (3 - n)

unfoldable pub third_shape : Geometry → List ℕ → List ℕ → ℕ → Option ℕ
third_shape g t f1 n =
    let q : ℕ = named_third g f1 in
    then_some ((leb 1 q && three_ok (slot_bytes t q)) && unused_ok f1 (slot_bytes t q) n (16 - n)) q

unfoldable pub shape_of : Geometry → List ℕ → ℕ → Option ℕ
shape_of g t k =
    let f1 : List ℕ = slot_bytes t k in
    let n : ℕ = get_or f1 59 0 in
    cond (one_ok f1) (cond (leb n 3) (then_some (few_shape f1 n) 0) (third_shape g t f1 n)) None

-- the extents in use are good
abbrev pub used_ok : Geometry → List ℕ → List ℕ → ℕ → Bool
used_ok g f1 f3 n = extents_ok g.heads (tracks g) f1 f3 n 0 n
