-- Labels as their records are written: a new one, one extent more, the first extents only. Assumes nothing.
use Rattle.std.specs.Prelude.{◌≡◌, ℕ, List, [], ◌∷◌, ◌++◌, length, take}
use Rattle.model.specs.Model.{Extent, Geometry, Label}
use Rattle.rules.specs.Layout.{format1, format3}
use Rattle.rules.specs.Slots.{with_extents}

-- r is the format 1 of the label l
pub record Format1 (g : Geometry) (l : Label) (r : List ℕ) : Type 0 where
  pub name_length : length l.name ≡ 44
  pub attributes_length : length l.attributes ≡ 52
  pub bytes : r ≡ format1 g l

-- r is its format 3
abbrev pub Format3 : Geometry → Label → List ℕ → Type 0
Format3 g l r = r ≡ format3 g l

-- a label that holds nothing yet
abbrev pub new_label : List ℕ → List ℕ → ℕ → ℕ → Label
new_label n at unit secondary =
    record { slot = 0; name = n; attributes = at; unit = unit; secondary = secondary; ttr = 0; extents = []; slot3 = 0 }

-- one extent more
abbrev pub with_extent : Extent → Label → Label
with_extent e l = with_extents (l.extents ++ e ∷ []) l.ttr l

-- its first n extents
abbrev pub first_extents : ℕ → Label → Label
first_extents n l = with_extents (take n l.extents) l.ttr l

abbrev pub with_ttr : ℕ → Label → Label
with_ttr t l = with_extents l.extents t l
