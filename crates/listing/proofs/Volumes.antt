-- The lines that the functions write are those of the volume that is read. Assumes nothing.
use mathlib.Core.Path.{◌≡◌, refl}
use lib.ListN.{length}
use Rattle.model.specs.Model.{Geometry, Label, runs_of, total}
use Rattle.rules.specs.Listing.{data_line, volume_line}
use Rattle.listing.specs.Text.{data_text, name_text, volume_text}

pub volume_text_lem : (g : Geometry) → volume_text g.cylinders g.heads ≡ volume_line g
unfolding volume_text
volume_text_lem g = refl

pub data_text_lem : (l : Label) → data_text l.name (total (runs_of l)) (length l.extents) ≡ data_line l
unfolding data_text name_text
data_text_lem l = refl
