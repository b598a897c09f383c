-- The format 4: its fields put one after the other. Assumes nothing.
use Prim.Native.Nat.{ℕ, zero, suc}
use mathlib.Core.Path.{◌≡◌, refl}
use lib.ListN.{set}
use Rattle.model.specs.Basics.{be2}
use Rattle.model.specs.Model.{Geometry, extent, run}
use Rattle.rules.specs.Layout.{extent_bytes, format4, link}
use Rattle.dscb_write.specs.Blank.{blank}
use Rattle.dscb_write.specs.Put.{put_at}

-- ALL FIELDS of a format 4
pub four_is : (g : Geometry) (k n : ℕ)
    → put_at
    (set (put_at (put_at (set (put_at (put_at (blank 44 0x04 0xF4) 45 (link g k)) 50 (be2 n)) 59 0x01) 62 (be2 g.cylinders)) 64 (be2 g.heads)) 74 g.records)
    105
    (extent_bytes g 0 (extent 0x01 (run g.vtoc_start g.vtoc_tracks)))
    ≡ format4 g k n
unfolding blank put_at format4
four_is g zero n = refl
four_is g (suc k) n = refl
