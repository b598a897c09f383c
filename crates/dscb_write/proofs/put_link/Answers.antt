use mathlib.Core.Path.{◌∙◌, ap, refl}
use mathlib.Core.List.{List}
use Prim.Native.Nat.{ℕ, ◌+◌, ◌/◌, ◌%◌}
use lib.ListN.{set}
use Rattle.rules.specs.Layout.{cchh}
use Rattle.dscb.specs.Forms.{geometry_of}
use Rattle.dscb_write.specs.Put.{put_at}
use Rattle.dscb_write.proofs.Numbers.{link_some}
use Rattle.dscb_write.proofs.Putting.{put_next}
use Rattle.dscb_write.proofs.put_link.Goals as goal

pub returns-else-k-eq0 : goal.returns-else-k-eq0
returns-else-k-eq0 c =
    let a = c.args in
    let g = geometry_of a.g in
    ap (λ (l : List ℕ). set l (a.at + 4) (a.k % a.g.records + 1)) c.put_track.ensures
    ∙ put_next a.rec.now a.at (cchh g (g.vtoc_start + a.k / g.records)) (a.at + 4) (a.k % a.g.records + 1) refl
    ∙ ap (put_at a.rec.now a.at) (link_some g a.k c.if-k-eq0.false)
