use mathlib.Core.Path.{◌∙◌, ap, refl}
use mathlib.Core.List.{List}
use Prim.Native.Nat.{ℕ, ◌+◌, ◌-◌}
use Rattle.rules.specs.Layout.{cchh}
use Rattle.dscb.specs.Forms.{geometry_of}
use Rattle.dscb_write.specs.Put.{put_at}
use Rattle.dscb_write.proofs.Putting.{put_behind}
use Rattle.dscb_write.proofs.put_extent.Goals as goal

pub returns : goal.returns
returns c =
    let a = c.args in
    let g = geometry_of a.g in
    let last = a.start + a.count - 1 in
    c.put_track-2.ensures ∙ ap (λ (l : List ℕ). put_at l (a.at + 6) (cchh g last)) c.put_track.ensures ∙ put_behind a.rec.now a.at a.type_byte a.number (cchh g a.start) (cchh g last) refl
