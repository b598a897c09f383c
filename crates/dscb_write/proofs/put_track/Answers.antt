use mathlib.Core.Path.{◌∙◌, ap, refl}
use mathlib.Core.List.{List}
use Prim.Native.Nat.{ℕ, ◌+◌, ◌%◌}
use Rattle.model.specs.Basics.{be2}
use Rattle.dscb_write.specs.Put.{put_at}
use Rattle.dscb_write.proofs.Putting.{put_then}
use Rattle.dscb_write.proofs.put_track.Goals as goal

pub returns : goal.returns
returns c =
    let a = c.args in
    c.put_two-2.ensures ∙ ap (λ (l : List ℕ). put_at l (a.at + 2) (be2 (a.t % a.g.heads))) c.put_two.ensures ∙ put_then a.rec.now a.at _ _ _ refl
