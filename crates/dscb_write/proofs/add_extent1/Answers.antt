use mathlib.Core.Path.{subst, sym}
use mathlib.Core.List.{List}
use Prim.Native.Nat.{ℕ}
use lib.ListN.{length-set}
use Rattle.model.specs.Model.{extent, run}
use Rattle.dscb.specs.Forms.{geometry_of}
use Rattle.dscb_write.proofs.Putting.{put_keeps}
use Rattle.dscb_write.specs.Labels.{Format1, with_extent}
use Rattle.dscb_write.proofs.Format1.{more_in_one, more_past_one}
use Rattle.dscb_write.proofs.add_extent1.Goals as goal

pub returns-then-n-lt3 : goal.returns-then-n-lt3
returns-then-n-lt3 c =
    let a = c.args in
    let g = geometry_of a.g in
    let e = extent a.type_byte (run a.start a.count) in (
      λ l k f. subst (λ (r : List ℕ). Format1 g (with_extent e l) r) (sym c.put_extent.ensures) (more_in_one g l a.rec.now f e a.n k c.if-n-lt3.true),
      put_keeps _ _ _ _ 140 c.put_extent.ensures (simp length-set c.requires.0),
    )

pub returns-else-n-lt3 : goal.returns-else-n-lt3
returns-else-n-lt3 c =
    let a = c.args in (
      λ l k f. more_past_one (geometry_of a.g) l a.rec.now f (extent a.type_byte (run a.start a.count)) a.n k c.if-n-lt3.false,
      simp length-set c.requires.0,
    )
