use mathlib.Core.Path.{subst, sym}
use mathlib.Core.List.{List}
use Prim.Native.Nat.{ℕ}
use lib.ListN.{length-set}
use Rattle.dscb_write.proofs.Putting.{put_keeps}
use Rattle.dscb_write.specs.Labels.{Format1, first_extents}
use Rattle.dscb_write.proofs.Format1.{first_in_one, first_past_one}
use Rattle.dscb_write.proofs.keep_extents1.Goals as goal

pub returns-then-n-lt3 : goal.returns-then-n-lt3
returns-then-n-lt3 c =
    let a = c.args in (
      λ g l k f. subst (λ (r : List ℕ). Format1 g (first_extents a.n l) r) (sym c.put_same.ensures) (first_in_one g l a.rec.now f a.n k c.if-n-lt3.true),
      put_keeps _ _ _ _ 140 c.put_same.ensures (simp length-set c.requires.0),
    )

pub returns-else-n-lt3 : goal.returns-else-n-lt3
returns-else-n-lt3 c =
    let a = c.args in
    (λ g l k f. first_past_one g l a.rec.now f a.n k c.if-n-lt3.false, simp length-set c.requires.0)
