use mathlib.Core.Path.{◌∙◌, ap}
use mathlib.Core.List.{List}
use Prim.Native.Nat.{ℕ}
use Rattle.model.specs.Basics.{zeros}
use Rattle.dscb_write.specs.Put.{put_at}
use Rattle.dscb_write.proofs.Putting.{put_keeps}
use Rattle.dscb_write.proofs.Format3.{first_in_three, first_past_three}
use Rattle.dscb_write.proofs.keep_extents3.Goals as goal

pub returns-then-n-lt7 : goal.returns-then-n-lt7
returns-then-n-lt7 c =
    let a = c.args in (
      λ g l f. c.put_same-then-n-lt7.ensures ∙ ap (λ (r : List ℕ). put_at r 45 (zeros 90)) c.put_same.ensures ∙ first_in_three g l a.rec.now f a.n c.requires.1 c.if-n-lt7.true,
      put_keeps _ _ _ _ 140 c.put_same-then-n-lt7.ensures (put_keeps _ _ _ _ 140 c.put_same.ensures c.requires.0),
    )

pub returns-else-n-lt7 : goal.returns-else-n-lt7
returns-else-n-lt7 c =
    let a = c.args in (
      λ g l f. c.put_same-else-n-lt7.ensures ∙ first_past_three g l a.rec.now f a.n c.if-n-lt7.false c.requires.2,
      put_keeps _ _ _ _ 140 c.put_same-else-n-lt7.ensures c.requires.0,
    )
