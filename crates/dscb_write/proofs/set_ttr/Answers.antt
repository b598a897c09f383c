use mathlib.Core.Path.{subst, sym}
use mathlib.Core.List.{List}
use Prim.Native.Nat.{ℕ}
use Rattle.dscb_write.proofs.Putting.{put_keeps}
use Rattle.dscb_write.specs.Labels.{Format1, with_ttr}
use Rattle.dscb_write.proofs.Format1.{ttr_again}
use Rattle.dscb_write.proofs.set_ttr.Goals as goal

pub returns : goal.returns
returns c =
    let a = c.args in (
      λ g l f. subst (λ (r : List ℕ). Format1 g (with_ttr a.ttr l) r) (sym c.put_three.ensures) (ttr_again g l a.rec.now f a.ttr),
      put_keeps _ _ _ _ 140 c.put_three.ensures c.requires.0,
    )
