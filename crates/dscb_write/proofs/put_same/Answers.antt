use mathlib.Core.Path.{◌∙◌, ap}
use Prim.Native.Nat.{◌-◌, ℕ}
use native.Mathlib.Omega.{arith}
use lib.ListN.{length-replicate, replicate}
use borrow.Rule.Slice.PartMut.{mid_len}
use Rattle.dscb_write.proofs.Filling.{copied_over}
use Rattle.dscb_write.proofs.put_same.Goals as goal

pub returns : goal.returns
returns c =
    let a = c.args in
    let n = length-replicate {A = ℕ} (a.e - a.a) a.v in
    copied_over a.rec.now a.a a.e _ (replicate (a.e - a.a) a.v)
    (c.fill.ensures.after (λ y e. e) ∙ ap (λ (k : ℕ). replicate k a.v) (mid_len a.a a.e a.rec.now (omega arith))) (omega arith) (omega arith)
