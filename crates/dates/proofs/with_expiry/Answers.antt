use mathlib.Core.Path.{ap₂, ◌∙◌}
use mathlib.Core.List.{List}
use Prim.Native.Nat.{ℕ}
use borrow.Rule.Slice.PartMut.{put_mid}
use Rattle.dates.proofs.Laws.{expiry_put}
use Rattle.dates.proofs.with_expiry.Goals as goal

pub returns : goal.returns
returns c =
    ap₂ (λ (x y : List ℕ). put_mid 11 3 x y) c.copy_from_slice.ensures.after c.copy_from_slice-2.ensures.after ∙ expiry_put c.args.stored.now c.args.attributes.now c.requires.1
