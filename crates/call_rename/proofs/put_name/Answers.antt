use Rattle.dscb_write.specs.Labels.{Format1}
use Rattle.dscb.specs.Records.{put_record}
use Prim.Native.Nat.{ℕ}
use mathlib.Core.List.{List}
use mathlib.Core.Path.{sym, ap, ◌∙◌, subst}
use Rattle.call_rename.proofs.put_name.Goals as goal

pub returns : goal.returns
returns c =
    λ g l x. c.put_record.ensures ∙ ap (put_record c.args.table.now c.args.k) (c.set_name-named.ensures g l (subst (λ (r : List ℕ). Format1 g l r) (sym (c.record_of-f1.ensures ∙ c.record_at.ensures.0)) x)).bytes
