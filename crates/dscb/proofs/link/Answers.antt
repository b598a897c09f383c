use Rattle.dscb.proofs.Linked.{linked_below}
use Rattle.dscb.specs.Forms.{geometry_of}
use Prim.Native.Nat.{ℕ, ◌<◌}
use Rattle.model.specs.Model.{slots}
use mathlib.Core.Path.{sym, subst}
use Rattle.dscb.proofs.link.Goals as goal

pub returns : goal.returns
returns c =
    let g = geometry_of c.args.g in
    (c.slot_of.ensures, subst (λ (k : ℕ). k < slots g) (sym c.slot_of.ensures) (linked_below g c.args.rec.now c.args.g.in_limits))
