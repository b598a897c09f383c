use mathlib.Core.Path.{◌≡◌, ap, ◌∙◌}
use native.Mathlib.Omega.{arith}
use Rattle.model.specs.Model.{Run}
use Rattle.free_extents.proofs.Chain.{entry_is}
use Rattle.free_extents.proofs.entry.Goals as goal

pub returns : goal.returns
returns c =
    let x = c.hole_of.ensures in
    let s : c.hole_of.result.start ≡ c.from.result = ap (λ (r : Run). r.start) x.0 in (
      x.0 ∙ entry_is c.args.h c.args.rec.now _ c.args.j _ _ _ c.entry_place-p.ensures.0 (c.from.ensures ∙ c.two.ensures.0) (c.from-2.ensures ∙ c.two-2.ensures.0) c.from-3.ensures,
      omega arith,
      x.1,
      x.2,
      x.3,
    )
