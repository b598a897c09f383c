use Rattle.set_extents.proofs.Cutting.{three_kept}
use Rattle.set_extents.proofs.keep_third.Goals as goal

pub returns : goal.returns
returns c =
    let done = c.keep_extents3.ensures in
    (λ g l f. three_kept g c.args.n c.max.result l _ c.max.ensures (done.0 g l f), done.1)
