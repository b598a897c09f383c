use Rattle.free_space.proofs.Decided.{gone_foreseen}
use Rattle.free_space.proofs.Laws.{set_small}
use native.Mathlib.Omega.{arith}
use Rattle.free_space.proofs.preview_scratch.Goals as goal

pub put_back-requires : goal.put_back-requires
put_back-requires c =
    let d = c.requires.by_index.2 in
    let a = set_small _ _ _ _ _ d in
    let b = (c.measure-gone.ensures _ _ d).spread.sum in
    (c.requires.limits.2, omega arith)

pub returns : goal.returns
returns c = λ m s d. gone_foreseen d (c.measure-gone.ensures m s d) _ _ c.put_back.ensures
