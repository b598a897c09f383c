use lib.ListN.{take}
use mathlib.Core.Path.{subst}
use Prim.Native.Nat.{◌<◌}
use Rattle.dscb.specs.Forms.{geometry_of}
use Rattle.model.specs.Model.{slots}
use Rattle.model.specs.Predicates.{All}
use Rattle.model.proofs.Lists.{All_drop, drop_take}
use Rattle.update.proofs.finish.Goals as goal

pub put_chain-requires-clause-chain_inside : goal.put_chain-requires-clause-chain_inside
put_chain-requires-clause-chain_inside c =
    let p = c.args.plan in
    let a = c.requires.need_in_bounds in
    (subst (All (λ k. k < slots (geometry_of c.args.g))) (drop_take p.from p.need c.args.chain.now) (All_drop (λ k. k < slots (geometry_of c.args.g)) p.from (take p.need c.args.chain.now) a.1), a.3)

pub returns : goal.returns
returns c = rw (c.put_four.ensures, c.put_chain.ensures, drop_take c.args.plan.from c.args.plan.need c.args.chain.now)
