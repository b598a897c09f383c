use Rattle.update.proofs.Planned.{chain_fits, end_inside, end_long, left_small}
use Rattle.update.proofs.Drop.{drop_done, left_inside}
use borrow.Author.Rules.{rules}
use Rattle.update.proofs.write_drop.Goals as goal

pub clear-requires : goal.clear-requires
clear-requires c = rw c.freed.ensures (end_inside c.requires.drops.plan _ c.requires.limits.0)

pub freed-requires : goal.freed-requires
freed-requires c = end_long c.requires.drops.plan

pub finish-requires : goal.finish-requires
finish-requires c =
    let p = c.requires.limits in
    let d = c.requires.drops in record { limits = ((let l = p.0 in search rules), p.1, left_small d.plan c.args.g.in_limits); need_in_bounds = chain_fits d.plan d.left.low_in (left_inside d.left d.plan) }

pub returns : goal.returns
returns c =
    λ d. drop_done d.left d.plan _ _ _ _ (rw c.freed.ensures at c.clear.ensures) c.clear_slot.ensures c.clear_slot-2.ensures c.finish.ensures
