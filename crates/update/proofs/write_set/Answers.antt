use Rattle.update.proofs.Planned.{chain_fits, end_inside, end_long, left_small}
use Rattle.update.proofs.Put.{chain_inside, first_inside, put_done, third_inside}
use Rattle.update.proofs.Small.{freed_below}
use borrow.Author.Rules.{rules}
use Rattle.update.proofs.write_set.Goals as goal

pub clear-requires : goal.clear-requires
clear-requires c = rw c.freed.ensures (end_inside c.requires.puts.plan _ c.requires.limits.0)

pub freed-requires : goal.freed-requires
freed-requires c = end_long c.requires.puts.plan

pub clear_slot-requires : goal.clear_slot-requires
clear_slot-requires c =
    let h = freed_below c.args.home.few c.args.home.slot3 _ _ _ c.if_few.ensures c.requires.limits.3 c.requires.limits.0 in
    search rules

pub put_label-requires : goal.put_label-requires
put_label-requires c = ((let l = c.requires.limits.0 in search rules), (let d = c.requires.puts in first_inside d.draft d.asked_is d.plan _ c.slot_or-first.ensures), (let d = c.requires.puts in third_inside d.draft d.asked_is d.plan _ c.third_slot-third.ensures), c.requires.limits.4)

pub finish-requires : goal.finish-requires
finish-requires c =
    record { limits = ((let l = c.requires.limits.0 in search rules), c.requires.limits.1, left_small c.requires.puts.plan c.args.g.in_limits); need_in_bounds = (let d = c.requires.puts in chain_fits d.plan d.draft.low_in (chain_inside d.draft d.asked_is d.plan)) }

pub returns : goal.returns
returns c =
    λ d. put_done d.draft d.asked_is d.plan _ d.third _ _ _ _ _ _ _ c.if_few.ensures c.slot_or-first.ensures c.third_slot-third.ensures (rw c.freed.ensures at c.clear.ensures) c.clear_slot.ensures (c.put_label.ensures d.draft.label d.first) c.finish.ensures
