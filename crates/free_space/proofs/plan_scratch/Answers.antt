use Rattle.free_space.proofs.Laws.{slot_inside, slot3_inside}
use native.Mathlib.Omega.{arith}
use mathlib.Core.Path.{◌∙◌}
use Rattle.free_space.proofs.plan_scratch.Goals as goal

pub give_back-requires : goal.give_back-requires
give_back-requires c =
    let p = c.requires.limits in
    let y = c.measure-set.ensures _ _ c.requires.at in
    record { table_len = (p.0, slot_inside y p.4, slot3_inside _ _ _ _ _ c.requires.at _ y, p.1); set_in = y.stored.set }

pub free_slot-requires-2 : goal.free_slot-requires-2
free_slot-requires-2 c =
    let a = slot3_inside _ _ _ _ _ c.requires.at _ (c.measure-set.ensures _ _ c.requires.at) in
    let e = c.args.g.in_limits.most in
    (c.free_slot.ensures.long ∙ c.requires.limits.2, omega arith)

pub returns-in_err-plan : goal.returns-in_err-plan
returns-in_err-plan c =
    rw c.from_residual.ensures
    (λ d. (
      c.measure-set.result,
      record {
        one_freed = _;
        both_freed = _;
        measured = c.measure-set.ensures _ _ d;
        tail = c.give_back.ensures.0;
        first = c.free_slot.ensures;
        third = c.free_slot-2.ensures;
        plan = c.in_err-plan.ensures;
      },
    ))

pub returns : goal.returns
returns c =
    λ d. record {
      one_freed = _;
      both_freed = _;
      measured = c.measure-set.ensures _ _ d;
      tail = c.give_back.ensures.0;
      first = c.free_slot.ensures;
      third = c.free_slot-2.ensures;
      plan = c.in_ok-plan.ensures;
    }
