use Rattle.call_lspace.proofs.Laws.{inquired, inquires, lists}
use Rattle.open_table.proofs.Calls.{answer_long, answered, refused}
use Rattle.open_table.proofs.Numbers.{known}
use native.Mathlib.Omega.{arith}
use mathlib.Core.Path.{refl}
use Rattle.call_lspace.proofs.lspace.Goals as goal

pub returns-in_err-opened : goal.returns-in_err-opened
returns-in_err-opened c =
    answered _ _ _ (refused (inquires c.args.table.now c.args.answer.now _ refl) _ (c.open_to_read.ensures.refused _ c.in_err-opened.was)) _ c.from_residual.ensures.1

pub overflow_cast-opened : goal.overflow_cast-opened
overflow_cast-opened c = let w = known (c.open_to_read.ensures.opened _ c.in_ok-opened.was) in omega (arith, w.count_most, w.limits.most)

pub space-six-requires : goal.space-six-requires
space-six-requires c =
    let x = c.open_to_read.ensures.opened _ c.in_ok-opened.was in
    let w = known x in
    (w.long, omega (arith, w.count_most, w.limits.most), (_, lists c.args.table.now c.args.answer.now _ refl x))

pub put_numbers-requires : goal.put_numbers-requires
put_numbers-requires c =
    (answer_long (inquires c.args.table.now c.args.answer.now _ refl) (c.open_to_read.ensures.opened _ c.in_ok-opened.was), c.space-six.ensures.1)

pub returns : goal.returns
returns c =
    inquired c.args.table.now c.args.answer.now _ refl (c.open_to_read.ensures.opened _ c.in_ok-opened.was) c.space-six.result _ c.space-six.ensures.0 c.put_numbers.ensures
