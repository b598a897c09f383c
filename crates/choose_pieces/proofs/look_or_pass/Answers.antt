use Rattle.choose_pieces.proofs.PassingOver.{passed_over}
use Rattle.choose_pieces.proofs.look_or_pass.Goals as goal

pub returns-then-all_shorter : goal.returns-then-all_shorter
returns-then-all_shorter c =
    let a = c.args in
    let p = c.requires in
    (p.6, λ f x. passed_over a.u a.amount a.h a.rec.now f _ _ p.3 p.5 (c.all_shorter.ensures c.if-all_shorter.true) x)
