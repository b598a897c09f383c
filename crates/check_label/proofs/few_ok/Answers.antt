use Rattle.check_label.proofs.Laws.{few_zeros}
use Rattle.check_label.proofs.few_ok.Goals as goal

pub returns : goal.returns
returns c = few_zeros c.args.f1.now c.args.n c.all_are.result c.requires.0 c.requires.1 c.all_are.ensures
