use mathlib.Core.Path.{refl}
use Rattle.replay_step.specs.Play.{fresh_answer, fresh_labels}
use Rattle.replay_step.proofs.Laws.{step_done}
use Rattle.replay_step.proofs.step.Goals as goal

pub returns : goal.returns
unfolding fresh_answer fresh_labels
returns c = step_done c.args.asked.now c.args.table.now _ _ refl refl c.play-r.ensures c.report.ensures
