use mathlib.Core.Path.{ap}
use Rattle.rules.specs.Calls.{date_to_stored}
use Rattle.replay_record.specs.Asked.{date_asked}
use Rattle.replay_step.proofs.Laws.{lent_long, tells_date}
use Rattle.replay_step.proofs.do_date_to_stored.Goals as goal

pub slice_bounds-vtoc_date_to_stored-end-2 : goal.slice_bounds-vtoc_date_to_stored-end-2
slice_bounds-vtoc_date_to_stored-end-2 c = lent_long _ 32 c.args.answer.now c.requires.1 c.answer_lent-k.ensures.1

pub returns : goal.returns
returns c =
    tells_date (date_to_stored (date_asked c.args.asked.now)) c.args.asked.now c.args.answer.now _ (ap date_to_stored c.date_of.ensures) c.answer_lent-k.ensures.0 c.vtoc_date_to_stored.ensures
