use Rattle.request.proofs.Granting.{exact_no, exact_yes}
use Rattle.request.proofs.exact.Goals as goal

pub returns-then-all_free : goal.returns-then-all_free
returns-then-all_free c = exact_yes c.args.free_tracks.now c.args.start c.args.n c.all_free.result c.all_free.ensures c.if-all_free.true

pub returns-else-all_free : goal.returns-else-all_free
returns-else-all_free c = exact_no c.args.free_tracks.now c.args.start c.args.n c.all_free.result c.all_free.ensures c.if-all_free.false
