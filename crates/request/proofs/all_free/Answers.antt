use borrow.Author.Tests.{ne_eqb}
use Rattle.request.proofs.Free.{first_run, not_first}
use Rattle.request.proofs.all_free.Goals as goal

pub returns-then-free-s : goal.returns-then-free-s
returns-then-free-s c = first_run c.next_run-free.ensures c.requires.0 c.if-free-s.true

pub returns-else-free-s : goal.returns-else-free-s
returns-else-free-s c = rw (ne_eqb c.next_run-free.result.from c.args.s c.if-free-s.false) (not_first c.next_run-free.ensures c.requires.0 c.if-free-s.false)
