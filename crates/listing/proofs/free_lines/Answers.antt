use Rattle.listing.proofs.Passes.{free_done, free_next}
use mathlib.Core.Path.{◌∙◌}
use Rattle.listing.proofs.free_lines.Goals as goal

pub loop-t-preserved : goal.loop-t-preserved
loop-t-preserved c =
    let l = c.loop-t.invariant in (c.next_run-free.ensures.high, c.put_free-p.ensures.long ∙ l.1, free_next l.2 c.loop-t-test.true c.next_run-free.ensures c.put_free-p.ensures)

pub returns : goal.returns
returns c = let l = c.loop-t.invariant in free_done l.2 l.0 c.loop-t-test.false
