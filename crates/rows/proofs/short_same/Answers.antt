use mathlib.Core.Path.{sym, ap, ◌∙◌}
use native.Mathlib.Omega.{arith}
use lib.ListN.{length}
use Rattle.std.proofs.lemmas.Iterator.{empty_from_Zip}
use Rattle.rows.proofs.Rows.{same_next, same_end}
use Rattle.rows.proofs.short_same.Goals as goal

pub loop-x-preserved : goal.loop-x-preserved
loop-x-preserved c =
    let l = c.loop-x in
    let s = c.in-Some.ensures.steps in
    (omega (arith, ap length s.0, ap length s.1), l.invariant.1 ∙ same_next l.unlike _ _ _ _ _ _ s.0 s.1)

pub returns : goal.returns
returns c =
    let l = c.loop-x in
    let e = empty_from_Zip _ c.next.new.self _ c.in-None.is c.next.ensures.steps l.invariant.0 in
    sym (l.invariant.1 ∙ same_end l.unlike _ _ e.0 e.1)
