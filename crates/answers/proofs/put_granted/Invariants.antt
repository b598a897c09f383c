use Rattle.answers.proofs.Laws.{pieces_to}
use mathlib.Core.Path.{◌≡◌}
use Rattle.answers.proofs.put_granted.Given as goal

abbrev pub invariant-loop-i : goal.invariant-loop-i
invariant-loop-i l = l.all ≡ pieces_to l.tracks l.count l.fn.pieces l.i
