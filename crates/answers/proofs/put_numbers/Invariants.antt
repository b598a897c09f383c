use Rattle.answers.proofs.Laws.{numbers_to}
use mathlib.Core.Path.{◌≡◌}
use Rattle.answers.proofs.put_numbers.Given as goal

abbrev pub invariant-loop-i : goal.invariant-loop-i
invariant-loop-i l = l.all ≡ numbers_to l.n-items l.i
