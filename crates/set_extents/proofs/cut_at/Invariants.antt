use Rattle.rules.specs.Reading.{read_extents}
use Rattle.set_extents.proofs.Cutting.{Keeping}
use Rattle.set_extents.proofs.cut_at.Given as goal

abbrev pub invariant-loop-e : goal.invariant-loop-e
invariant-loop-e l = Keeping l.unit l.keep (read_extents l.g.heads l.f1 l.f3 l.n) l.e l.left
