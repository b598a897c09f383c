use Rattle.rules.specs.Reading.{read_extents}
use Rattle.set_extents.proofs.Keeping.{Along}
use Rattle.set_extents.proofs.to_cylinder_end.Given as goal

abbrev pub invariant-loop-e : goal.invariant-loop-e
invariant-loop-e l = Along l.g.heads l.keep (read_extents l.g.heads l.f1 l.f3 l.n) l.e l.kept l.left l.last
