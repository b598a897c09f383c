use Rattle.choose_pieces.proofs.PassingOver.{Together}
use Rattle.choose_pieces.proofs.all_shorter.Given as goal

abbrev pub invariant-loop-j : goal.invariant-loop-j
invariant-loop-j l = Together l.rec l.cylinders l.odd l.j
