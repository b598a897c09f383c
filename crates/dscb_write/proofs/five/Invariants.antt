use Rattle.dscb.specs.Forms.{geometry_of}
use Rattle.bitmap.specs.Steps.{RestOfWord}
use Rattle.dscb_write.proofs.Format5.{Filling}
use Rattle.dscb_write.proofs.five.Given as goal

abbrev pub invariant-loop-j : goal.invariant-loop-j
invariant-loop-j l = RestOfWord l.free_tracks l.n l.t l.x × Filling (geometry_of l.g) l.free_tracks l.n l.at l.k l.j l.t l.rec
