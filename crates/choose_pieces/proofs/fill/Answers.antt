use mathlib.Core.Path.{refl}
use native.Mathlib.Omega.{arith}
use borrow.Author.Rules.{rules}
use Rattle.choose_pieces.proofs.Gathering.{filling_none, filling_next, filling_done}
use Rattle.choose_pieces.proofs.Bounds.{part_within}
use Rattle.choose_pieces.proofs.fill.Goals as goal

pub loop-k-init : goal.loop-k-init
loop-k-init c = filling_none c.args.u c.args.amount c.args.five (omega arith) c.requires.3

pub piece-requires : goal.piece-requires
piece-requires c = part_within c.args.u c.args.five c.loop-k.k _ _ c.requires.4 refl c.if-rest-next.true

pub returns-then-rest-next : goal.returns-then-rest-next
returns-then-rest-next c = rw c.piece.ensures (filling_done c.loop-k.invariant (search rules) c.if-rest-next.true)

-- a candidate taken whole
pub piece-requires-in-loop-k : goal.piece-requires-in-loop-k
piece-requires-in-loop-k c = part_within c.args.u c.args.five c.loop-k.k _ _ c.requires.4 refl (omega arith)

pub loop-k-preserved : goal.loop-k-preserved
loop-k-preserved c = rw c.piece-in-loop-k.ensures (filling_next c.loop-k.invariant (search rules) c.if-rest-next.false)

-- what was left was no more than the candidates behind had, and behind the last there is none
pub returns : goal.returns
returns c = absurd (omega (arith, c.loop-k.invariant.few))
