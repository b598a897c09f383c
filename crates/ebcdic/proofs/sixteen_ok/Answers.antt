use native.Mathlib.Omega.{arith}
use Rattle.ebcdic.proofs.Pairs.{no_turn, turn, turns_end}
use Rattle.ebcdic.proofs.sixteen_ok.Goals as goal

pub loop-i-init : goal.loop-i-init
loop-i-init c = no_turn _ _

pub loop-i-preserved : goal.loop-i-preserved
loop-i-preserved c = let l = c.loop-i in turn _ _ l.bad c.misfit.result c.overlong.result l.i l.invariant c.misfit.ensures c.overlong.ensures

pub returns : goal.returns
returns c = turns_end _ _ c.loop-i.bad c.loop-i.i c.loop-i.invariant (omega arith)
