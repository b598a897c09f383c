use Rattle.replay_record.proofs.Laws.{digest_start, digest_next, digest_done}
use mathlib.Core.Path.{sym, ◌∙◌}
use native.Mathlib.Omega.{arith}
use Rattle.replay_record.proofs.digest.Goals as goal

pub loop-x-init : goal.loop-x-init
loop-x-init c = (omega arith, omega arith, digest_start c.args.s.now)

pub loop-x-preserved : goal.loop-x-preserved
loop-x-preserved c =
    (omega arith, omega arith, rw c.from.ensures (c.loop-x.invariant.2 ∙ digest_next c.args.s.now c.loop-x.x-index c.loop-x.a c.loop-x.b c.loop-x-test.true))

pub returns : goal.returns
returns c = sym (c.loop-x.invariant.2 ∙ digest_done c.args.s.now c.loop-x.x-index c.loop-x.a c.loop-x.b c.loop-x-test.false)
