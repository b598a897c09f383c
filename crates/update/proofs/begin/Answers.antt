use native.Mathlib.Omega.{arith}
use mathlib.Core.Path.{ap, ◌∙◌}
use Rattle.dscb.specs.Records.{slot_bytes}
use Rattle.update.proofs.Slots.{reached_next}
use Rattle.update.proofs.begin.Goals as goal

pub loop-i-preserved : goal.loop-i-preserved
loop-i-preserved c =
    let t = c.args.table.now in
    reached_next t c.args.chain.now c.record_at-rec.result.now c.args.lo c.loop-i.i c.from-start.result (omega arith) c.loop-i-test.true
    (c.record_at-rec.ensures.0 ∙ ap (slot_bytes t) c.from.ensures) (c.from-start.ensures ∙ c.two.ensures.0) c.if-start-lo.false
