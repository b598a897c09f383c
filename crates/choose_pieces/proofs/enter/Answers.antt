use mathlib.Core.Path.{refl, ◌∙◌}
use native.Mathlib.Omega.{arith}
use lib.ListN.{length-set}
use lib.Seq.{set-get_or}
use Rattle.choose_pieces.specs.Pass.{no_units}
use Rattle.choose_pieces.proofs.Entering.{goes_in, goes_by, enter_done, enter_not, enter_is}
use Rattle.choose_pieces.proofs.enter.Goals as goal
use Rattle.choose_pieces.proofs.enter.Goals.{then-place-c, else-place-c}

pub returns-then-c-five : goal.returns-then-c-five
returns-then-c-five c = (c.requires, enter_not c.args.c c.args.five.now c.if-c-five.true)

pub loop-place-init : goal.loop-place-init
loop-place-init c = (c.requires, refl)

pub loop-place-preserved : goal.loop-place-preserved
loop-place-preserved c =
    let n = c.args.c.count in
    let held = c.loop-place.held in
    let five = c.loop-place.five in
    let k = c.loop-place.place-index in
    elim c.if-place-c.branch [
      | then-place-c w ↦ rw (w.five-is, w.held-is, w.swap.ensures.y_after, w.swap.ensures.x_after)
          (length-set five k held ∙ c.loop-place.invariant.0, goes_in n c.args.c c.args.five.now held five k (omega arith) c.loop-place.invariant.1 w.if-place-c.true)
      | else-place-c w ↦ rw (w.five-is, w.held-is, set-get_or five k no_units)
          (c.loop-place.invariant.0, goes_by n c.args.c c.args.five.now held five k (omega arith) c.loop-place.invariant.1 w.if-place-c.false)
    ]

pub returns : goal.returns
returns c = (
  c.loop-place.invariant.0,
  enter_is c.args.c c.args.five.now c.loop-place.five c.if-c-five.false
      (enter_done c.args.c.count c.args.c c.args.five.now c.loop-place.held c.loop-place.five c.loop-place.place-index (omega arith) c.loop-place.invariant.1),
)
