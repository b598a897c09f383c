use mathlib.Core.Path.{refl, sym, ap, ◌∙◌}
use native.Mathlib.Omega.{arith}
use native.Mathlib.Nat.{sub-zero}
use lib.ListN.{length}
use Rattle.model.specs.Model.{tracks}
use Rattle.dscb.specs.Forms.{geometry_of}
use Rattle.dscb.proofs.Tens.{extent_length}
use Rattle.check_label.specs.Label.{extents_ok}
use Rattle.check_label.proofs.Taking.{all_taken, left_none, turn_left, turn_same, turn_stop}
use Rattle.check_label.proofs.take_extents.Goals as goal

pub loop-e-init : goal.loop-e-init
loop-e-init c =
    (refl, left_none c.args.g.heads c.args.f1.now c.args.f3.now c.args.free_tracks.now, ap (extents_ok c.args.g.heads (tracks (geometry_of c.args.g)) c.args.f1.now c.args.f3.now c.args.n 0) (sym (sub-zero c.args.n)))

pub take_extent-requires : goal.take_extent-requires
take_extent-requires c = (ap length c.extent_part.ensures ∙ extent_length c.args.f1.now c.args.f3.now c.loop-e.e c.requires.0 c.requires.1 (omega (arith, c.requires.2)), omega (arith, c.requires.2), omega (arith, c.requires.3, c.loop-e.invariant.0))

pub loop-e-preserved : goal.loop-e-preserved
loop-e-preserved c =
    let y = c.take_extent.ensures in (
      y.long ∙ c.loop-e.invariant.0,
      turn_left (geometry_of c.args.g) c.args.f1.now c.args.f3.now c.args.n c.loop-e.e c.args.free_tracks.now c.loop-e.free_tracks _ c.take_extent.result c.extent_part.result.now c.extent_part.ensures c.loop-e-test.true y c.loop-e.invariant.1 c.loop-e.invariant.2 c.if-not-take_extent.false,
      turn_same (geometry_of c.args.g) c.args.f1.now c.args.f3.now c.args.n c.loop-e.e c.args.free_tracks.now c.loop-e.free_tracks _ c.take_extent.result c.extent_part.result.now c.extent_part.ensures c.loop-e-test.true y c.loop-e.invariant.1 c.loop-e.invariant.2 c.if-not-take_extent.false,
    )

pub returns-then-not-take_extent : goal.returns-then-not-take_extent
returns-then-not-take_extent c =
    let y = c.take_extent.ensures in
    turn_stop (geometry_of c.args.g) c.args.f1.now c.args.f3.now c.args.n c.loop-e.e c.args.free_tracks.now c.loop-e.free_tracks _ c.take_extent.result c.extent_part.result.now c.extent_part.ensures c.loop-e-test.true y c.loop-e.invariant.1 c.loop-e.invariant.2 c.if-not-take_extent.true (y.long ∙ c.loop-e.invariant.0)

pub returns : goal.returns
returns c =
    all_taken (geometry_of c.args.g) c.args.f1.now c.args.f3.now c.args.n c.loop-e.e c.args.free_tracks.now c.loop-e.free_tracks c.loop-e.auto.e-end c.loop-e-test.false c.loop-e.invariant.0 c.loop-e.invariant.1 c.loop-e.invariant.2
