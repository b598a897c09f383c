use mathlib.Core.Path.{sym}
use native.Mathlib.Omega.{arith}
use Rattle.listing.proofs.Extents.{total_none, ten_bytes, proper_ten, sum_next}
use borrow.Author.Rules.{rules}
use Rattle.listing.proofs.tracks_of.Goals as goal

pub loop-e-init : goal.loop-e-init
loop-e-init c = (sym (total_none c.args.heads c.args.f1.now c.args.f3.now), search rules)

pub tracks_in-sum-requires : goal.tracks_in-sum-requires
tracks_in-sum-requires c =
    let x = c.extent_part.result.now in
    let e = c.loop-e.e in (
      ten_bytes c.args.heads c.args.f1.now c.args.f3.now x e c.extent_part.ensures c.args.n c.requires.f1_len.0 c.requires.f1_len.1 c.requires.f1_len.2 c.loop-e-test.true,
      c.requires.f1_len.3,
      proper_ten c.args.heads c.args.f1.now c.args.f3.now x e c.extent_part.ensures c.args.n c.requires.all c.loop-e-test.true,
    )

pub loop-e-preserved : goal.loop-e-preserved
loop-e-preserved c = (
  sum_next c.args.heads c.args.f1.now c.args.f3.now c.extent_part.result.now c.loop-e.e c.extent_part.ensures c.loop-e.sum c.tracks_in-sum.result c.loop-e.invariant.0 c.tracks_in-sum.ensures.0,
  omega (arith, c.tracks_in-sum.ensures.1),
)
