use mathlib.Core.Path.{◌∙◌}
use Rattle.grant_space.proofs.Laws.{asked_is_lem, low_in_lem, pieces_in_lem}
use native.Mathlib.Omega.{arith}
use Rattle.grant_space.proofs.plan_grant.Goals as goal

pub take_pieces-requires : goal.take_pieces-requires
take_pieces-requires c =
    (pieces_in_lem c.requires.grants _ (omega (arith, c.requires.limits.1, c.args.g.in_limits.tracks_most)), pieces_in_lem c.requires.grants 65535 c.args.g.in_limits.tracks_most)

pub returns : goal.returns
returns c =
    record {
      lo = _;
      asked = _;
      low_in = low_in_lem _ _ _ (c.from.ensures ∙ c.tracks.ensures.0) c.lowest_piece-lo.ensures.0;
      lowest = c.lowest_piece-lo.ensures.1;
      took = c.take_pieces.ensures;
      asked_is = asked_is_lem c.args.set _ _ c.few.ensures c.asked_for-asked.ensures.0;
      plan = c.plan_slots.ensures;
    }
