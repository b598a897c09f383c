use mathlib.Core.Path.{refl, ◌∙◌}
use native.Mathlib.Omega.{arith}
use Rattle.model.specs.Model.{tracks}
use Rattle.dscb.specs.Forms.{geometry_of}
use Rattle.choose_pieces.specs.Options.{to_option}
use Rattle.choose_pieces.specs.Pass.{padded}
use Rattle.choose_pieces.proofs.Options.{five_fit, gives_all, gives_longest, gives_none, gives_one, gives_several, part_fits, sought_some}
use Rattle.choose_pieces.proofs.choose.Goals as goal

pub survey_for-best-requires : goal.survey_for-best-requires
unfolding padded
survey_for-best-requires c =
    let p = c.requires in
    record { limits = (p.limits.0, p.limits.1, p.limits.2, sought_some (to_option c.args.option) c.args.amount _ c.amount_sought.ensures p.le_amount.0); five_len = (refl, refl) }

pub piece-requires : goal.piece-requires
piece-requires c =
    let w = c.requires.le_amount.1 in
    part_fits w.0 (tracks (geometry_of c.args.g)) w.1.apart c.args.g.in_limits.tracks_most c.requires.limits.1 c.requires.le_amount.0 c.args.option c.amount_sought.ensures (c.survey_for-best.ensures w.0 w.1) (omega arith)

pub returns-then-best-ne0 : goal.returns-then-best-ne0
returns-then-best-ne0 c =
    λ f x. rw c.piece.ensures
    (gives_one f (tracks (geometry_of c.args.g)) x.apart c.args.g.in_limits.tracks_most c.requires.limits.1 c.requires.le_amount.0 c.args.option c.amount_sought.ensures (c.survey_for-best.ensures f x) (omega arith))

pub several_pieces-requires : goal.several_pieces-requires
several_pieces-requires c =
    let w = c.requires.le_amount.1 in (
      c.requires.limits.1,
      c.requires.limits.2,
      c.requires.le_amount.0,
      five_fit w.0 (tracks (geometry_of c.args.g)) w.1.apart c.args.g.in_limits.tracks_most c.requires.limits.1 c.requires.le_amount.0 c.args.option c.amount_sought.ensures (c.survey_for-best.ensures w.0 w.1) (omega arith),
    )

pub whole_pieces-requires : goal.whole_pieces-requires
whole_pieces-requires c =
    let w = c.requires.le_amount.1 in
    (omega arith, five_fit w.0 (tracks (geometry_of c.args.g)) w.1.apart c.args.g.in_limits.tracks_most c.requires.limits.1 c.requires.le_amount.0 c.args.option c.amount_sought.ensures (c.survey_for-best.ensures w.0 w.1) (omega arith))

pub whole_pieces-requires-in-Alx : goal.whole_pieces-requires-in-Alx
whole_pieces-requires-in-Alx c =
    let w = c.requires.le_amount.1 in
    (omega arith, five_fit w.0 (tracks (geometry_of c.args.g)) w.1.apart c.args.g.in_limits.tracks_most c.requires.limits.1 c.requires.le_amount.0 c.args.option c.amount_sought.ensures (c.survey_for-best.ensures w.0 w.1) (omega arith))

pub returns-in-NoOption : goal.returns-in-NoOption
returns-in-NoOption c =
    λ f x. c.several_pieces.ensures
    ∙ gives_several f (tracks (geometry_of c.args.g)) x.apart c.args.g.in_limits.tracks_most c.requires.limits.1 c.requires.le_amount.0 c.args.option c.amount_sought.ensures (c.survey_for-best.ensures f x) c.in-NoOption.is (omega arith)

pub returns-in-Contig : goal.returns-in-Contig
returns-in-Contig c =
    λ f x. gives_none f (tracks (geometry_of c.args.g)) x.apart c.args.g.in_limits.tracks_most c.requires.limits.1 c.requires.le_amount.0 c.args.option c.amount_sought.ensures (c.survey_for-best.ensures f x) c.in-Contig.is (omega arith)

pub returns-in-Mxig : goal.returns-in-Mxig
returns-in-Mxig c =
    λ f x. c.whole_pieces.ensures
    ∙ gives_longest f (tracks (geometry_of c.args.g)) x.apart c.args.g.in_limits.tracks_most c.requires.limits.1 c.requires.le_amount.0 c.args.option c.amount_sought.ensures (c.survey_for-best.ensures f x) c.in-Mxig.is (omega arith)

pub returns-in-Alx : goal.returns-in-Alx
returns-in-Alx c =
    λ f x. c.whole_pieces-in-Alx.ensures
    ∙ gives_all f (tracks (geometry_of c.args.g)) x.apart c.args.g.in_limits.tracks_most c.requires.limits.1 c.requires.le_amount.0 c.args.option c.amount_sought.ensures (c.survey_for-best.ensures f x) c.in-Alx.is (omega arith)
