use mathlib.Core.Path.{sym, ◌∙◌}
use native.Mathlib.Omega.{arith}
use Rattle.model.specs.Model.{tracks}
use Rattle.dscb.specs.Forms.{geometry_of}
use Rattle.check_label.proofs.Taking.{ten_order}
use Rattle.check_label.proofs.take_extent.Goals as goal

pub track_at-first-requires : goal.track_at-first-requires
track_at-first-requires c =
    let g = geometry_of c.args.g in
    let o = ten_order g.heads (tracks g) c.args.e c.args.x.now (sym c.good_ten.ensures ∙ c.if-not-good_ten.false) in
    (omega arith, omega (arith, o.0, o.1, c.args.g.in_limits.tracks_most))

pub track_at-end-requires : goal.track_at-end-requires
track_at-end-requires c =
    let g = geometry_of c.args.g in
    let o = ten_order g.heads (tracks g) c.args.e c.args.x.now (sym c.good_ten.ensures ∙ c.if-not-good_ten.false) in
    (omega arith, omega (arith, o.1, c.args.g.in_limits.tracks_most))

pub overflow_add-end : goal.overflow_add-end
overflow_add-end c =
    let g = geometry_of c.args.g in
    let o = ten_order g.heads (tracks g) c.args.e c.args.x.now (sym c.good_ten.ensures ∙ c.if-not-good_ten.false) in
    omega (arith, o.1, c.track_at-end.ensures, c.args.g.in_limits.tracks_most)

pub take_range-requires : goal.take_range-requires
take_range-requires c =
    let g = geometry_of c.args.g in
    let o = ten_order g.heads (tracks g) c.args.e c.args.x.now (sym c.good_ten.ensures ∙ c.if-not-good_ten.false) in
    (omega (arith, o.0, c.track_at-first.ensures, c.track_at-end.ensures), omega (arith, o.1, c.track_at-end.ensures, c.requires.2))
