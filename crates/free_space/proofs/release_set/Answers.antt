use Rattle.free_space.proofs.Decided.{declined}
use Rattle.free_space.proofs.Release.{cut_done, cut_fits, puts, ttr_fits}
use Rattle.free_space.proofs.Laws.{slot_inside, slot3_inside}
use mathlib.Core.Path.{ap, ◌∙◌}
use lib.ListN.{length}
use native.Mathlib.Omega.{arith}
use Rattle.free_space.proofs.release_set.Goals as goal

pub returns-in_err-set : goal.returns-in_err-set
returns-in_err-set c = λ d. declined d c.args.ttr (c.decide.ensures d) _ c.in_err-set.was _ c.from_residual.ensures.1

pub third_record-f3-requires : goal.third_record-f3-requires
third_record-f3-requires c =
    let x = (c.decide.ensures c.requires.at).planned _ c.in_ok-set.was in
    let a = slot3_inside _ _ _ _ _ c.requires.at _ x.measured in
    omega (arith, c.requires.limits.0)

pub cut_set-requires : goal.cut_set-requires
cut_set-requires c =
    let limits = c.args.g.in_limits in
    let x = (c.decide.ensures c.requires.at).planned _ c.in_ok-set.was in
    let fits = cut_fits c.requires.at c.args.ttr x.measured x.ttr_good x.count x.plans limits.tracks_most in
    (ap length c.record_of-f1.ensures ∙ c.record_at.ensures.1, c.third_record-f3.ensures.long, fits.0, fits.1, fits.2, (ttr_fits c.args.ttr _ x.ttr_good).0)

pub write_set-requires : goal.write_set-requires
write_set-requires c =
    let p = c.requires.limits in
    let x = (c.decide.ensures c.requires.at).planned _ c.in_ok-set.was in record { limits = (p.0, omega (arith, p.1, x.plans.tail.long), slot_inside x.measured p.3, slot3_inside _ _ _ _ _ c.requires.at _ x.measured, c.cut_set.ensures.long); puts = puts c.requires.at c.args.ttr x.measured x.ttr_good x.count x.plans x.plans.plan _ _ _ _ (c.record_of-f1.ensures ∙ c.record_at.ensures.0) c.third_record-f3.ensures c.cut_set.ensures }

pub returns : goal.returns
returns c =
    λ d.
    let x = (c.decide.ensures d).planned _ c.in_ok-set.was in
    cut_done d c.args.ttr x.measured x.ttr_good x.count x.plans x.plans.plan _ _ _ _ (c.record_of-f1.ensures ∙ c.record_at.ensures.0) c.third_record-f3.ensures c.cut_set.ensures _ _ _ c.write_set.ensures x.answered
