use Rattle.free_space.proofs.Decided.{decided, full_refused, ttr_refused}
use Rattle.free_space.proofs.Release.{ttr_fits}
use Rattle.free_space.proofs.Laws.{all_there, kept_inside, kept_is, set_small, slot_inside, slot3_inside}
use Prim.Native.Nat.{◌+◌, ◌/◌}
use mathlib.Core.Path.{sym, ◌∙◌}
use native.Mathlib.Omega.{arith}
use Rattle.free_space.proofs.decide.Goals as goal

pub returns-then-not-good_ttr : goal.returns-then-not-good_ttr
returns-then-not-good_ttr c =
    λ d. ttr_refused d c.args.ttr (c.measure-set.ensures _ _ d) _ _ _ (sym c.good_ttr.ensures ∙ c.if-not-good_ttr.true)

pub kept_of-keep-requires : goal.kept_of-keep-requires
kept_of-keep-requires c =
    let p = c.requires.limits in
    let y = c.measure-set.ensures _ _ c.requires.at in
    let fits = ttr_fits c.args.ttr c.measure-set.result.tracks (sym c.good_ttr.ensures ∙ c.if-not-good_ttr.false) in
    record { table_len = (p.0, slot_inside y p.4, slot3_inside _ _ _ _ _ c.requires.at _ y, all_there y (c.args.ttr / 256 + 1) fits.1); set_in = y.stored.set }

pub plan_release-requires : goal.plan_release-requires
plan_release-requires c =
    let p = c.requires.limits in
    let y = c.measure-set.ensures _ _ c.requires.at in
    record { limits = (p.0, p.1, p.2, p.3, slot_inside y p.4, slot3_inside _ _ _ _ _ c.requires.at _ y); set_in = y.stored.set }

pub returns-in_default : goal.returns-in_default
returns-in_default c =
    λ d. full_refused d c.args.ttr (c.measure-set.ensures _ _ d) (sym c.good_ttr.ensures ∙ c.if-not-good_ttr.false) (kept_is (c.measure-set.ensures _ _ d) c.args.ttr _ c.kept_of-keep.ensures) c.in_default.ensures.2 _

pub overflow_sub-set : goal.overflow_sub-set
overflow_sub-set c =
    let y = c.measure-set.ensures _ _ c.requires.at in
    let fits = ttr_fits c.args.ttr c.measure-set.result.tracks (sym c.good_ttr.ensures ∙ c.if-not-good_ttr.false) in
    kept_inside y c.args.g.in_limits.heads c.args.ttr _ fits.1 c.kept_of-keep.ensures

pub put_back-requires : goal.put_back-requires
put_back-requires c =
    let a = set_small _ _ _ _ _ c.requires.at in
    let b = (c.measure-set.ensures _ _ c.requires.at).spread.sum in
    (c.requires.limits.5, omega arith)

pub returns : goal.returns
returns c =
    λ d. decided d c.args.ttr (c.measure-set.ensures _ _ d) (sym c.good_ttr.ensures ∙ c.if-not-good_ttr.false) (kept_is (c.measure-set.ensures _ _ d) c.args.ttr _ c.kept_of-keep.ensures) c.in-Some.ensures _ _ c.put_back.ensures
