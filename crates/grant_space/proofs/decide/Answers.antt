use mathlib.Core.Path.{◌≡◌}
use lib.ListN.{length, length-take}
use borrow.Author.Rules.{rules}
use Rattle.grant_space.proofs.Decided.{count_least, count_most, done, full, grants, no_space, refuses, sum_most, too_many}
use native.Mathlib.Omega.{arith}
use Rattle.grant_space.proofs.decide.Goals as goal

pub returns-then-got-eq0 : goal.returns-then-got-eq0
returns-then-got-eq0 c = λ d. refuses d _ _ _ _ (no_space d _ _ c.count_pieces-got.ensures c.if-got-eq0.true)

pub extents_then-requires : goal.extents_then-requires
extents_then-requires c =
    let n = c.count_pieces-got.ensures in
    (c.requires.limits.4, count_most c.requires.seeks _ _ n c.if-got-eq0.false, count_least c.requires.seeks _ _ n c.if-got-eq0.false)

pub returns-then-extents_then-gt16 : goal.returns-then-extents_then-gt16
returns-then-extents_then-gt16 c =
    let then = c.extents_then.ensures in
    λ d. refuses d _ _ _ _ (too_many d _ _ c.count_pieces-got.ensures c.if-got-eq0.false (omega (arith, c.if-extents_then-gt16.true)))

pub slice_bounds-pieces-end : goal.slice_bounds-pieces-end
slice_bounds-pieces-end c =
    let long : length c.args.pieces ≡ 5 = search rules in
    omega (arith, count_most c.requires.seeks _ _ c.count_pieces-got.ensures c.if-got-eq0.false)

pub slice_bounds-granted-end : goal.slice_bounds-granted-end
slice_bounds-granted-end c =
    let long : length c.args.pieces ≡ 5 = search rules in
    omega (arith, count_most c.requires.seeks _ _ c.count_pieces-got.ensures c.if-got-eq0.false, length-take c.count_pieces-got.result.count c.args.pieces)

pub plan_grant-requires : goal.plan_grant-requires
plan_grant-requires c =
    let then = c.extents_then.ensures in
    let p = c.requires.limits in
    let n = c.count_pieces-got.ensures in record { limits = (p.0, p.1, p.2, p.3, p.4, count_least c.requires.seeks _ _ n c.if-got-eq0.false, count_most c.requires.seeks _ _ n c.if-got-eq0.false); grants = grants c.requires.seeks _ _ n c.if-got-eq0.false (omega (arith, c.if-extents_then-gt16.false)) }

pub returns-in_default : goal.returns-in_default
returns-in_default c =
    let then = c.extents_then.ensures in
    λ d. refuses d _ _ _ _ (full d _ _ c.count_pieces-got.ensures c.if-got-eq0.false (omega (arith, c.if-extents_then-gt16.false)) c.plan_grant.ensures c.in_default.is)

pub put_granted-requires : goal.put_granted-requires
put_granted-requires c =
    let n = c.count_pieces-got.ensures in
    (c.requires.limits.5, count_most c.requires.seeks _ _ n c.if-got-eq0.false, omega (arith, sum_most c.requires.seeks _ _ n c.if-got-eq0.false))

pub returns : goal.returns
returns c =
    let then = c.extents_then.ensures in
    λ d. done d _ _ c.count_pieces-got.ensures c.if-got-eq0.false (omega (arith, c.if-extents_then-gt16.false)) c.plan_grant.ensures c.in-Some.is _ _ c.put_granted.ensures
