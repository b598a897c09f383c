use Prim.Native.Nat.{◌-◌}
use native.Mathlib.Omega.{arith}
use lib.ListN.{take}
use Rattle.dscb.specs.Forms.{geometry_of}
use Rattle.choose_pieces.specs.Pass.{to_runs}
use Rattle.free_extents.proofs.Walk.{entries_read, going_all, going_end, going_next, going_none}
use Rattle.choose_pieces.proofs.Passing.{onwards_done, onwards_exact, onwards_next}
use Rattle.choose_pieces.proofs.survey.Goals as goal

pub loop-init : goal.loop-init
loop-init c =
    let a = c.args in
    let p = c.requires in
    (p.five_len.0, omega (arith, c.args.g.in_limits.least), λ f x. going_all (geometry_of a.g) a.table.now _ (c.slots-end.result - 0) (omega (arith, c.slots-end.ensures.0)) f x (λ best five y. y))

pub returns-then-k-eq0 : goal.returns-then-k-eq0
returns-then-k-eq0 c =
    let a = c.args in
    let p = c.requires in
    let l = c.loop in
    λ f x. onwards_done a.u a.amount f (to_runs a.five.now) _ _ p.five_len.1 p.limits.3 (going_none (geometry_of a.g) a.table.now _ (c.slots-end.result - l.counter) l.k (l.invariant.2 f x) c.if-k-eq0.true)

pub record_at-requires : goal.record_at-requires
record_at-requires c = omega (arith, c.loop.invariant.1, c.requires.limits.0)

pub look_or_pass-best-requires : goal.look_or_pass-best-requires
look_or_pass-best-requires c =
    let p = c.requires in
    (c.record_at.ensures.1, omega (arith, c.args.g.in_limits.heads), omega (arith, c.args.g.in_limits.heads_most), p.limits.1, p.limits.2, p.limits.3, c.loop.invariant.0)

pub returns-then-best-amount : goal.returns-then-best-amount
returns-then-best-amount c =
    let a = c.args in
    let p = c.requires in
    let l = c.loop in
    let rec = c.record_at in
    λ f x. onwards_exact a.u a.amount f (to_runs a.five.now) _ _ p.five_len.1 p.limits.3 (geometry_of a.g) a.table.now (c.slots-end.result - l.counter) l.k _ _ c.args.g.in_limits
    (omega (arith, c.if-k-eq0.false)) (l.invariant.2 f x)
    (λ e y. c.look_or_pass-best.ensures.1 (take 26 e) (entries_read a.g.heads c.from.result _ rec.result.now (take 26 e) c.from.ensures rec.ensures.0 y)) c.if-best-amount.true

pub member_after-k-requires : goal.member_after-k-requires
member_after-k-requires c =
    let p = c.requires in
    (p.limits.0, c.loop.invariant.1)

pub loop-preserved : goal.loop-preserved
loop-preserved c =
    let a = c.args in
    let p = c.requires in
    let l = c.loop in
    let rec = c.record_at in
    let looked = c.look_or_pass-best in (
      looked.ensures.0,
      c.member_after-k.ensures.0,
      λ f x. going_next (geometry_of a.g) a.table.now _ (c.slots-end.result - l.counter) l.k (l.invariant.2 f x) (omega (arith, c.if-k-eq0.false)) _ (omega arith) c.member_after-k.result _
          (λ e y z. onwards_next a.u a.amount f (to_runs a.five.now) _ _ _ _ e p.limits.3 (looked.ensures.1 (take 26 e) (entries_read a.g.heads c.from.result _ rec.result.now (take 26 e) c.from.ensures rec.ensures.0 y)) z)
          c.member_after-k.ensures.1,
    )

pub returns : goal.returns
returns c =
    let a = c.args in
    let p = c.requires in
    let l = c.loop in
    λ f x. onwards_done a.u a.amount f (to_runs a.five.now) _ _ p.five_len.1 p.limits.3 (going_end (geometry_of a.g) a.table.now _ (c.slots-end.result - l.counter) l.k (l.invariant.2 f x) (omega arith))
