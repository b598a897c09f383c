use mathlib.Core.Path.{refl}
use mathlib.Core.List.{[]}
use Prim.Native.Nat.{◌-◌}
use native.Mathlib.Omega.{arith}
use lib.ListN.{take}
use Rattle.dscb.specs.Forms.{geometry_of}
use Rattle.free_extents.proofs.Walk.{entries_read, going_all, going_end, going_next, going_none}
use Rattle.call_lspace.proofs.Laws.{below_more, summed_empty, summed_more}
use Rattle.call_lspace.proofs.add_all.Goals as goal

pub loop-init : goal.loop-init
loop-init c =
    let a = c.args in
    let p = c.requires in (
      omega (arith, c.args.g.in_limits.least),
      record { cylinders = omega arith; odd = omega arith; many = omega arith; long = omega arith },
      λ f x. going_all (geometry_of a.g) a.table.now _ (c.slots-end.result - 0) (omega (arith, c.slots-end.ensures.0)) f x (λ r y. y),
    )

pub returns-then-k-eq0 : goal.returns-then-k-eq0
returns-then-k-eq0 c =
    let a = c.args in
    let l = c.loop in
    λ f x. going_none (geometry_of a.g) a.table.now _ (c.slots-end.result - l.counter) l.k (l.invariant.2 f x) c.if-k-eq0.true l.s (summed_empty a.g.heads [] l.s refl)

pub record_at-requires : goal.record_at-requires
record_at-requires c = omega (arith, c.loop.invariant.0, c.requires)

pub add_member-s-requires : goal.add_member-s-requires
add_member-s-requires c =
    let p = c.requires in
    let l = c.loop in
    let t = c.loop-test.true in
    let m = c.args.g.in_limits.most in
    (c.record_at.ensures.1, omega (arith, c.args.g.in_limits.heads), omega (arith, c.args.g.in_limits.heads_most), below_more _ 203347722240 l.s (omega (arith, c.slots-end.ensures.0)) l.invariant.1)

pub member_after-k-requires : goal.member_after-k-requires
member_after-k-requires c =
    let p = c.requires in
    (p, c.loop.invariant.0)

pub loop-preserved : goal.loop-preserved
loop-preserved c =
    let a = c.args in
    let l = c.loop in
    let t = c.loop-test.true in
    let rec = c.record_at in
    let add = c.add_member-s in (
      c.member_after-k.ensures.0,
      below_more _ _ add.result (omega arith) (add.ensures.most _ (omega arith) l.invariant.1),
      λ f x. going_next (geometry_of a.g) a.table.now _ (c.slots-end.result - l.counter) l.k (l.invariant.2 f x) (omega (arith, c.if-k-eq0.false)) _ (omega arith) c.member_after-k.result _
          (λ e y z r w. z r (summed_more a.g.heads 26 e l.s add.result r (rw c.from.ensures at add.ensures.sums (take 26 e) (entries_read a.g.heads a.g.heads _ rec.result.now (take 26 e) refl rec.ensures.0 y)) w))
          c.member_after-k.ensures.1,
    )

pub returns : goal.returns
returns c =
    let a = c.args in
    let l = c.loop in
    λ f x. going_end (geometry_of a.g) a.table.now _ (c.slots-end.result - l.counter) l.k (l.invariant.2 f x) (omega arith) l.s (summed_empty a.g.heads [] l.s refl)
