use mathlib.Core.Path.{◌≡◌, refl, ◌∙◌, subst}
use Prim.Native.Nat.{ℕ, ◌<◌}
use native.Mathlib.Omega.{arith}
use lib.ListN.{length-set, length}
use Rattle.model.specs.Model.{slots}
use Rattle.dscb.specs.Forms.{geometry_of}
use Rattle.free_extents.proofs.Chain.{next_named}
use Rattle.settle_slots.proofs.Chains.{chain_room, chain_read, inside_next, read_end, read_full, read_next, read_none}
use Rattle.settle_slots.specs.Settling.{Chained}
use Rattle.settle_slots.proofs.read_chain.Goals as goal

pub loop-i-init : goal.loop-i-init
loop-i-init c =
    (omega (arith, c.args.g.in_limits.least), c.slots-n.ensures.0, refl, tt, read_none (geometry_of c.args.g) c.args.table.now c.args.chain.now)

pub returns-then-k-eq0 : goal.returns-then-k-eq0
returns-then-k-eq0 c =
    let a = c.args in
    let p = c.requires in
    let l = c.loop-i in
    chain_read (geometry_of a.g) a.table.now a.chain.now l.chain l.i l.invariant.2 p.1 (omega (arith, l.auto.i-end, l.invariant.1)) l.invariant.3
    (λ v e x. read_end (geometry_of a.g) a.table.now l.chain l.i l.k v.chain (l.invariant.4 v e x) c.if-k-eq0.true)

pub loop-i-preserved : goal.loop-i-preserved
loop-i-preserved c =
    let g = geometry_of c.args.g in
    let t = c.args.table.now in
    let l = c.loop-i in
    let i = l.invariant in
    let u : l.i < length l.chain = omega (arith, c.loop-i-test.true, i.1, i.2, c.requires.1) in
    let e = next_named g t c.record_at-rec.result.now l.k c.link-k.result c.record_at-rec.ensures.0 c.link-k.ensures.0 in (
      c.link-k.ensures.1,
      i.1,
      length-set l.chain l.i _ ∙ i.2,
      inside_next (slots g) l.chain l.i l.k u i.0 i.3,
      λ v same x. read_next g t l.chain l.i l.k v.chain (i.4 v same x) c.args.g.in_limits c.if-k-eq0.false u c.link-k.result e,
    )

pub returns : goal.returns
returns c =
    let a = c.args in
    let p = c.requires in
    let l = c.loop-i in
    let end : l.i ≡ c.slots-n.result = omega arith in
    subst (λ (i : ℕ). Chained (geometry_of a.g) a.table.now a.chain.now l.chain i) end
    (chain_read (geometry_of a.g) a.table.now a.chain.now l.chain l.i l.invariant.2 p.1 (omega (arith, l.auto.i-end, l.invariant.1)) l.invariant.3
    (λ v e x.
    read_full (geometry_of a.g) a.table.now l.chain l.i l.k v.chain (l.invariant.4 v e x)
    (omega (arith, chain_room (geometry_of a.g) a.table.now v e x, c.loop-i-test.false, l.invariant.1)) (omega (arith, l.auto.i-end, l.invariant.1, l.invariant.2, p.1))))
