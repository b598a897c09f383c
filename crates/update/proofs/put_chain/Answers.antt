use mathlib.Core.Path.{refl, ◌∙◌}
use Prim.Native.Nat.{◌+◌, ◌*◌}
use native.Mathlib.Omega.{arith}
use Rattle.model.specs.Model.{slots, tracks}
use Rattle.dscb.specs.Forms.{geometry_of}
use Rattle.update.proofs.Slots.{chain_end, chain_entry_is, chain_next, entry_below, fills_told, put_part}
use borrow.Author.Rules.{rules}
use Rattle.update.proofs.put_chain.Goals as goal

pub five-at-requires : goal.five-at-requires
five-at-requires c =
    let p = c.requires in
    let b = entry_below (slots (geometry_of c.args.g)) c.args.chain.now (c.loop-i.i + 1) (omega (arith, c.args.g.in_limits.least)) p.chain_inside.0 in
    let e = c.member-next.ensures in
    let t = c.tracks-t.ensures in
    (search rules, omega (arith, t.0, c.loop-i.invariant.at_up), omega (arith, t.0, p.limits.1), t.1, omega arith)

pub loop-i-preserved : goal.loop-i-preserved
loop-i-preserved c =
    let a = c.args in
    let p = c.requires in
    let g = geometry_of a.g in
    let l = c.loop-i in
    let b = entry_below (slots g) a.chain.now l.i (omega (arith, c.args.g.in_limits.least)) p.chain_inside.0 in
    let v = l.invariant.long in
    let m = p.limits.0 in
    let k = c.from-a.ensures ∙ chain_entry_is a.chain.now l.i in
    let made = c.five-at.new.rec in
    let whole = put_part l.table made c.from-a.result (140 * c.from-a.result) refl in
    rw (whole, k)
    (chain_next g a.free_tracks.now a.chain.now a.table.now l.table a.start l.at l.i l.invariant c.loop-i-test.true made c.five-at.result
    (fills_told g a.free_tracks.now c.tracks-t.result (tracks g) l.at c.member-next.result _ made c.five-at.result c.tracks-t.ensures.0 c.member-next.ensures c.five-at.ensures) (omega arith))

pub returns : goal.returns
returns c =
    chain_end (geometry_of c.args.g) c.args.free_tracks.now c.args.chain.now c.args.table.now c.loop-i.table c.args.start c.loop-i.at c.loop-i.i c.loop-i.invariant c.loop-i-test.false
