use Rattle.answers.proofs.Laws.{pieces_all, pieces_next, pieces_none}
use lib.ListN.{length, length-take}
use lib.Seq.{get_or-take}
use native.Mathlib.Omega.{arith}
use mathlib.Core.Path.{◌≡◌, ◌∙◌}
use mathlib.Core.List.{[]}
use Prim.Native.Nat.{◌<◌}
use borrow.Author.Rules.{rules}
use Rattle.answers.proofs.put_granted.Goals as goal

pub loop-i-init : goal.loop-i-init
loop-i-init c = rw c.put_two.ensures (pieces_none c.args.tracks c.args.count c.args.pieces)

pub loop-i-preserved : goal.loop-i-preserved
loop-i-preserved c =
    let a = c.args in
    let i = c.loop-i.i in
    let n : length a.pieces ≡ 5 = search rules in
    let u : i < a.count = omega (arith, length-take a.count a.pieces) in
    c.put_piece.ensures ∙ rw (c.loop-i.invariant, get_or-take a.count a.pieces i [] u) (pieces_next a.tracks a.count a.pieces i (omega arith) n)

pub returns : goal.returns
returns c =
    let a = c.args in
    let n : length a.pieces ≡ 5 = search rules in
    let last : c.loop-i.i ≡ a.count = omega (arith, length-take a.count a.pieces) in
    λ ps l e h. c.copy_from_slice.ensures.after ∙ c.loop-i.invariant ∙ pieces_all a.tracks a.count a.pieces c.loop-i.i (omega arith) (omega arith) ps l e h
