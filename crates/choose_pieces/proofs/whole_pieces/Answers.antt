use Prim.Native.Nat.{◌<◌}
use mathlib.Core.Path.{◌≡◌}
use native.Mathlib.Omega.{arith}
use borrow.Author.Rules.{rules}
use lib.ListN.{length, length-take}
use lib.Seq.{get_or-take}
use Rattle.choose_pieces.specs.Pass.{no_units}
use Rattle.choose_pieces.proofs.Bounds.{part_within}
use Rattle.choose_pieces.proofs.Options.{taking_full, taking_next, taking_none, taking_short}
use Rattle.choose_pieces.proofs.whole_pieces.Goals as goal

pub loop-k-init : goal.loop-k-init
loop-k-init c = taking_none _ _ _ _

pub returns-then-c-amount : goal.returns-then-c-amount
returns-then-c-amount c =
    let k = c.loop-k.k in
    let l : length c.args.five ≡ 5 = search rules in
    let u : k < c.args.most = omega (arith, length-take c.args.most c.args.five) in
    taking_short c.loop-k.invariant c.requires.0 l u (rw (get_or-take c.args.most c.args.five k no_units u) at c.if-c-amount.true)

pub piece-requires : goal.piece-requires
piece-requires c =
    let k = c.loop-k.k in
    let u : k < c.args.most = omega (arith, length-take c.args.most c.args.five) in
    part_within c.args.u c.args.five k _ _ c.requires.1 (get_or-take c.args.most c.args.five k no_units u) (omega arith)

pub loop-k-preserved : goal.loop-k-preserved
loop-k-preserved c =
    let k = c.loop-k.k in
    let l : length c.args.five ≡ 5 = search rules in
    let u : k < c.args.most = omega (arith, length-take c.args.most c.args.five) in
    let e = get_or-take c.args.most c.args.five k no_units u in
    rw (c.piece.ensures, e) (taking_next c.loop-k.invariant c.requires.0 l u (rw e at c.if-c-amount.false))

pub returns : goal.returns
returns c =
    let l : length c.args.five ≡ 5 = search rules in
    taking_full c.loop-k.invariant c.requires.0 l (omega (arith, length-take c.args.most c.args.five))
