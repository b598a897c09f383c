use lib.ListN.{length-set}
use mathlib.Core.Path.{refl}
use Rattle.model.proofs.Lists.{clash}
use Rattle.bitmap.proofs.Words.{far_hit, far_took}
use borrow.Author.Rules.{rules}
use Rattle.bitmap.proofs.take_far.Goals as goal

pub returns-then-x-a-ne0 : goal.returns-then-x-a-ne0
returns-then-x-a-ne0 c =
    let a = c.args in
    let p = c.requires in
    record {
      long = refl;
      were = λ r. clash r refl;
      made = λ r. clash r refl;
      hit = λ _. far_hit a.map.now a.s a.e _ _ p.0 p.1 p.2 c.mask-a.ensures c.mask-b.ensures (rw (c.from-w.ensures, c.from-v.ensures) at c.if-x-a-ne0.true);
    }

pub bounds-map-v-2 : goal.bounds-map-v-2
bounds-map-v-2 c = simp length-set (search rules)

pub take_words-requires : goal.take_words-requires
take_words-requires c = simp length-set (search rules)

pub shape_of-map : goal.shape_of-map
shape_of-map c =
    let a = c.args in
    let p = c.requires in
    (far_took a.map.now a.s a.e _ _ p.0 p.1 p.2 c.mask-a.ensures c.mask-b.ensures (rw (c.from-w.ensures, c.from-v.ensures) at c.if-x-a-ne0.false) _ _ (rw (c.from-w.ensures, c.from-v.ensures) at c.take_words.ensures)).long

pub returns : goal.returns
returns c =
    let a = c.args in
    let p = c.requires in
    far_took a.map.now a.s a.e _ _ p.0 p.1 p.2 c.mask-a.ensures c.mask-b.ensures (rw (c.from-w.ensures, c.from-v.ensures) at c.if-x-a-ne0.false) _ _ (rw (c.from-w.ensures, c.from-v.ensures) at c.take_words.ensures)
