use mathlib.Core.Path.{sym}
use native.Mathlib.Omega.{arith}
use Rattle.rows.proofs.Eights.{four_words, two_words}
use Rattle.rows.proofs.middling_are.Goals as goal

pub returns-then-n-le16 : goal.returns-then-n-le16
returns-then-n-le16 c =
    sym (two_words c.args.s.now c.args.v (λ j. (c.type_inv.s j).fits) (omega arith) _ _ _ c.from-all.ensures c.requires.0 c.if-n-le16.true c.word8.ensures c.word8-2.ensures)

pub returns : goal.returns
returns c =
    sym (four_words c.args.s.now c.args.v (λ j. (c.type_inv.s j).fits) (omega arith) _ _ _ _ _ c.from-all.ensures (omega arith) c.requires.1 c.word8.ensures c.word8-2.ensures c.word8-3.ensures c.word8-4.ensures)
