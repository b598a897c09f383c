use native.Mathlib.Omega.{arith}
use Prim.Native.Nat.{◌-◌}
use mathlib.Core.Path.{◌∙◌}
use Rattle.bitmap.proofs.Words.{lent_long, swept_all, swept_hit, swept_more, swept_none}
use Rattle.bitmap.proofs.take_words.Goals as goal

pub loop-word-init : goal.loop-word-init
loop-word-init c = swept_none _

pub returns-then-word : goal.returns-then-word
returns-then-word c =
    let l = c.loop-word in
    let a = c.args in
    let e = lent_long a.map.now a.w (a.v - a.w) (omega arith) in
    swept_hit a.map.now l.word-items a.w a.v l.word-index c.requires.0 c.requires.1 (l.auto.word-items ∙ e) l.invariant _ (omega arith) (omega arith) c.if-word.true

pub loop-word-preserved : goal.loop-word-preserved
loop-word-preserved c =
    let l = c.loop-word in swept_more _ l.word-items l.word-index (omega arith) c.if-word.false l.invariant

pub returns : goal.returns
returns c =
    let l = c.loop-word in
    let a = c.args in
    let e = lent_long a.map.now a.w (a.v - a.w) (omega arith) in
    swept_all a.map.now l.word-items a.w a.v l.word-index c.requires.0 c.requires.1 (l.auto.word-items ∙ e) l.invariant (omega arith)
