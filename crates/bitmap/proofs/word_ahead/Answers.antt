use Rattle.bitmap.proofs.Far.{word_later, word_none, word_own}
use Rattle.bitmap.proofs.word_ahead.Goals as goal

pub returns-then-x-ne0 : goal.returns-then-x-ne0
returns-then-x-ne0 c =
    let a = c.args in
    λ n k r. rw c.from-w.ensures (word_own a.map.now n a.t a.e a.x c.requires.0 c.if-x-ne0.true r)

pub returns-in_err-at : goal.returns-in_err-at
returns-in_err-at c =
    let a = c.args in
    λ n k r. rw c.from_residual.ensures (word_none a.map.now n a.t a.e a.x c.if-x-ne0.false r k (rw c.from-w.ensures at c.in_err-at.ensures))

pub returns : goal.returns
returns c =
    let a = c.args in
    λ n k r. word_later a.map.now n a.t a.e a.x c.if-x-ne0.false r c.in_ok-at.at (rw c.from-w.ensures at c.in_ok-at.ensures)
