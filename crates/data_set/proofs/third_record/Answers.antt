use lib.ListN.{length}
use mathlib.Core.Path.{◌≡◌, ◌∙◌}
use Rattle.data_set.proofs.Stored.{no_third, some_third}
use borrow.Author.Rules.{rules}
use Rattle.data_set.proofs.third_record.Goals as goal

pub returns-then-q-eq0 : goal.returns-then-q-eq0
returns-then-q-eq0 c =
    let n : length c.empty_three.result ≡ 140 = search rules in
    no_third c.args.table.now c.args.q c.empty_three.result n c.if-q-eq0.true c.empty_three.ensures

pub returns : goal.returns
returns c =
    let n : length c.record_of.result ≡ 140 = search rules in
    some_third c.args.table.now c.args.q c.record_of.result n c.if-q-eq0.false (c.record_of.ensures ∙ c.record_at.ensures.0)
