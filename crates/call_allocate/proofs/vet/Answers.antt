use mathlib.Core.Path.{sym, ◌∙◌}
use Rattle.call_allocate.proofs.Vetted.{duplicate, vetted}
use Rattle.call_allocate.proofs.vet.Goals as goal

pub returns-then-on_volume : goal.returns-then-on_volume
returns-then-on_volume c = duplicate _ _ c.args.kind c.args.start c.args.amount c.args.secondary c.args.option c.in-Some.request c.in-Some.ensures.numbers.0 c.in-Some.ensures.numbers.1 c.in-Some.ensures.numbers.2 _ c.requires.1 c.requires.2 (sym c.in_range.ensures ∙ c.if-not-in_range.false) _ c.on_volume.ensures c.if-on_volume.true

pub returns : goal.returns
returns c = vetted _ _ c.args.kind c.args.start c.args.amount c.args.secondary c.args.option c.in-Some.request c.in-Some.ensures.numbers.0 c.in-Some.ensures.numbers.1 c.in-Some.ensures.numbers.2 _ c.requires.1 c.requires.2 (sym c.in_range.ensures ∙ c.if-not-in_range.false) _ c.on_volume.ensures c.if-on_volume.false
