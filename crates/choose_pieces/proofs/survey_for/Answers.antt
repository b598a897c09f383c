use Rattle.choose_pieces.proofs.survey_for.Goals as goal

pub returns-then-u-eq1 : goal.returns-then-u-eq1
returns-then-u-eq1 c = λ f x. rw c.if-u-eq1.true (c.survey.ensures f x)
