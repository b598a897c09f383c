use Rattle.bitmap.proofs.Words.{Swept}
use Rattle.bitmap.proofs.take_words.Given as goal

abbrev pub invariant-loop-word : goal.invariant-loop-word
invariant-loop-word l = Swept l.initial.word-items l.word-items l.word-index
