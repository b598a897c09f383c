use borrow.Author.Rules.{rules}
use Rattle.update.specs.Writing.{chain_entry}
use Rattle.update.proofs.member.Goals as goal

pub returns : goal.returns
unfolding chain_entry
returns c = search rules
