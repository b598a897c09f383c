use mathlib.Core.Path.{sym, ap, ◌∙◌}
use native.Mathlib.Omega.{arith}
use lib.ListN.{length}
use Rattle.std.specs.Prelude.{is_some}
use Rattle.listing.proofs.Prepared.{is_taken_lem, not_taken, ready_to_list, list_wrong_length}
use Rattle.check_table.proofs.Room.{roomy_large}
use Rattle.listing.proofs.list.Goals as goal

pub returns-then-not-good_length : goal.returns-then-not-good_length
returns-then-not-good_length c =
    (c.refusal_line.ensures.long, c.refusal_line.ensures.text ∙ list_wrong_length c.args.table.now (sym c.good_length.ensures ∙ c.if-not-good_length.true), omega (arith, c.refusal_line.ensures.end))

pub check-requires : goal.check-requires
check-requires c = (roomy_large c.args.table.now _ c.requires.0, c.requires.1)

pub returns-in_default : goal.returns-in_default
returns-in_default c =
    (c.refusal_line-in_default.ensures.long, c.refusal_line-in_default.ensures.text ∙ not_taken c.args.table.now (sym c.good_length.ensures ∙ c.if-not-good_length.false) (sym c.check.ensures.told ∙ ap is_some c.in_default.is), omega (arith, c.refusal_line-in_default.ensures.end))

pub list_taken-requires : goal.list_taken-requires
list_taken-requires c =
    (ready_to_list c.args.table.now c.check.ensures _ c.in-Some.is, c.check.ensures.long_map ∙ ap length c.requires.0, c.requires.2)

pub returns : goal.returns
returns c =
    (c.list_taken.ensures.long, c.list_taken.ensures.text ∙ is_taken_lem c.args.table.now (sym c.good_length.ensures ∙ c.if-not-good_length.false) (sym c.check.ensures.told ∙ ap is_some c.in-Some.is), omega (arith, c.list_taken.ensures.end))
