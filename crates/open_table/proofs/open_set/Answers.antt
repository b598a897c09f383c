use mathlib.Core.Path.{refl, sym, ap, ◌∙◌}
use Rattle.names.specs.Find.{answer_of}
use Rattle.open_table.proofs.Calls.{opened_there}
use Rattle.open_table.proofs.Numbers.{known}
use Rattle.open_table.proofs.open_set.Goals as goal

pub look_up-requires : goal.look_up-requires
look_up-requires c =
    let w = known (c.open_named.ensures.0.opened _ c.in_ok-geometry.was) in
    w.long

pub returns : goal.returns
returns c =
    opened_there c.open_named.ensures.0 c.open_named.ensures.1 _ c.in_ok-geometry.was _ refl (ap answer_of (sym c.in-Some.is) ∙ c.look_up.ensures)
