use Rattle.names.proofs.Laws.{no_mark, no_tag}
use Rattle.names.specs.Find.{has_tag, is_nothing}
use Rattle.names.proofs.is_new.Goals as goal
use Rattle.names.proofs.is_new.Goals.{then-not-is_free, else-not-is_free}
use lib.ListN.{length}
use mathlib.Core.Path.{refl, sym, ap, ◌∙◌}
use Rattle.std.proofs.lemmas.Bool.{not-true}

pub returns-then-not-has_tag : goal.returns-then-not-has_tag
returns-then-not-has_tag c =
    let t = c.args.table.now in
    let name = c.args.name.now in
    let k = length c.args.tags.now in
    let some_test = c.if-not-has_tag.true in
    elim c.if-not-is_free.branch [
      | then-not-is_free w ↦
          some_test ∙ sym (ap is_nothing (no_mark t c.args.seen.now k c.args.t c.requires.4 name c.requires.2 (sym c.is_free.ensures ∙ w.if-not-is_free.true)))
      | else-not-is_free w ↦
          some_test
          ∙ sym (ap is_nothing (no_tag t c.args.tags.now k refl c.requires.1 name (ap (has_tag c.args.tags.now) (sym c.requires.2) ∙ sym w.has_tag.ensures ∙ not-true w.has_tag.result (sym w.value-is ∙ some_test))))
    ]
