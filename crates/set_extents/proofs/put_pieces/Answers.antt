use mathlib.Core.Path.{refl, ap, sym, ◌∙◌}
use mathlib.Core.Bool.{true, false}
use lib.ListN.{length}
use Rattle.dscb.specs.Forms.{geometry_of}
use Rattle.dscb.proofs.Written.{read_length}
use Rattle.set_extents.proofs.Joining.{all_follow, rest_joined, told}
use Rattle.set_extents.proofs.put_pieces.Goals as goal

pub returns-then-joins : goal.returns-then-joins
returns-then-joins c =
    let a = c.args in
    let g = geometry_of a.g in
    let one = c.lengthen_last.ensures in
    let more = c.add_pieces.ensures in (
      λ l ps own rows x.
          rest_joined a.pieces.now c.requires.2 g a.type_byte a.n l (sym (ap length own) ∙ read_length g a.f1.now a.f3.now a.n) _ _ refl refl _ _ _ _
          (told _ _ _ _ _ true own refl c.requires.1 c.if-joins.true)
          (one.0 l own x) more.0 ps rows,
      more.1,
    )

pub returns : goal.returns
returns c =
    let a = c.args in
    let g = geometry_of a.g in
    let more = c.add_pieces-2.ensures in (
      λ l ps own rows x.
          all_follow a.pieces.now c.requires.2 g a.type_byte l ps rows (told _ _ _ _ _ false own refl c.requires.1 c.if-joins.false) _ _
          (more.0 l ps (sym (ap length own) ∙ read_length g a.f1.now a.f3.now a.n) rows x),
      more.1,
    )
