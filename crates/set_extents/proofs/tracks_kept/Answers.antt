use Rattle.dscb.specs.Forms.{geometry_of}
use Rattle.set_extents.specs.Change.{extents_in}
use Rattle.set_extents.proofs.Keeping.{cylinders_stay, first_stay}
use Rattle.set_extents.proofs.tracks_kept.Goals as goal

pub returns-then-unit-ne192 : goal.returns-then-unit-ne192
returns-then-unit-ne192 c =
    let a = c.args in
    first_stay a.g.heads a.unit a.ttr (extents_in (geometry_of a.g) a.f1.now a.f3.now a.n) c.if-unit-ne192.true

pub returns : goal.returns
returns c =
    let a = c.args in
    cylinders_stay a.g.heads a.unit a.ttr (extents_in (geometry_of a.g) a.f1.now a.f3.now a.n) c.requires.0.limits.heads c.if-unit-ne192.false c.requires.1 c.to_cylinder_end.result c.to_cylinder_end.ensures
