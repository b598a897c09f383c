use mathlib.Core.Path.{◌∙◌}
use Rattle.model.specs.Model.{extent, run}
use Rattle.dscb.specs.Forms.{geometry_of}
use Rattle.dscb_write.proofs.Putting.{put_keeps}
use Rattle.dscb_write.proofs.Format3.{more_in_three, more_past_three}
use Rattle.dscb_write.proofs.add_extent3.Goals as goal

pub returns-then-n-lt7 : goal.returns-then-n-lt7
returns-then-n-lt7 c =
    let a = c.args in (
      λ l k f. c.put_extent.ensures ∙ more_in_three (geometry_of a.g) l a.rec.now f (extent a.type_byte (run a.start a.count)) a.n k c.requires.1 c.if-n-lt7.true,
      put_keeps _ _ _ _ 140 c.put_extent.ensures c.requires.0,
    )

pub returns-else-n-lt7 : goal.returns-else-n-lt7
returns-else-n-lt7 c =
    let a = c.args in (
      λ l k f. c.put_extent-else-n-lt7.ensures ∙ more_past_three (geometry_of a.g) l a.rec.now f (extent a.type_byte (run a.start a.count)) a.n k c.if-n-lt7.false c.requires.2,
      put_keeps _ _ _ _ 140 c.put_extent-else-n-lt7.ensures c.requires.0,
    )
