use mathlib.Core.Path.{◌∙◌}
use mathlib.Core.List.{[]}
use Rattle.dscb.specs.Forms.{geometry_of}
use Rattle.dscb_write.proofs.Format5.{five_linked, five_none}
use Rattle.dscb_write.proofs.empty_five.Goals as goal

pub returns : goal.returns
returns c =
    c.put_link.ensures ∙ five_linked (geometry_of c.args.g) [] 0 c.args.k _ (c.blank-r.ensures ∙ five_none (geometry_of c.args.g))
