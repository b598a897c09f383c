use mathlib.Core.Path.{refl, ◌∙◌}
use Prim.Native.Nat.{◌+◌}
use native.Mathlib.Omega.{arith}
use Rattle.model.specs.Model.{run}
use Rattle.rules.specs.Layout.{entry}
use Rattle.dscb.specs.Forms.{geometry_of}
use Rattle.dscb_write.proofs.Filling.{copied_over}
use Rattle.dscb_write.proofs.Format5.{entry_bytes}
use Rattle.dscb_write.proofs.put_entry.Goals as goal

pub returns : goal.returns
returns c =
    let a = c.args in
    copied_over a.rec.now a.at (a.at + 5) _ (entry (geometry_of a.g) (run a.start a.count))
    (c.copy_from_slice.ensures.after
    ∙ rw (c.to_be_bytes.ensures, c.to_be_bytes-2.ensures)
    (entry_bytes (geometry_of a.g) a.start a.count c.split-whole.result.0 c.split-whole.result.1 (omega arith) (omega arith) c.split-whole.ensures.0 c.split-whole.ensures.1))
    refl (omega (arith, c.requires.0, c.requires.1))
