use mathlib.Core.Path.{sym, ◌∙◌}
use Rattle.dscb.specs.Forms.{geometry_of}
use Rattle.check_chain.proofs.Entries.{front_bad, header_bad, id_bad, listed}
use Rattle.check_chain.proofs.compare.Goals.{then-rec-via-then-rec, then-rec-via-else-rec+then-not-part_is}
use Rattle.check_chain.proofs.compare.Goals as goal

pub returns-then-rec : goal.returns-then-rec
returns-then-rec c =
    let a = c.args in
    elim c.then-rec.branch [
      | then-rec-via-then-rec w ↦ id_bad (geometry_of a.g) a.free_tracks.now a.n a.at a.rec.now c.requires.0 w.if-rec.true
      | then-rec-via-else-rec+then-not-part_is w ↦ header_bad (geometry_of a.g) a.free_tracks.now a.n a.at a.rec.now (sym w.part_is.ensures ∙ w.if-not-part_is.true)
    ]

pub returns-in_err-next : goal.returns-in_err-next
returns-in_err-next c =
    let a = c.args in rw c.from_residual.ensures (front_bad (geometry_of a.g) a.free_tracks.now a.n a.at a.rec.now c.requires.0 c.in_err-next.ensures)

pub returns : goal.returns
returns c =
    let a = c.args in
    listed (geometry_of a.g) a.free_tracks.now a.n a.at a.rec.now c.requires.0 (sym c.part_is.ensures ∙ c.if-not-part_is.false) c.if-rec.false c.in_ok-next.next c.in_ok-next.ensures c.entries_are-2.result c.entries_are-2.ensures
