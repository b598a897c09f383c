use Rattle.rules.specs.Entries.{lent}
use Rattle.replay_step.specs.declared.Operation.TheVariants.{Initialise, Allocate, Extend, Release, Scratch, Rename, Obtain, Lspace, Put, DateToStored, DateToPacked, PreviewAllocate, PreviewExtend, PreviewRelease, PreviewScratch}
use Rattle.replay_step.specs.Play.{later_op, operated, preview_op, reading_op}
use Rattle.replay_step.proofs.Laws.{numbered, unused}
use mathlib.Core.Path.{refl}
use Rattle.replay_step.proofs.play.Goals as goal

pub returns-in-Initialise : goal.returns-in-Initialise
unfolding operated
returns-in-Initialise c =
    numbered c.args.asked.now (lent c.args.table.now c.args.answer.now c.args.labels.now) Initialise c.in-Ok.ensures c.in-Initialise.is (c.do_initialise.ensures c.args.labels.now)

pub returns-in-Allocate : goal.returns-in-Allocate
unfolding operated
returns-in-Allocate c =
    numbered c.args.asked.now (lent c.args.table.now c.args.answer.now c.args.labels.now) Allocate c.in-Ok.ensures c.in-Allocate.is (c.do_allocate.ensures c.args.labels.now)

pub returns-in-Extend : goal.returns-in-Extend
unfolding operated
returns-in-Extend c =
    numbered c.args.asked.now (lent c.args.table.now c.args.answer.now c.args.labels.now) Extend c.in-Ok.ensures c.in-Extend.is (c.do_extend.ensures c.args.labels.now)

pub returns-in-Release : goal.returns-in-Release
unfolding operated
returns-in-Release c =
    numbered c.args.asked.now (lent c.args.table.now c.args.answer.now c.args.labels.now) Release c.in-Ok.ensures c.in-Release.is (c.do_release.ensures c.args.labels.now)

pub returns-in-Scratch : goal.returns-in-Scratch
unfolding operated later_op
returns-in-Scratch c =
    numbered c.args.asked.now (lent c.args.table.now c.args.answer.now c.args.labels.now) Scratch c.in-Ok.ensures c.in-Scratch.is (c.do_scratch.ensures c.args.labels.now)

pub returns-in-Rename : goal.returns-in-Rename
unfolding operated later_op
returns-in-Rename c =
    numbered c.args.asked.now (lent c.args.table.now c.args.answer.now c.args.labels.now) Rename c.in-Ok.ensures c.in-Rename.is (c.do_rename.ensures c.args.labels.now)

pub returns-in-Obtain : goal.returns-in-Obtain
unfolding operated later_op
returns-in-Obtain c =
    numbered c.args.asked.now (lent c.args.table.now c.args.answer.now c.args.labels.now) Obtain c.in-Ok.ensures c.in-Obtain.is c.do_obtain.ensures

pub returns-in-Lspace : goal.returns-in-Lspace
unfolding operated later_op
returns-in-Lspace c =
    numbered c.args.asked.now (lent c.args.table.now c.args.answer.now c.args.labels.now) Lspace c.in-Ok.ensures c.in-Lspace.is (c.do_lspace.ensures c.args.labels.now)

pub returns-in-Put : goal.returns-in-Put
unfolding operated later_op
returns-in-Put c =
    numbered c.args.asked.now (lent c.args.table.now c.args.answer.now c.args.labels.now) Put c.in-Ok.ensures c.in-Put.is (c.do_put.ensures c.args.answer.now c.args.labels.now)

pub returns-in-DateToStored : goal.returns-in-DateToStored
unfolding operated later_op reading_op
returns-in-DateToStored c =
    numbered c.args.asked.now (lent c.args.table.now c.args.answer.now c.args.labels.now) DateToStored c.in-Ok.ensures c.in-DateToStored.is (c.do_date_to_stored.ensures c.args.table.now c.args.labels.now)

pub returns-in-DateToPacked : goal.returns-in-DateToPacked
unfolding operated later_op reading_op
returns-in-DateToPacked c =
    numbered c.args.asked.now (lent c.args.table.now c.args.answer.now c.args.labels.now) DateToPacked c.in-Ok.ensures c.in-DateToPacked.is (c.do_date_to_packed.ensures c.args.table.now c.args.labels.now)

pub returns-in-PreviewAllocate : goal.returns-in-PreviewAllocate
unfolding operated later_op reading_op preview_op
returns-in-PreviewAllocate c =
    numbered c.args.asked.now (lent c.args.table.now c.args.answer.now c.args.labels.now) PreviewAllocate c.in-Ok.ensures c.in-PreviewAllocate.is (c.do_preview_allocate.ensures c.args.labels.now)

pub returns-in-PreviewExtend : goal.returns-in-PreviewExtend
unfolding operated later_op reading_op preview_op
returns-in-PreviewExtend c =
    numbered c.args.asked.now (lent c.args.table.now c.args.answer.now c.args.labels.now) PreviewExtend c.in-Ok.ensures c.in-PreviewExtend.is (c.do_preview_extend.ensures c.args.labels.now)

pub returns-in-PreviewRelease : goal.returns-in-PreviewRelease
unfolding operated later_op reading_op preview_op
returns-in-PreviewRelease c =
    numbered c.args.asked.now (lent c.args.table.now c.args.answer.now c.args.labels.now) PreviewRelease c.in-Ok.ensures c.in-PreviewRelease.is (c.do_preview_release.ensures c.args.labels.now)

pub returns-in-PreviewScratch : goal.returns-in-PreviewScratch
unfolding operated later_op reading_op preview_op
returns-in-PreviewScratch c =
    numbered c.args.asked.now (lent c.args.table.now c.args.answer.now c.args.labels.now) PreviewScratch c.in-Ok.ensures c.in-PreviewScratch.is (c.do_preview_scratch.ensures c.args.labels.now)

pub returns-in_default : goal.returns-in_default
returns-in_default c =
    unused c.args.asked.now (lent c.args.table.now c.args.answer.now c.args.labels.now) _ c.in_default.ensures refl
