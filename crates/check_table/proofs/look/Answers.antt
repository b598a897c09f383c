use Rattle.check_table.proofs.Scan.{look_other, look_label}
use Rattle.names.specs.Find.{is_label}
use Rattle.dscb.specs.Forms.{geometry_of}
use borrow.Author.Tests.{eq-eqb, ne_eqb}
use lib.ListN.{get_or}
use Prim.Native.Nat.{ℕ}
use mathlib.Core.List.{List}
use mathlib.Core.Bool.{true, false}
use mathlib.Core.Path.{◌≡◌, sym, ap, ◌∙◌, subst}
use Rattle.check_table.proofs.look.Goals as goal

pub returns-then-rec : goal.returns-then-rec
returns-then-rec c =
    look_other (geometry_of c.args.g) c.args.table.now c.args.free_tracks.now c.args.free_slots.now c.args.k (subst (λ (x : List ℕ). is_label x ≡ false) c.record_at-rec.ensures.0 (ne_eqb _ _ c.if-rec.true))

pub take_label-requires : goal.take_label-requires
take_label-requires c =
    (record { limits = c.args.g.in_limits; long = c.requires.0; low = c.requires.1; high = c.requires.2; id = ap (λ (x : List ℕ). get_or x 44 0) (sym c.record_at-rec.ensures.0) ∙ c.if-rec.false }, c.requires.3, c.requires.4)

pub returns : goal.returns
returns c =
    look_label (geometry_of c.args.g) c.args.table.now c.args.free_tracks.now _ c.args.free_slots.now _ c.args.k c.take_label.result (subst (λ (x : List ℕ). is_label x ≡ true) c.record_at-rec.ensures.0 (eq-eqb _ _ c.if-rec.false)) c.take_label.ensures
