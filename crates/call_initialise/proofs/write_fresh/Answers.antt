use Rattle.call_initialise.proofs.Laws.{fresh_written}
use Rattle.dscb.specs.Forms.{geometry_of}
use lib.ListN.{length}
use mathlib.Core.Path.{◌≡◌, ap}
use Prim.Native.Nat.{ℕ, ◌-◌}
use borrow.Author.Rules.{rules}
use Rattle.call_initialise.proofs.write_fresh.Goals as goal

pub returns : goal.returns
returns c =
    let n : length c.fresh_five-five.result ≡ 140 = search rules in
    let m : length c.four-four.result ≡ 140 = search rules in
    fresh_written (geometry_of c.args.g) c.args.g.in_limits c.args.table.now _ _ _ c.fresh_five-five.result c.four-four.result _ c.requires (c.fill.ensures.after (λ y h. h)) c.fresh_five-five.ensures n c.put_record.ensures
    (ap (λ (k : ℕ). k - 2) c.slots.ensures.0) c.four-four.ensures m c.put_record-2.ensures
