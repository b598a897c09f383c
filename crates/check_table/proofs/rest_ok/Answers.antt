use Rattle.check_table.proofs.Whole.{rest_told, rest_unclear, rest_wrong}
use Rattle.check_table.proofs.Unused.{highest_below}
use Rattle.dscb.specs.Forms.{geometry_of}
use native.Mathlib.Omega.{arith}
use mathlib.Core.Path.{refl, sym, ◌∙◌}
use Rattle.check_table.proofs.rest_ok.Goals as goal

pub returns-in_err-format0s : goal.returns-in_err-format0s
returns-in_err-format0s c =
    rw c.from_residual.ensures (rest_unclear (geometry_of c.args.g) c.args.table.now c.args.free_slots.now c.slots-n.result c.slots-n.ensures.0 c.in_err-format0s.ensures)

pub four-made-requires : goal.four-made-requires
four-made-requires c =
    let n = c.slots-n in
    let below = highest_below c.args.table.now n.result (omega (arith, n.ensures.0, c.args.g.in_limits.least)) in
    (omega (arith, below, c.highest-highest.ensures, n.ensures.0), omega (arith, c.in_ok-format0s.ensures.most, n.ensures.1))

pub returns-then-not-same : goal.returns-then-not-same
returns-then-not-same c =
    rest_wrong (geometry_of c.args.g) c.args.table.now c.args.free_slots.now c.in_ok-format0s.format0s c.slots-n.result c.slots-n.ensures.0 c.in_ok-format0s.ensures
    c.four-made.result c.record_at.result.now record { geometry = c.args.g; format0s = c.in_ok-format0s.format0s; highest = c.highest-highest.result } refl refl c.highest-highest.ensures c.four-made.ensures c.record_at.ensures.0 (sym c.same.ensures ∙ c.if-not-same.true)

pub returns : goal.returns
returns c =
    rest_told (geometry_of c.args.g) c.args.table.now c.args.free_slots.now c.in_ok-format0s.format0s c.slots-n.result c.slots-n.ensures.0 c.in_ok-format0s.ensures
    c.four-made.result c.record_at.result.now _ refl refl c.highest-highest.ensures c.four-made.ensures c.record_at.ensures.0 (sym c.same.ensures ∙ c.if-not-same.false)
