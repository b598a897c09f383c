use Rattle.update.proofs.Planned.{members_below, planned, unplanned}
use Rattle.update.proofs.Kept.{common_low}
use Rattle.dscb.specs.Forms.{geometry_of}
use native.Mathlib.Omega.{arith}
use Prim.Native.Nat.{ℕ, ◌+◌, ◌≤◌}
use mathlib.Core.List.{List, [], ◌∷◌}
use mathlib.Core.Path.{◌≡◌, subst, sym}
use lib.ListN.{drop, length, length-drop, length-take, take}
use Rattle.settle_slots.specs.Settling.{Lacks, Settles}
use Rattle.update.proofs.plan_slots.Goals as goal

-- the places of the slots asked for, and those behind them
abbrev two : List ℕ
two = 0 ∷ 0 ∷ []

asked_long : (n : ℕ) → n ≤ 2 → length (take n two) ≡ n
asked_long n u = omega (arith, length-take n two)

others_long : (n k : ℕ) → n ≤ 2 → k ≡ n → k + length (drop n two) ≡ 2
others_long n k u e = omega (arith, length-drop n two)

pub begin-place-requires : goal.begin-place-requires
begin-place-requires c = (c.requires.0, common_low _ _ _ _ _ c.min.ensures c.read_chain-was.ensures.inside)

pub settle-requires : goal.settle-requires
settle-requires c =
    let p = c.requires in
    let h = c.read_chain-was.ensures in
    let n = c.slots-n.ensures in (
      n.1,
      omega (arith, n.1, p.2),
      omega (arith, n.1, p.3, h.long),
      omega (arith, c.args.g.in_limits.most, p.3, h.few, h.long),
      omega (arith, asked_long c.args.asked p.4, p.4),
      members_below _ n.0 h,
      omega (arith, p.2),
    )

pub returns-in_err-left : goal.returns-in_err-left
returns-in_err-left c =
    let p = c.requires in
    let g = geometry_of c.args.g in
    rw c.from_residual.ensures
    (unplanned g _ _ _ _ _ _ _ _ _ _ _ c.args.lo _ c.args.g.in_limits p.3 c.read_chain-was.ensures c.tracks.ensures.0 c.count_runs-runs.ensures.0 c.fives_for-need.ensures
    (subst (λ (n : ℕ). Lacks g c.args.free_slots.now c.settle.new.free_slots c.read_chain-was.new.chain c.settle.new.chain c.read_chain-was.result c.fives_for-need.result n) (asked_long c.args.asked p.4) (c.in_err-left.ensures g (sym c.slots-n.ensures.0)).0))

pub returns : goal.returns
returns c =
    let p = c.requires in
    let g = geometry_of c.args.g in
    let many = asked_long c.args.asked p.4 in
    let settled = subst (λ (n : ℕ). Settles g c.args.free_slots.now c.settle.new.free_slots c.read_chain-was.new.chain c.settle.new.chain c.settle.new.given c.read_chain-was.result c.fives_for-need.result n c.in_ok-left.left) many (c.in_ok-left.ensures g (sym c.slots-n.ensures.0)) in
    planned g _ _ _ _ _ _ _ _ _ _ _ c.args.lo _ c.args.g.in_limits p.3 c.read_chain-was.ensures c.tracks.ensures.0 c.count_runs-runs.ensures.0 c.fives_for-need.ensures
    _ _ _ _ _ _ c.min.ensures c.begin-place.ensures (others_long c.args.asked _ p.4 settled.long_given) settled
