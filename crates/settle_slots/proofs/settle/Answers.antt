use mathlib.Core.Path.{refl, subst, sym, ap}
use Prim.Native.Nat.{ℕ, ◌+◌, ◌-◌, ◌*◌, ◌<◌}
use mathlib.Core.List.{List}
use lib.ListN.{drop, length, length-drop, length-take}
use native.Mathlib.Omega.{arith}
use Rattle.model.specs.Predicates.{All}
use Rattle.settle_slots.specs.Settling.{Gave}
use Rattle.settle_slots.proofs.Slots.{end_part, filled}
use Rattle.settle_slots.proofs.Settled.{full_in, give_low, over_in, yes_in}
use Rattle.settle_slots.proofs.settle.Goals as goal

pub returns-then-need-n : goal.returns-then-need-n
returns-then-need-n c =
    over_in c.args.n c.args.free_slots.now c.args.chain.now c.args.was c.args.need (length c.args.given.now) c.requires.3 c.requires.5 c.args.given.now refl c.if-need-n.true

pub give_slots-requires : goal.give_slots-requires
give_slots-requires c = (
  subst (λ (ks : List ℕ). All (λ k. k < 64 * length c.args.free_slots.now) ks) (sym (end_part c.args.chain.now c.args.was c.args.need c.min.result c.min.ensures))
      (give_low c.args.n (length c.args.free_slots.now) c.args.need c.args.was c.args.chain.now c.requires.1 c.requires.5),
  c.requires.6,
)

pub returns-then-more-count : goal.returns-then-more-count
returns-then-more-count c =
    let a = c.args in
    let back = subst (λ (ks : List ℕ). Gave a.free_slots.now c.give_slots.new.free_slots ks) (end_part a.chain.now a.was a.need c.min.result c.min.ensures) c.give_slots.ensures in
    full_in a.n a.free_slots.now a.chain.now a.was a.need (length a.given.now) c.requires.3 c.requires.5 c.give_slots.new.free_slots back a.given.now refl
    (omega (arith, c.saturating_sub-added.ensures, c.count_free-count.ensures.0, c.if-more-count.true))

pub returns : goal.returns
returns c =
    let a = c.args in
    let added = c.saturating_sub-added.ensures in
    let y = c.take_slots.ensures in
    let z = c.take_slots-2.ensures in
    let back = subst (λ (ks : List ℕ). Gave a.free_slots.now c.give_slots.new.free_slots ks) (end_part a.chain.now a.was a.need c.min.result c.min.ensures) c.give_slots.ensures in
    yes_in a.n a.free_slots.now a.chain.now a.was a.need (length a.given.now) c.requires.3 c.requires.5 c.give_slots.new.free_slots back
    c.take_slots.new.free_slots c.take_slots-2.new.free_slots _ _
    y.0 y.1
    (filled a.n c.take_slots.new.free_slots c.take_slots-2.new.free_slots a.chain.now c.take_slots-2.new.places a.was a.need _ (omega arith) (omega arith) (omega (arith, z.1, length-take (a.was + c.saturating_sub-added.result - a.was) (drop a.was a.chain.now), length-drop a.was a.chain.now)) z.0)
    (omega arith) c.if-need-n.false
    _ _ c.count_free-count.ensures.0 c.count_free-count.ensures.1 (ap (λ (k : ℕ). length a.given.now + k) added) c.if-more-count.false
