use mathlib.Core.Path.{◌≡◌, ap, ◌∙◌}
use Prim.Native.Nat.{ℕ}
use native.Mathlib.Omega.{arith}
use lib.ListN.{drop}
use Rattle.model.specs.Model.{run}
use Rattle.free_extents.proofs.Chain.{entry_end, entry_next, entry_none}
use Rattle.choose_pieces.specs.Pass.{to_runs}
use Rattle.choose_pieces.proofs.Passing.{looked_empty, looked_exact, looked_next, no_better, not_among_rows}
use Rattle.choose_pieces.proofs.look_member.Goals as goal

pub loop-j-init : goal.loop-j-init
loop-j-init c = (c.requires.6, λ f best ds e x. x, c.least_of_use-least.ensures.0, c.least_of_use-least.ensures.1)

pub returns-then-hole-eq0 : goal.returns-then-hole-eq0
returns-then-hole-eq0 c =
    let a = c.args in
    let i = c.loop-j.invariant in
    let n = c.loop-j.now in (
      i.0,
      λ f x. i.1 f (run n.start n.count) (to_runs c.loop-j.five) x
          (looked_empty a.u a.amount _ _ _ (entry_none x c.loop-j.j c.entry-hole.result.start c.entry-hole.result.count (omega arith) c.entry-hole.ensures.0 c.if-hole-eq0.true)),
    )

pub loop-j-preserved-then-from-least : goal.loop-j-preserved-then-from-least
loop-j-preserved-then-from-least c =
    let a = c.args in
    let p = c.requires in
    let i = c.loop-j.invariant in
    let n = c.loop-j.now in
    let e = c.entry-hole.result in (
      i.0,
      λ f best ds x y. i.1 f best ds x
          (looked_next a.u a.amount (run e.start e.count) _ _ (run n.start n.count) best (run n.start n.count) (to_runs c.loop-j.five) ds (to_runs c.loop-j.five)
          (entry_next x c.loop-j.j e.start e.count (omega arith) c.entry-hole.ensures.0 c.if-hole-eq0.false)
          (no_better a.u a.amount e.start e.count p.3 p.5 (run n.start n.count) (omega (arith, i.2)))
          (not_among_rows a.u e.start e.count p.3 c.loop-j.five (omega (arith, i.3))) y),
      i.2,
      i.3,
    )

pub returns-then-now-amount : goal.returns-then-now-amount
returns-then-now-amount c =
    let a = c.args in
    let p = c.requires in
    let i = c.loop-j.invariant in
    let n = c.loop-j.now in
    let done = c.look-now in (
      done.ensures.0,
      λ f x. i.1 f (run done.result.start done.result.count) _ x
          (looked_next a.u a.amount (run c.entry-hole.result.start c.entry-hole.result.count) _ _ (run n.start n.count) _ _ (to_runs c.loop-j.five) _ _
          (entry_next x c.loop-j.j c.entry-hole.result.start c.entry-hole.result.count (omega arith) c.entry-hole.ensures.0 c.if-hole-eq0.false)
          done.ensures.1 done.ensures.2 (looked_exact a.u a.amount _ _ _ p.5 c.if-now-amount.true)),
    )

pub loop-j-preserved : goal.loop-j-preserved
loop-j-preserved c =
    let a = c.args in
    let i = c.loop-j.invariant in
    let n = c.loop-j.now in
    let done = c.look-now in (
      done.ensures.0,
      λ f best ds x y. i.1 f best ds x
          (looked_next a.u a.amount (run c.entry-hole.result.start c.entry-hole.result.count) _ _ (run n.start n.count) best _ (to_runs c.loop-j.five) ds _
          (entry_next x c.loop-j.j c.entry-hole.result.start c.entry-hole.result.count (omega arith) c.entry-hole.ensures.0 c.if-hole-eq0.false)
          done.ensures.1 done.ensures.2 y),
      c.least_of_use-least-in-loop-j.ensures.0,
      c.least_of_use-least-in-loop-j.ensures.1,
    )

pub returns : goal.returns
returns c =
    let a = c.args in
    let i = c.loop-j.invariant in
    let n = c.loop-j.now in
    let e : c.loop-j.j ≡ 26 = omega arith in
    (i.0, λ f x. i.1 f (run n.start n.count) (to_runs c.loop-j.five) x (looked_empty a.u a.amount _ _ _ (ap (λ (j : ℕ). drop j f) e ∙ entry_end x)))
