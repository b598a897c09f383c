use mathlib.Core.Path.{◌≡◌, refl, ap, ◌∙◌}
use Prim.Native.Nat.{ℕ, ◌+◌, max}
use native.Mathlib.Nat.{div-le_self, mod-le}
use native.Mathlib.Omega.{arith}
use lib.ListN.{drop}
use Rattle.model.specs.Model.{run}
use Rattle.free_extents.proofs.Chain.{entry_end, entry_next, entry_none}
use Rattle.call_lspace.proofs.Laws.{below_more, sums_below, summed_empty, summed_next}
use Rattle.call_lspace.proofs.add_member.Goals as goal

pub loop-j-init : goal.loop-j-init
loop-j-init c = ((λ n l b. below_more n (n + 0) c.args.sums (omega arith) b), λ f r e x. x)

pub returns-then-hole-eq0 : goal.returns-then-hole-eq0
returns-then-hole-eq0 c =
    let a = c.args in
    let i = c.loop-j.invariant in
    let hole = c.entry-hole in
    record {
      most = λ n l b. below_more _ _ c.loop-j.s (omega arith) (i.0 n l b);
      sums = λ f x. i.1 f c.loop-j.s x
          (summed_empty a.h _ _ (entry_none x c.loop-j.j hole.result.start hole.result.count (omega arith) hole.ensures.0 c.if-hole-eq0.true));
    }

-- the sums stay far below 64 bits
pub overflow_add-s : goal.overflow_add-s
overflow_add-s c =
    omega (arith, (c.loop-j.invariant.0 203347722240 (omega arith) c.requires.3).cylinders, div-le_self c.entry-hole.result.count c.args.h, c.entry-hole.ensures)

pub overflow_add-s-in-loop-j : goal.overflow_add-s-in-loop-j
overflow_add-s-in-loop-j c =
    omega (arith, (c.loop-j.invariant.0 203347722240 (omega arith) c.requires.3).odd, mod-le c.entry-hole.result.count c.args.h, c.entry-hole.ensures)

pub overflow_add-s-in-loop-j-2 : goal.overflow_add-s-in-loop-j-2
overflow_add-s-in-loop-j-2 c = omega (arith, (c.loop-j.invariant.0 203347722240 (omega arith) c.requires.3).many)

pub loop-j-preserved : goal.loop-j-preserved
loop-j-preserved c =
    let a = c.args in
    let i = c.loop-j.invariant in
    let s = c.loop-j.s in
    let j = c.loop-j.j in
    let hole = c.entry-hole in
    let x = hole.ensures in
    let ec = ap (λ (y : ℕ). s.cylinders + y) (c.from.ensures ∙ x.3) in
    let eo = ap (λ (y : ℕ). s.odd + y) (c.from-in-loop-j.ensures ∙ x.4) in
    let longest : c.max.result ≡ max s.long hole.result.count = omega arith in
    let t = c.loop-j-test.true in (
      (λ n l b. sums_below n j hole.result.count a.h s _ x.2 l ec eo refl longest (i.0 n l b)),
      λ f r e y. i.1 f r e
          (summed_next a.h (run hole.result.start hole.result.count) _ _ s _ r
          (entry_next e j hole.result.start hole.result.count (omega (arith, t)) x.0 c.if-hole-eq0.false) ec eo refl longest y),
    )

pub returns : goal.returns
returns c =
    let a = c.args in
    let i = c.loop-j.invariant in
    let e : c.loop-j.j ≡ 26 = omega arith in
    record {
      most = λ n l b. below_more _ _ c.loop-j.s (omega arith) (i.0 n l b);
      sums = λ f x. i.1 f c.loop-j.s x (summed_empty a.h _ _ (ap (λ (j : ℕ). drop j f) e ∙ entry_end x));
    }
