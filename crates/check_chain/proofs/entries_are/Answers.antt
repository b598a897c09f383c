use lib.ListN.{drop, length, length-drop, length-take}
use Rattle.model.specs.Model.{run}
use Rattle.rules.specs.Layout.{entry}
use Rattle.rows.specs.Words.{all_are}
use Rattle.bitmap.proofs.Walk.{behind_label}
use mathlib.Core.Path.{◌≡◌, subst, sym, ap, ◌∙◌}
use native.Mathlib.Omega.{arith}
use Prim.Native.Nat.{ℕ, ◌+◌, ◌-◌, ◌*◌, ◌/◌}
use Rattle.model.specs.Basics.{part}
use Rattle.dscb.proofs.Records.{length_part}
use Rattle.dscb.proofs.Cutting.{bytes_part}
use Rattle.dscb.specs.Forms.{geometry_of}
use Rattle.check_chain.proofs.Entries.{EntriesGoing, entry_no, entry_yes, going_bad, going_done, going_ends, going_next}
use Rattle.check_chain.proofs.entries_are.Goals.{Else-not-is_entry}
use Rattle.check_chain.proofs.entries_are.Goals as goal

pub returns-then-free-n : goal.returns-then-free-n
returns-then-free-n c =
    let a = c.args in
    let x = a.x.now in
    let i = c.loop-p.invariant in
    let ok : c.none_from.result ≡ all_are 0 (drop (5 * i.0) x) = c.none_from.ensures ∙ ap (λ (k : ℕ). all_are 0 (drop k x)) i.1 in
    rw c.then_some.ensures
    (going_ends (geometry_of a.g) a.free_tracks.now a.n a.at (length x / 5) x i.0 c.loop-p.t c.run_ahead-free.result.from c.run_ahead-free.result.to c.none_from.result i.2 (omega (arith, c.requires.0)) i.3 c.run_ahead-free.ensures.0 c.if-free-n.true ok)

pub is_entry-requires : goal.is_entry-requires
is_entry-requires c =
    let a = c.args in
    let i = c.loop-p.invariant in
    let from = behind_label a.free_tracks.now a.n c.loop-p.t c.run_ahead-free.result.from c.run_ahead-free.result.to c.run_ahead-free.ensures.0 c.if-free-n.false c.requires.4 in
    (simp (length-take, length-drop) (omega (arith, c.requires.0, i.1, c.loop-p-test.true)), c.args.g.in_limits.tracks_most, omega (arith, from, c.run_ahead-free.ensures.0.high, c.requires.3))

pub returns-then-not-is_entry : goal.returns-then-not-is_entry
returns-then-not-is_entry c =
    let a = c.args in
    let g = geometry_of a.g in
    let x = a.x.now in
    let p = c.loop-p.p in
    let i = c.loop-p.invariant in
    let r = c.run_ahead-free in
    let e : p + 5 - p ≡ 5 = omega arith in
    let told = rw e at c.is_entry.ensures in
    going_bad g a.free_tracks.now a.n a.at (length x / 5) x i.0 c.loop-p.t r.result.from r.result.to (omega (arith, i.1, c.loop-p-test.true)) i.3 r.ensures.0 c.if-free-n.false
    (λ d. entry_no g c.args.g.in_limits.heads r.result.from (r.result.to - r.result.from) (part p 5 x) (sym told ∙ c.if-not-is_entry.true) (subst (λ (k : ℕ). entry g (run r.result.from (r.result.to - r.result.from)) ≡ part k 5 x) (sym i.1) d))

-- an entry more
more : (c : Else-not-is_entry) → EntriesGoing (geometry_of c.args.g) c.args.free_tracks.now c.args.n c.args.at (length c.args.x.now / 5) c.args.x.now (c.loop-p.invariant.0 + 1) c.run_ahead-free.result.to
more c =
    let a = c.args in
    let g = geometry_of a.g in
    let x = a.x.now in
    let p = c.loop-p.p in
    let i = c.loop-p.invariant in
    let r = c.run_ahead-free in
    let e : p + 5 - p ≡ 5 = omega arith in
    let told = rw e at c.is_entry.ensures in
    let here = entry_yes g c.args.g.in_limits.heads r.result.from (r.result.to - r.result.from) (part p 5 x) (length_part p 5 x (omega (arith, c.requires.0, i.1, c.loop-p-test.true))) (bytes_part p 5 x (λ k. (c.type_inv.x k).fits)) (sym told ∙ c.if-not-is_entry.false) in
    going_next g a.free_tracks.now a.n a.at (length x / 5) x i.0 c.loop-p.t r.result.from r.result.to (omega (arith, i.1, c.loop-p-test.true)) i.3 r.ensures.0 c.if-free-n.false (subst (λ (k : ℕ). entry g (run r.result.from (r.result.to - r.result.from)) ≡ part k 5 x) i.1 here)

pub loop-p-preserved : goal.loop-p-preserved
loop-p-preserved c =
    let i = c.loop-p.invariant in
    (i.0 + 1, omega (arith, i.1), omega (arith, i.1, c.loop-p-test.true), more (goal.at.loop-p-preserved c).Else-not-is_entry, c.run_ahead-free.ensures.1)

pub returns-else-not-is_entry : goal.returns-else-not-is_entry
returns-else-not-is_entry c =
    let a = c.args in
    let x = a.x.now in
    let i = c.loop-p.invariant in
    going_done (geometry_of a.g) a.free_tracks.now a.n a.at (length x / 5) x (i.0 + 1) c.run_ahead-free.result.to (omega (arith, i.1)) (omega (arith, i.1, c.loop-p-test.true)) (omega (arith, c.requires.0)) (more (goal.at.returns-else-not-is_entry c).Else-not-is_entry)
