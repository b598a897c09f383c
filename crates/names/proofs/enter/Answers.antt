use Rattle.names.proofs.Laws.{enter_skip, enter_new, enter_old, tag_first}
use lib.ListN.{length, length-take, take}
use mathlib.Core.Bool.{Bool}
use mathlib.Core.List.{List}
use Prim.Native.Nat.{ℕ, ◌<◌}
use native.Mathlib.Omega.{arith}
use mathlib.Core.Path.{◌≡◌, sym, ap, ◌∙◌}
use Rattle.names.specs.Find.{find_slot, is_nothing}
use Rattle.names.proofs.enter.Goals as goal

pub returns-then-rec : goal.returns-then-rec
returns-then-rec c =
    enter_skip c.args.table.now c.args.tags.now c.args.seen.now c.record_at-rec.result.now c.args.k c.record_at-rec.ensures.0 c.requires.2 c.requires.4 c.if-rec.true

pub slice_bounds-name-end : goal.slice_bounds-name-end
slice_bounds-name-end c = let l = c.record_at-rec.ensures.1 in simp length-take (omega arith)

pub tag-t-requires : goal.tag-t-requires
tag-t-requires c = let l = c.record_at-rec.ensures.1 in simp length-take (omega arith)

pub slice_bounds-is_new-end-2 : goal.slice_bounds-is_new-end-2
slice_bounds-is_new-end-2 c = simp length-take (omega arith)

first : (tags : List ℕ) (k : ℕ) → k < length tags → length (take k tags) ≡ k
first tags k h = simp length-take (omega arith)

pub is_new-requires : goal.is_new-requires
is_new-requires c =
    rw (first c.args.tags.now c.args.k c.requires.1) (omega arith, tag_first c.args.table.now c.args.tags.now c.args.k c.requires.2, c.tag-t.ensures, c.requires.3, c.requires.4)

before : (t tags name : List ℕ) (k : ℕ) (b : Bool) → k < length tags → b ≡ is_nothing (find_slot t name (length (take k tags))) → is_nothing (find_slot t name k) ≡ b
before t tags name k b h e = sym (e ∙ ap (λ (n : ℕ). is_nothing (find_slot t name n)) (first tags k h))

pub returns-then-not-is_new : goal.returns-then-not-is_new
returns-then-not-is_new c =
    enter_old c.args.table.now c.args.tags.now c.args.seen.now c.record_at-rec.result.now c.args.k c.record_at-rec.ensures.0 c.requires.2 c.requires.4 c.if-rec.false (before _ _ _ c.args.k _ c.requires.1 c.is_new.ensures ∙ c.if-not-is_new.true)

pub returns : goal.returns
returns c =
    enter_new c.args.table.now c.args.tags.now c.args.seen.now c.record_at-rec.result.now c.args.k c.record_at-rec.ensures.0 c.requires.2 c.requires.4 c.if-rec.false c.tag-t.result _ c.requires.1 c.give_range.ensures c.tag-t.ensures (before _ _ _ c.args.k _ c.requires.1 c.is_new.ensures ∙ c.if-not-is_new.false)
