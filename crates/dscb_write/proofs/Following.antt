-- For callers: labels changed step by step, as their records are. Assumes nothing.
use Prim.Native.Nat.{ℕ, suc, ◌+◌, ◌-◌, ◌≤◌, ◌<◌}
use mathlib.Core.Path.{◌≡◌, ◌∙◌, sym, ap₂, ap}
use mathlib.Core.List.{List, [], ◌∷◌, ◌++◌, append-nil, append_assoc}
use native.Mathlib.Numerals.{add-one}
use lib.Seq.{append_snoc, take-suc, take_all, drop-cons}
use lib.ListN.{length, take, drop_of_length-le, get_or, drop}
use borrow.Author.Tests.{lt-leb, le-leb}
use Rattle.model.specs.Model.{Extent, Geometry, Label}
use Rattle.rules.specs.Calls.{cut, keep}
use Rattle.rules.specs.Layout.{format1, format3}
use Rattle.rules.specs.Slots.{with_extents}
use Rattle.rules.specs.Predicates.{GoodLabel}
use Rattle.dscb_write.specs.Labels.{Format1, with_extent}

-- ---- records and labels

pub good_is : (g : Geometry) (l : Label) (r : List ℕ) → GoodLabel g l → format1 g l ≡ r → Format1 g l r
good_is g l r x e = record { name_length = x.name_length; attributes_length = x.attributes_length; bytes = sym e }

pub same_extents : (g : Geometry) (l m : Label) → l.extents ≡ m.extents → format3 g l ≡ format3 g m
unfolding format3
same_extents g l m e = rw e

-- ---- extents added one after the other

pub added_none : (l : Label) (es : List Extent) → with_extents (l.extents ++ take 0 es) l.ttr l ≡ l
added_none l es = ap (λ (x : List Extent). with_extents x l.ttr l) (append-nil l.extents)

pub added_next : (l : Label) (es : List Extent) (j : ℕ) (d : Extent) → j < length es
    → with_extent (get_or es j d) (with_extents (l.extents ++ take j es) l.ttr l) ≡ with_extents (l.extents ++ take (j + 1) es) l.ttr l
added_next l es j d h =
    ap (λ (x : List Extent). with_extents x l.ttr l)
    (append_assoc l.extents (take j es) (get_or es j d ∷ [])
    ∙ ap (λ (x : List Extent). l.extents ++ x) (sym (take-suc es j d h) ∙ ap (λ (k : ℕ). take k es) (sym (add-one j))))

-- ---- the first tracks kept: whole extents, then a part of one

pub keep_whole : (u : ℕ) (es : List Extent) (i n : ℕ) (d : Extent) → i < length es → (get_or es i d).over.count ≤ n
    → take i es ++ keep u n (drop i es) ≡ take (i + 1) es ++ keep u (n - (get_or es i d).over.count) (drop (i + 1) es)
keep_whole u es i n d h fits =
    let e = get_or es i d in
    rw (drop-cons es i d h, le-leb e.over.count n fits)
    (sym (append_snoc (take i es) e (keep u (n - e.over.count) (drop (suc i) es)))
    ∙ ap₂ (λ (x : List Extent) (k : ℕ). x ++ keep u (n - e.over.count) (drop k es)) (sym (take-suc es i d h) ∙ ap (λ (k : ℕ). take k es) (sym (add-one i))) (sym (add-one i)))

pub keep_part : (u : ℕ) (es : List Extent) (i n : ℕ) (d : Extent) → i < length es → n < (get_or es i d).over.count
    → take i es ++ keep u n (drop i es) ≡ take i es ++ cut u n (get_or es i d)
keep_part u es i n d h less = let e = get_or es i d in rw (drop-cons es i d h, lt-leb e.over.count n less)

pub keep_all : (u : ℕ) (es : List Extent) (i n : ℕ) → length es ≤ i → take i es ++ keep u n (drop i es) ≡ es
keep_all u es i n h = rw (drop_of_length-le es {i = i} h, append-nil) (take_all i es h)
