-- Extents and free extents, one after the other in a field of a record. Assumes nothing.
use Prim.Native.Nat.{ℕ, suc, ◌+◌, ◌-◌, ◌*◌, ◌≤◌}
use mathlib.Core.Path.{◌≡◌, ◌∙◌, ap, sym, ap₂, refl}
use mathlib.Core.List.{List, [], ◌∷◌, ◌++◌}
use lib.ListN.{length, take}
use Rattle.model.specs.Basics.{fill, flat, zeros}
use Rattle.model.specs.Model.{Extent, Geometry, Run}
use Rattle.rules.specs.Layout.{entry, extent_bytes, extents_bytes}
use Rattle.dscb_write.specs.Put.{put_at}
use Rattle.dscb_write.proofs.Filling.{row_cut, row_put, rows}

-- ---- extents

extents_rows : (g : Geometry) (i : ℕ) (es : List Extent) → extents_bytes g i es ≡ rows (extent_bytes g) i es
extents_rows g i [] = refl
extents_rows g i (e ∷ es) = ap (λ (x : List ℕ). extent_bytes g i e ++ x) (extents_rows g (suc i) es)

pub extent_more : (g : Geometry) (n i : ℕ) (es : List Extent) (e : Extent) (k : ℕ) → k ≡ i + length es → 10 * length es + 10 ≤ n
    → put_at (fill n (extents_bytes g i es)) (10 * length es) (extent_bytes g k e) ≡ fill n (extents_bytes g i (es ++ e ∷ []))
extent_more g n i es e k at h =
    ap₂ (λ (x : List ℕ) (m : ℕ). put_at (fill n x) (10 * length es) (extent_bytes g m e)) (extents_rows g i es) at
    ∙ row_put (extent_bytes g) 10 (λ j x. refl) n i es e h
    ∙ ap (fill n) (sym (extents_rows g i (es ++ e ∷ [])))

pub extents_first : (g : Geometry) (n i : ℕ) (es : List Extent) (k : ℕ) → 10 * k ≤ n
    → put_at (fill n (extents_bytes g i es)) (10 * k) (zeros (n - 10 * k)) ≡ fill n (extents_bytes g i (take k es))
extents_first g n i es k h =
    ap (λ (x : List ℕ). put_at (fill n x) (10 * k) (zeros (n - 10 * k))) (extents_rows g i es)
    ∙ row_cut (extent_bytes g) 10 (λ j x. refl) n i es k h
    ∙ ap (fill n) (sym (extents_rows g i (take k es)))

-- ---- entries

entries_rows : (g : Geometry) (i : ℕ) (f : List Run) → flat (entry g) f ≡ rows (λ j. entry g) i f
entries_rows g i [] = refl
entries_rows g i (x ∷ f) = ap (λ (l : List ℕ). entry g x ++ l) (entries_rows g (suc i) f)

pub entry_more : (g : Geometry) (n : ℕ) (f : List Run) (x : Run) → 5 * length f + 5 ≤ n
    → put_at (fill n (flat (entry g) f)) (5 * length f) (entry g x) ≡ fill n (flat (entry g) (f ++ x ∷ []))
entry_more g n f x h =
    ap (λ (l : List ℕ). put_at (fill n l) (5 * length f) (entry g x)) (entries_rows g 0 f)
    ∙ row_put (λ j. entry g) 5 (λ j y. refl) n 0 f x h
    ∙ ap (fill n) (sym (entries_rows g 0 (f ++ x ∷ [])))
