-- A format 5 whose entries are all shorter than a unit is passed over. Assumes nothing.
use mathlib.Core.Path.{◌≡◌, refl, sym, ap, ◌∙◌}
use mathlib.Core.List.{List, [], ◌∷◌}
use Prim.Native.Nat.{ℕ, suc, ◌+◌, ◌*◌, ◌≤◌, ◌<◌}
use native.Mathlib.Decide.{ℕ_discrete}
use native.Mathlib.Omega.{arith}
use lib.Bits.{and_le_l, and_le_r, bit_or, or_add_and}
use lib.ListN.{get_or, length}
use Rattle.model.specs.Basics.{get2}
use Rattle.model.specs.Model.{Run, run}
use Rattle.rules.specs.Reading.{entry_place, read_entry}
use Rattle.free_extents.specs.FreeList.{Entries}
use Rattle.choose_pieces.specs.Pass.{LookedOver, Shorter}
use Rattle.choose_pieces.proofs.Passing.{looked_empty, looked_next, same_best, same_five}

-- ---- the entries taken together

-- an or is 0 only where both are
or_none_lem : (x y : ℕ) → bit_or x y ≡ 0 → (x ≡ 0) × (y ≡ 0)
or_none_lem x y e =
    let s = or_add_and x y in
    let u = and_le_l x y in
    let v = and_le_r x y in
    (omega arith, omega arith)

-- the first n entries: c is 0 only where they have no cylinder, and none has more than d odd tracks
pub record Together (r : List ℕ) (c d n : ℕ) : Type 0 where
  pub cylinders : c ≡ 0 → (j : ℕ) → j < n → get2 r (entry_place j + 2) ≡ 0
  pub odd : (j : ℕ) → j < n → get_or r (entry_place j + 4) 0 ≤ d

pub together_none : (r : List ℕ) (c d : ℕ) → Together r c d 0
together_none r c d = record { cylinders = λ e j u. absurd (omega arith); odd = λ j u. absurd (omega arith) }

-- entry n too, which stands at place p
pub together_next : (r : List ℕ) (c d n p d' : ℕ) → p ≡ entry_place n → d ≤ d' → get_or r (p + 4) 0 ≤ d' → Together r c d n → Together r (bit_or c (bit_or (get_or r (p + 2) 0) (get_or r (p + 3) 0))) d' (n + 1)
together_next r c d n p d' at more most x = record {
  cylinders = λ e j u.
      let a = or_none_lem c (bit_or (get_or r (p + 2) 0) (get_or r (p + 3) 0)) e in
      let b = or_none_lem (get_or r (p + 2) 0) (get_or r (p + 3) 0) a.1 in
      let low : get_or r (p + 2 + 1) 0 ≡ get_or r (p + 3) 0 = ap (λ (i : ℕ). get_or r i 0) (let q : p + 2 + 1 ≡ p + 3 = omega arith in q) in
      let here : get2 r (p + 2) ≡ 0 = omega (arith, b.0, b.1) in
      elim (ℕ_discrete j n) [
        | yes k ↦ ap (λ (i : ℕ). get2 r (entry_place i + 2)) k ∙ ap (λ (i : ℕ). get2 r (i + 2)) (sym at) ∙ here
        | no k ↦ x.cylinders a.0 j (omega arith)
      ];
  odd = λ j u. elim (ℕ_discrete j n) [
    | yes k ↦ let e : get_or r (entry_place j + 4) 0 ≡ get_or r (p + 4) 0 = ap (λ (i : ℕ). get_or r (entry_place i + 4) 0) k ∙ ap (λ (i : ℕ). get_or r (i + 4) 0) (sym at) in omega arith
    | no k ↦ let l = x.odd j (omega arith) in omega arith
  ];
}

-- all of them: no cylinder, and fewer odd tracks than u
pub together_all : (r : List ℕ) (c d n u : ℕ) → 26 ≤ n → c ≡ 0 → d < u → Together r c d n → Shorter u r
together_all r c d n u all none few x h j k =
    let z = x.cylinders none j (omega arith) in
    let l = x.odd j (omega arith) in
    let e : get2 r (entry_place j + 2) * h ≡ 0 * h = ap (λ (i : ℕ). i * h) z in
    omega arith

-- ---- what it does

-- free extents that are all shorter than a unit leave the best fit and the five longest as they are
looked_short : (u n : ℕ) → 1 ≤ u → 1 ≤ n → (f : List Run) → ((j : ℕ) → j < length f → (get_or f j (run 0 0)).count < u) → (best : Run) (five : List Run) → LookedOver u n f best best five five
looked_short u n pos some [] s best five = looked_empty u n [] best five refl
looked_short u n pos some (r ∷ f) s best five =
    let k : r.count < u = s 0 (omega arith) in
    looked_next u n r (r ∷ f) f best best best five five five refl (same_best u n r.start r.count pos some k best) (same_five u n r.start r.count pos some k five)
    (looked_short u n pos some f (λ j l. s (suc j) (omega arith)) best five)

pub passed_over : (u n h : ℕ) (r : List ℕ) (f : List Run) (best : Run) (five : List Run) → 1 ≤ u → 1 ≤ n → Shorter u r → Entries h r f → LookedOver u n f best best five five
passed_over u n h r f best five pos some s x =
    looked_short u n pos some f
    (λ j k.
    let l : j < 26 = let w = x.few in omega arith in
    let e : (read_entry h r (entry_place j)).count ≡ (get_or f j (run 0 0)).count = ap (λ (y : Run). y.count) (x.at j l) in
    omega (arith, s h j l))
    best five
