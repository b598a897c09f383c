-- Units and tracks: where a candidate lies. Assumes nothing.
use mathlib.Core.Path.{◌≡◌, sym, ap, ◌∙◌, subst}
use mathlib.Core.List.{List}
use Prim.Native.Nat.{ℕ, ◌+◌, ◌-◌, ◌*◌, ◌/◌, ◌≤◌}
use native.Mathlib.Nat.{div-one, le_refl, mul-le-mul, mul-le-mul_right}
use native.Mathlib.Omega.{arith}
use lib.ListN.{get_or, get_or-map}
use Rattle.model.specs.Model.{Run, run}
use Rattle.model.specs.Choice.{whole_in}
use Rattle.choose_pieces.specs.declared.Units.{Units}
use Rattle.choose_pieces.specs.Pass.{to_run, to_runs, no_run, no_units, Within, Small}

-- the code's sum for the whole units from one track up to another
pub whole_is : (u from to n : ℕ) → from ≤ to → n ≡ to / u - (from + u - 1) / u → run ((from + u - 1) / u) n ≡ whole_in u (run from (to - from))
whole_is u from to n h e =
    let q : to ≡ from + (to - from) = omega arith in
    ap (run ((from + u - 1) / u)) (e ∙ ap (λ (x : ℕ). x / u - (from + u - 1) / u) q)

-- units of one track
pub whole_one : (u from to : ℕ) → from ≤ to → u ≡ 1 → run from (to - from) ≡ whole_in u (run from (to - from))
whole_one u from to h e =
    let a : from ≡ (from + 1 - 1) / 1 = sym (div-one (from + 1 - 1) ∙ (let q : from + 1 - 1 ≡ from = omega arith in q)) in
    let b : (from + (to - from)) / 1 ≡ from + (to - from) = div-one (from + (to - from)) in
    let c : to - from ≡ (from + (to - from)) / 1 - (from + 1 - 1) / 1 = omega arith in
    let d : run from (to - from) ≡ whole_in 1 (run from (to - from)) = λ i. run (a i) (c i) in
    d ∙ ap (λ (x : ℕ). whole_in x (run from (to - from))) (sym e)

pub small : (u : ℕ) (ds : List Run) → 1 ≤ u → Within u ds → Small ds
small u ds pos w k =
    let d = get_or ds k no_run in
    let a = w k in
    let b = mul-le-mul (le_refl (d.start + d.count)) pos in
    omega arith

-- ---- the rows that the code holds

-- the first n units of candidate k have tracks of 16 bits
pub part_within : (u : ℕ) (rs : List Units) (k : ℕ) (c : Units) (n : ℕ) → Within u (to_runs rs) → c ≡ get_or rs k no_units → n ≤ c.count
    → (c.start * u ≤ 65535) × (n * u ≤ 65535)
part_within u rs k c n w e h =
    let a = subst (λ (r : Run). (r.start + r.count) * u ≤ 65535) (get_or-map to_run rs k no_units ∙ ap to_run (sym e)) (w k) in
    let b = mul-le-mul_right u h in
    (omega arith, omega arith)
