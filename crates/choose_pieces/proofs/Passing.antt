-- The pass over the free extents, turn by turn, and what it comes to. Assumes nothing.
use mathlib.Core.Path.{◌≡◌, refl, sym, ap, ◌∙◌, subst}
use mathlib.Core.Bool.{Bool, cond}
use mathlib.Core.List.{List, [], ◌∷◌, ◌++◌}
use Prim.Native.Nat.{ℕ, ◌+◌, ◌-◌, ◌*◌, ◌/◌, ◌≤◌, ◌<◌}
use native.Mathlib.Nat.{add-mul, div-lt_iff_lt-mul, lt-div-mul-add, mul-le-mul_right}
use native.Mathlib.Omega.{arith}
use lib.ListN.{drop, get_or, take, take-append-drop, get_or-map}
use Rattle.model.specs.Model.{Geometry, Run, run}
use Rattle.model.specs.Choice.{whole_in}
use Rattle.rules.specs.Predicates.{Limits}
use Rattle.dscb.specs.Records.{slot_bytes}
use Rattle.free_extents.specs.FreeList.{Entries}
use Rattle.free_extents.proofs.Chain.{lists_next}
use Rattle.free_extents.proofs.Walk.{Going, going_next}
use Rattle.choose_pieces.specs.declared.Units.{Units}
use Rattle.choose_pieces.specs.Pass.{LookedOver, Surveyed, better, best_after, entered, five_after, fits_better, no_run, no_units, padded, run_or_none, to_run, to_runs}
use Rattle.choose_pieces.proofs.Longest.{five_law, no_longer}
use Rattle.choose_pieces.proofs.BestFit.{best_law, exact_stays, too_short}

-- fewer tracks than k units have hold fewer units
few_units : (u a c k : ℕ) → 1 ≤ u → 1 ≤ k → c < k * u → (whole_in u (run a c)).count < k
few_units u a c k h some l =
    let d = lt-div-mul-add {a = a + u - 1} {b = u} h in
    let m = add-mul ((a + u - 1) / u) k u in
    let e : (a + c) / u < (a + u - 1) / u + k = (div-lt_iff_lt-mul h).1 (omega arith) in
    omega arith

-- ---- one free extent more

-- the free extents f, of which x is the first
pub looked_next : (u n : ℕ) (x : Run) (f rest : List Run) (best best' b : Run) (five five' d : List Run) → f ≡ x ∷ rest
    → b ≡ better n best (whole_in u x) → d ≡ entered (whole_in u x) five → LookedOver u n rest b best' d five' → LookedOver u n f best best' five five'
looked_next u n x f rest best best' b five five' d e p q r = record {
  best_is = ap (best_after u n best) e ∙ ap (λ (z : Run). best_after u n z rest) (sym p) ∙ r.best_is;
  five_is = λ h. ap (five_after u five) e ∙ ap (λ (z : List Run). five_after u z rest) (sym q) ∙ r.five_is h;
}

-- too short to fit better
pub no_better : (u n a c : ℕ) → 1 ≤ u → 1 ≤ n → (best : Run) → c < n * u → best ≡ better n best (whole_in u (run a c))
no_better u n a c pos some best k = sym (too_short n some best (whole_in u (run a c)) (few_units u a c n pos some k))

-- too short to be among the five longest; the same of the rows that the code holds
not_among : (u a c : ℕ) → 1 ≤ u → (five : List Run) → c < ((get_or five 4 no_run).count + 1) * u → five ≡ entered (whole_in u (run a c)) five
not_among u a c pos five k =
    sym (no_longer (whole_in u (run a c)) five (let l = few_units u a c ((get_or five 4 no_run).count + 1) pos (omega arith) k in omega arith))

pub not_among_rows : (u a c : ℕ) → 1 ≤ u → (rs : List Units) → c < ((get_or rs 4 no_units).count + 1) * u → to_runs rs ≡ entered (whole_in u (run a c)) (to_runs rs)
not_among_rows u a c pos rs k =
    let fifth : (get_or rs 4 no_units).count ≡ (get_or (to_runs rs) 4 no_run).count = ap (λ (r : Run). r.count) (sym (get_or-map to_run rs 4 no_units)) in
    not_among u a c pos (to_runs rs) (subst (λ (m : ℕ). c < (m + 1) * u) fifth k)

-- too short for a unit
module _ (u n a c : ℕ) (pos : 1 ≤ u) (some : 1 ≤ n) (k : c < u) where
  -- it has fewer tracks than any number of units
  below : (m : ℕ) → 1 ≤ m → c < m * u
  below m h = let w = mul-le-mul_right u h in omega arith

  pub same_best : (best : Run) → best ≡ better n best (whole_in u (run a c))
  same_best best = no_better u n a c pos some best (below n some)

  pub same_five : (five : List Run) → five ≡ entered (whole_in u (run a c)) five
  same_five five = not_among u a c pos five (below ((get_or five 4 no_run).count + 1) (omega arith))

-- ---- one after the other

best_append : (u n : ℕ) (b : Run) (f g : List Run) → best_after u n b (f ++ g) ≡ best_after u n (best_after u n b f) g
best_append u n b [] g = refl
best_append u n b (r ∷ f) g = best_append u n (better n b (whole_in u r)) f g

five_append : (u : ℕ) (d f g : List Run) → five_after u d (f ++ g) ≡ five_after u (five_after u d f) g
five_append u d [] g = refl
five_append u d (r ∷ f) g = five_append u (entered (whole_in u r) d) f g

-- a member of the chain, and those behind it
pub looked_more : (u n k : ℕ) (f : List Run) (best b best' : Run) (five d five' : List Run) → 1 ≤ n → LookedOver u n (take k f) best b five d → LookedOver u n (drop k f) b best' d five' → LookedOver u n f best best' five five'
looked_more u n k f best b best' five d five' pos x y = record {
  best_is = ap (best_after u n best) (sym (take-append-drop k f)) ∙ best_append u n best (take k f) (drop k f) ∙ ap (λ (z : Run). best_after u n z (drop k f)) x.best_is ∙ y.best_is;
  five_is = λ h. ap (five_after u five) (sym (take-append-drop k f)) ∙ five_append u five (take k f) (drop k f)
      ∙ ap (λ (z : List Run). five_after u z (drop k f)) (x.five_is (λ e. h (ap (λ (z : Run). z.count) (sym y.best_is ∙ exact_stays u n b (drop k f) pos e) ∙ e))) ∙ y.five_is h;
}

pub surveyed : (u k : ℕ) (f : List Run) (best : Run) (five : List Run) → 1 ≤ k → LookedOver u k f no_run best (padded 5 []) five → Surveyed u k f best five
surveyed u k f best five h x = record {
  fit = ap run_or_none (sym x.best_is) ∙ best_law u k f h;
  longest = λ e. sym (x.five_is (λ q. omega arith)) ∙ five_law u f;
}

-- the best after the test, from what the test says
pub better_is : (k : ℕ) (x y c : Run) (r : Bool) → r ≡ fits_better k x.count y.count → y ≡ c → cond r y x ≡ better k x c
better_is k x y c r e q = ap (λ (b : Bool). cond b y x) e ∙ ap (better k x) q

-- the units of a free extent of c tracks, as the code asks for them
pub unit_is_lem : (u s c : ℕ) (w : Run) → w ≡ whole_in u (run s (s + c - s)) → w ≡ whole_in u (run s c)
unit_is_lem u s c w e = e ∙ ap (λ (x : ℕ). whole_in u (run s x)) (let q : s + c - s ≡ c = omega arith in q)

-- no free extent is left
pub looked_empty : (u n : ℕ) (f : List Run) (best : Run) (five : List Run) → f ≡ [] → LookedOver u n f best best five five
looked_empty u n f best five e = record { best_is = ap (best_after u n best) e; five_is = λ h. ap (five_after u five) e }

-- the best fit is exact, so that nothing need be looked at
pub looked_exact : (u n : ℕ) (f : List Run) (best : Run) (five : List Run) → 1 ≤ n → best.count ≡ n → LookedOver u n f best best five five
looked_exact u n f best five pos e = record { best_is = exact_stays u n best f pos e; five_is = λ h. absurd (h e) }

-- what is known on the way through f: what the rest does to the best fit and the five longest, all of f does from the start
abbrev pub Onwards : ℕ → ℕ → List Run → List Run → Run → List Run → List Run → Type 0
Onwards u n f five₀ best five rest = (best' : Run) (five' : List Run) → LookedOver u n rest best best' five five' → LookedOver u n f no_run best' five₀ five'

pub onwards_next : (u n : ℕ) (f five₀ : List Run) (best b : Run) (five d : List Run) (rest : List Run) → 1 ≤ n → LookedOver u n (take 26 rest) best b five d → Onwards u n f five₀ best five rest → Onwards u n f five₀ b d (drop 26 rest)
onwards_next u n f five₀ best b five d rest pos x p b' d' z = p b' d' (looked_more u n 26 rest best b b' five d d' pos x z)

module _ (u n : ℕ) (f five₀ : List Run) (best : Run) (five : List Run) (start : five₀ ≡ padded 5 []) (pos : 1 ≤ n) where
  onwards_to : LookedOver u n f no_run best five₀ five → Surveyed u n f best five
  onwards_to x = surveyed u n f best five pos (subst (λ (y : List Run). LookedOver u n f no_run best y five) start x)

  pub onwards_done : Onwards u n f five₀ best five [] → Surveyed u n f best five
  onwards_done p = onwards_to (p best five (looked_empty u n [] best five refl))

  -- the member in slot k makes the best fit exact: those behind it need not be looked at
  pub onwards_exact : (g : Geometry) (t : List ℕ) (left k : ℕ) (b : Run) (d : List Run) → Limits g → 1 ≤ k → Going g t left k (Onwards u n f five₀ b d)
      → ((e : List Run) → Entries g.heads (slot_bytes t k) (take 26 e) → LookedOver u n (take 26 e) b best d five) → best.count ≡ n → Surveyed u n f best five
  onwards_exact g t left k b d limit h x here e =
      let y = going_next g t (Onwards u n f five₀ b d) left k x h left (omega arith) _ (Onwards u n f five₀ best five) (λ r z. onwards_next u n f five₀ b best d five r pos (here r z)) (λ m r. lists_next g t k r m limit) in
      onwards_to (y.known best five (looked_exact u n y.rest best five pos e))
