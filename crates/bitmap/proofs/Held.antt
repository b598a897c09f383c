-- The map against what is held. Assumes nothing.
use mathlib.Core.Path.{◌≡◌, ◌∙◌}
use mathlib.Core.Bool.{Bool, true}
use mathlib.Core.Logic.{◌⊎◌, inl, inr, ⊎_elim}
use mathlib.Core.List.{List, [], ◌∷◌}
use Prim.Native.Nat.{ℕ, ◌+◌, ◌-◌, ◌≤◌, ◌<◌}
use native.Mathlib.Omega.{arith}
use lib.Dec.{eqb}
use Rattle.model.specs.Basics.{bit}
use Rattle.model.specs.Model.{Run, run, runs, covers, times, gaps}
use Rattle.model.proofs.Lists.{by}
use Rattle.model.proofs.Runs.{canonical, runs_separate, runs_times, hit_in, hit_below, hit_above, bit_zero}
use Rattle.model.specs.Predicates.{Once}
use Rattle.bitmap.specs.Map.{free_bit, is_free, free_from, Shows, FreedBelow, Made, AllFree, Hit, Taken, Given, Room}
use Rattle.bitmap.proofs.Bits.{le_or_lt}
use Rattle.bitmap.proofs.Walk.{free_from_zero}
use Rattle.bitmap.proofs.Counting.{bit_of, free_le}

-- ---- `Shows` from call to call

pub shows_opened : (m m' : List ℕ) (n : ℕ) → FreedBelow m m' n → Shows m' n []
shows_opened m m' n o t u = let x = o.below t u in omega arith

-- a range made b: the track's bit, by whether the run covers the track
made_bit : (b : ℕ) (m m' : List ℕ) (s c t : ℕ) → Made b m m' s (s + c)
    → ((bit (covers (run s c) t) ≡ 0) × (free_bit m' t ≡ free_bit m t)) ⊎ ((bit (covers (run s c) t) ≡ 1) × (free_bit m' t ≡ b) × (s ≤ t) × (t < s + c))
made_bit b m m' s c t d =
    ⊎_elim
    (λ g. ⊎_elim (λ k. inl (hit_above (run s c) t k, d.after t k)) (λ k. inr (hit_in (run s c) t g k, d.inside t g k, g, k)) (le_or_lt (s + c) t))
    (λ g. inl (hit_below (run s c) t g, d.before t g))
    (le_or_lt s t)

pub shows_take : (m m' : List ℕ) (n s c : ℕ) (hs : List Run) → Shows m n hs → AllFree m s (s + c) → Made 0 m m' s (s + c) → Shows m' n (run s c ∷ hs)
shows_take m m' n s c hs h a d t u =
    let e = h t u in
    ⊎_elim (λ w. omega arith) (λ w. let z = a t w.2 w.3 in omega arith) (made_bit 0 m m' s c t d)

-- where a track is not free, holding the run too would hold that track twice
pub shows_hit : (m : List ℕ) (n s c : ℕ) (hs : List Run) → Shows m n hs → s + c ≤ n → Hit m s (s + c) → Once n (run s c ∷ hs) → ⊥
shows_hit m n s c hs h l k o =
    let t = k.at in
    let b = k.below in
    let e = h t (omega arith) in
    let x : bit (covers (run s c) t) ≡ 1 = hit_in (run s c) t k.from k.below in
    let y = k.off in
    let z = o t (omega arith) in
    omega arith

-- hs holds the run and what hs' holds: giving the run back leaves hs'
pub shows_give : (m m' : List ℕ) (n s c : ℕ) (hs hs' : List Run) → ((t : ℕ) → t < n → times t hs ≡ times t (run s c ∷ hs'))
    → Shows m n hs → Given m m' s (s + c) → Shows m' n hs'
shows_give m m' n s c hs hs' same h d t u =
    let e = h t u in
    let q = same t u in
    ⊎_elim (λ w. omega arith) (λ w. omega arith) (made_bit 1 m m' s c t d)

-- the order of what is held does not matter
pub shows_same : (m : List ℕ) (n : ℕ) (hs hs' : List Run) → ((t : ℕ) → t < n → times t hs ≡ times t hs') → Shows m n hs → Shows m n hs'
shows_same m n hs hs' same h t u = let e = h t u in let q = same t u in omega arith

pub shows_once : (m : List ℕ) (n : ℕ) (hs : List Run) → Shows m n hs → Once n hs
shows_once m n hs h t u = let e = h t u in omega arith

-- a run in two parts: for giving back the tail of an extent
pub covers_cut : (s c k t : ℕ) → k ≤ c → bit (covers (run s c) t) ≡ bit (covers (run s k) t) + bit (covers (run (s + k) (c - k)) t)
covers_cut s c k t h =
    let q : s + k + (c - k) ≡ s + c = omega arith in
    ⊎_elim
    (λ a. ⊎_elim
    (λ b. let x = hit_above (run s c) t b in let y = hit_above (run s k) t (omega arith) in let z = hit_above (run (s + k) (c - k)) t (omega arith) in omega arith)
    (λ b. let x = hit_in (run s c) t (omega arith) b in let y = hit_above (run s k) t a in let z = hit_in (run (s + k) (c - k)) t a (omega arith) in omega arith)
    (le_or_lt (s + c) t))
    (λ a.
    let z = hit_below (run (s + k) (c - k)) t a in
    ⊎_elim
    (λ b. let x = hit_in (run s c) t b (omega arith) in let y = hit_in (run s k) t b a in omega arith)
    (λ b. let x = hit_below (run s c) t b in let y = hit_below (run s k) t b in omega arith)
    (le_or_lt s t))
    (le_or_lt (s + k) t)

-- ---- THE MAP'S RUNS ARE THE FREE EXTENTS

pub map_gaps : (m : List ℕ) (n : ℕ) (hs : List Run) → Shows m n hs → runs (is_free m) 0 n ≡ gaps hs n
unfolding gaps
map_gaps m n hs h =
    canonical (λ t. eqb (times t hs) 0) 0 n (runs (is_free m) 0 n) (runs_separate (is_free m) 0 n)
    (λ t u v.
    let w : t < n = omega arith in
    let e = h t w in
    let a = runs_times (is_free m) 0 n t u v in
    let b = bit_of m t in
    let c = bit_zero (times t hs) (omega arith) in
    omega arith)

-- the same of the runs that the functions speak of
pub free_gaps : (m : List ℕ) (n : ℕ) (hs : List Run) → Shows m n hs → free_from m n 0 ≡ gaps hs n
free_gaps m n hs h = free_from_zero m n ∙ map_gaps m n hs h

-- ---- taking runs that are known to be free, one after the other

pub room_first : (m : List ℕ) (n s c : ℕ) (ps : List Run) → Room m n (run s c ∷ ps) → s + c ≤ n → AllFree m s (s + c)
room_first m n s c ps r h t a b = let x = hit_in (run s c) t a b in let y = r t (omega arith) in let z = free_le m t in omega arith

pub room_next : (m m' : List ℕ) (n s c : ℕ) (ps : List Run) → Room m n (run s c ∷ ps) → Made 0 m m' s (s + c) → Room m' n ps
room_next m m' n s c ps r d t u =
    let y = r t u in
    let z = free_le m t in
    ⊎_elim (λ w. omega arith) (λ w. omega arith) (made_bit 0 m m' s c t d)

-- free tracks are taken
pub taken_true : (m m' : List ℕ) (s e : ℕ) (r : Bool) → AllFree m s e → Taken m m' s e r → r ≡ true
taken_true m m' s e r a k = by r (λ h. h) (λ h. absurd (let z = k.hit h in let y = a z.at z.from z.below in let x = z.off in omega arith))
