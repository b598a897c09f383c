-- Pieces taken out of the map and added to the records, one after the other. Assumes nothing.
use mathlib.Core.Path.{◌≡◌, refl, sym, ap, ◌∙◌, subst}
use mathlib.Core.Bool.{Bool}
use mathlib.Core.List.{List, [], ◌∷◌, ◌++◌, map}
use Prim.Native.Nat.{ℕ, zero, suc, ◌+◌, ◌≤◌, ◌<◌, min}
use native.Mathlib.Numerals.{add-one}
use native.Mathlib.Omega.{arith}
use lib.ListN.{length, take, drop, get_or, length-append, length-map}
use lib.Seq.{drop-cons, length-take-le, take_all, take-suc}
use Rattle.model.specs.Basics.{bit}
use Rattle.model.specs.Model.{Extent, Geometry, Label, Run, covers, extent, run, times}
use Rattle.model.proofs.Lists.{All_at, sum_append}
use Rattle.model.specs.Predicates.{All}
use Rattle.model.proofs.Runs.{hit_below}
use Rattle.rules.specs.Slots.{with_extents}
use Rattle.bitmap.specs.Map.{Shows, Taken, Room}
use Rattle.bitmap.proofs.Held.{room_first, room_next, shows_same, shows_take, taken_true}
use Rattle.choose_pieces.specs.Grant.{row}
use Rattle.dscb_write.specs.Labels.{Format3, with_extent}
use Rattle.dscb_write.proofs.Following.{added_next}
use Rattle.dscb_write.proofs.Format3.{three_none}
use Rattle.set_extents.specs.Change.{InRecords, NoneBelow, TookPieces, granted}

abbrev no_run : Run
no_run = run 0 0

-- ---- the pieces as the code holds them

at_map : {A B : Type 0} (f : A → B) (xs : List A) (k : ℕ) (d : A) (b : B) → k < length xs → get_or (map f xs) k b ≡ f (get_or xs k d)
at_map f [] k d b u = absurd (omega arith)
at_map f (x ∷ xs) zero d b u = refl
at_map f (x ∷ xs) (suc k) d b u = at_map f xs k d b (omega arith)

module _ (rows : List (List ℕ)) (ps : List Run) (e : rows ≡ map row ps) where
  pub runs_length : length ps ≡ length rows
  runs_length = sym (length-map ps row) ∙ ap length (sym e)

  -- piece k starts at track s and has c tracks
  module _ (k s c : ℕ) (u : k < length rows) (first : s ≡ get_or (get_or rows k []) 0 0) (size : c ≡ get_or (get_or rows k []) 1 0) where
    row_is : get_or rows k [] ≡ row (get_or ps k no_run)
    row_is = let l = runs_length in ap (λ (x : List (List ℕ)). get_or x k []) e ∙ at_map row ps k no_run [] (omega arith)

    pub run_is : run s c ≡ get_or ps k no_run
    run_is =
        let a = first ∙ ap (λ (x : List ℕ). get_or x 0 0) row_is in
        let b = size ∙ ap (λ (x : List ℕ). get_or x 1 0) row_is in
        λ i. record { start = a i; count = b i }

-- ---- out of the map

-- the first k pieces have left the map, and the others are free
pub record Partly (n : ℕ) (ps : List Run) (k : ℕ) (m₀ m : List ℕ) : Type 0 where
  pub room : Room m n (drop k ps)
  pub held : (hs : List Run) → Shows m₀ n hs → Shows m n (take k ps ++ hs)

abbrev pub Taking : List (List ℕ) → ℕ → List ℕ → List ℕ → Type 0
Taking rows k m₀ m = (n : ℕ) (ps : List Run) → rows ≡ map row ps → All (λ p. p.start + p.count ≤ n) ps → Room m₀ n ps → Partly n ps k m₀ m

module _ (rows : List (List ℕ)) (m₀ m : List ℕ) where
  pub taking_next : (k s c : ℕ) → k < length rows → s ≡ get_or (get_or rows k []) 0 0 → c ≡ get_or (get_or rows k []) 1 0 → (m' : List ℕ) (r : Bool) → Taken m m' s (s + c) r
      → Taking rows k m₀ m → Taking rows (k + 1) m₀ m'
  taking_next k s c u first size m' r x before n ps e below room₀ =
      let b = before n ps e below room₀ in
      let l = runs_length rows ps e in
      let v : k < length ps = omega arith in
      let q = run_is rows ps e k s c u first size in
      let d : drop k ps ≡ run s c ∷ drop (suc k) ps = drop-cons ps k no_run v ∙ ap (λ (p : Run). p ∷ drop (suc k) ps) (sym q) in
      let room : Room m n (run s c ∷ drop (suc k) ps) = subst (Room m n) d b.room in
      let ends : s + c ≤ n = subst (λ (p : Run). p.start + p.count ≤ n) (sym q) (All_at (λ p. p.start + p.count ≤ n) no_run ps below k v) in
      let free = room_first m n s c (drop (suc k) ps) room ends in
      let made = x.made (taken_true m m' s (s + c) r free x) in
      subst (λ (j : ℕ). Partly n ps j m₀ m') (sym (add-one k))
      (record {
        room = room_next m m' n s c (drop (suc k) ps) room made;
        held = λ hs h.
            shows_same m' n (run s c ∷ (take k ps ++ hs)) (take (suc k) ps ++ hs)
            (λ t w. more t k ps s c v q hs)
            (shows_take m m' n s c (take k ps ++ hs) (b.held hs h) free made);
      })
    where
      more : (t k : ℕ) (ps : List Run) (s c : ℕ) → k < length ps → run s c ≡ get_or ps k no_run → (hs : List Run) → times t (run s c ∷ (take k ps ++ hs)) ≡ times t (take (suc k) ps ++ hs)
      more t k ps s c v q hs =
          let F : Run → ℕ = λ p. bit (covers p t) in
          let a = sum_append F (take k ps) hs in
          let b = sum_append F (take (suc k) ps) hs in
          let d = ap (times t) (take-suc ps k no_run v) ∙ sum_append F (take k ps) (get_or ps k no_run ∷ []) in
          let f = ap F q in
          omega arith

  pub took_all : length m ≡ length m₀ → (k : ℕ) → length rows ≤ k → Taking rows k m₀ m → TookPieces rows m₀ m
  took_all long k u b =
      record {
        long = long;
        held = λ n ps e below room hs h.
            subst (λ (xs : List Run). Shows m n (xs ++ hs)) (take_all k ps (let l = runs_length rows ps e in omega arith))
            ((b n ps e below room).held hs h);
      }

-- ---- the lowest track

-- none of the first k pieces has a track below lo
abbrev pub LowestSoFar : List (List ℕ) → ℕ → ℕ → Type 0
LowestSoFar rows k lo = (ps : List Run) → rows ≡ map row ps → NoneBelow lo (take k ps)

module _ (rows : List (List ℕ)) where
  pub lowest_next : (k s c lo lo' : ℕ) → k < length rows → s ≡ get_or (get_or rows k []) 0 0 → c ≡ get_or (get_or rows k []) 1 0 → lo' ≡ min lo s
      → LowestSoFar rows k lo → LowestSoFar rows (k + 1) lo'
  lowest_next k s c lo lo' u first size low before ps e t v =
      let l = runs_length rows ps e in
      let q = run_is rows ps e k s c u first size in
      let b = before ps e t (omega arith) in
      let d = ap (times t) (take-suc ps k no_run (omega arith)) ∙ sum_append (λ p. bit (covers p t)) (take k ps) (get_or ps k no_run ∷ []) in
      let f = ap (λ (p : Run). bit (covers p t)) q in
      let z = hit_below (run s c) t (omega arith) in
      let j = ap (λ (i : ℕ). times t (take i ps)) (add-one k) in
      omega arith

  pub lowest_all : (lo k : ℕ) → length rows ≤ k → LowestSoFar rows k lo → (ps : List Run) → rows ≡ map row ps → NoneBelow lo ps
  lowest_all lo k u b ps e = subst (NoneBelow lo) (take_all k ps (let l = runs_length rows ps e in omega arith)) (b ps e)

-- ---- into the records

-- a label has the same format 3 with one extent more, while there are no more than three
pub three_few : (g : Geometry) (l : Label) (e : Extent) (r : List ℕ) → length l.extents < 3 → Format3 g l r → Format3 g (with_extent e l) r
three_few g l e r h f = f ∙ sym (three_none g l (omega arith)) ∙ three_none g (with_extent e l) (let a = length-append l.extents (e ∷ []) in omega arith)

-- the first k pieces are in the records r1 and r3
abbrev pub Adding : Geometry → ℕ → List (List ℕ) → ℕ → ℕ → List ℕ → List ℕ → List ℕ → List ℕ → Type 0
Adding g kind rows n k a1 a3 r1 r3 =
    (l : Label) (ps : List Run) → length l.extents ≡ n → rows ≡ map row ps → InRecords g l a1 a3
    → InRecords g (with_extents (l.extents ++ take k (map (extent kind) ps)) l.ttr l) r1 r3

module _ (g : Geometry) (kind : ℕ) (rows : List (List ℕ)) (n : ℕ) (a1 a3 r1 r3 : List ℕ) where
  pub adding_next : (k s c : ℕ) → k < length rows → s ≡ get_or (get_or rows k []) 0 0 → c ≡ get_or (get_or rows k []) 1 0 → (q1 q3 : List ℕ)
      → ((l : Label) → length l.extents ≡ n + k → InRecords g l r1 r3 → InRecords g (with_extent (extent kind (run s c)) l) q1 q3)
      → Adding g kind rows n k a1 a3 r1 r3 → Adding g kind rows n (k + 1) a1 a3 q1 q3
  adding_next k s c u first size q1 q3 step before l ps h e x =
      let es = map (extent kind) ps in
      let d = extent kind no_run in
      let i = runs_length rows ps e in
      let j = length-map ps (extent kind) in
      let m : Label = with_extents (l.extents ++ take k es) l.ttr l in
      let z : length m.extents ≡ n + k = let y = length-append l.extents (take k es) in let w = length-take-le k es (omega arith) in omega arith in
      let q : extent kind (run s c) ≡ get_or es k d = ap (extent kind) (run_is rows ps e k s c u first size) ∙ sym (at_map (extent kind) ps k no_run d (omega arith)) in
      subst (λ (y : Label). InRecords g y q1 q3) (ap (λ (y : Extent). with_extent y m) q ∙ added_next l es k d (omega arith)) (step m z (before l ps h e x))

  pub added_all : (k : ℕ) → length rows ≤ k → Adding g kind rows n k a1 a3 r1 r3 → (l : Label) (ps : List Run) → length l.extents ≡ n → rows ≡ map row ps
      → InRecords g l a1 a3 → InRecords g (granted kind ps l) r1 r3
  added_all k u b l ps h e x =
      let i = runs_length rows ps e in
      let j = length-map ps (extent kind) in
      subst (λ (es : List Extent). InRecords g (with_extents (l.extents ++ es) l.ttr l) r1 r3) (take_all k (map (extent kind) ps) (omega arith)) (b l ps h e x)
