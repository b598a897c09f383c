-- Whole candidates, longest first, and the first part of the next: the turns of `fill`. Assumes nothing.
use mathlib.Core.Path.{◌≡◌, refl, sym, ap, ◌∙◌}
use mathlib.Core.Bool.{Bool, false, cond}
use mathlib.Core.Option.{Option, none, some}
use mathlib.Core.List.{List, [], ◌∷◌, ◌++◌, map, map-append, append_assoc}
use Prim.Native.Nat.{ℕ, zero, suc, ◌+◌, ◌-◌, ◌*◌, ◌≤◌, ◌<◌}
use native.Mathlib.Numerals.{add-one}
use native.Mathlib.Omega.{arith}
use borrow.Author.Tests.{leb-false, le-leb, lt-leb}
use lib.ListN.{length, get_or, set, take, drop, length-append, length-map, length-take, length-drop}
use lib.Seq.{take-suc, drop-cons, take-nil, set_at}
use lib.Dec.{leb}
use Rattle.std.specs.List.{fold, sum_by}
use Rattle.model.specs.Basics.{map_option}
use Rattle.model.specs.Model.{Run, run, total}
use Rattle.model.specs.Choice.{first_part, gather, scale}
use Rattle.model.proofs.Lists.{by}
use Rattle.choose_pieces.specs.Grant.{row, no_pieces, grant_of}
use Rattle.choose_pieces.specs.declared.Units.{Units}
use Rattle.choose_pieces.specs.Pass.{to_run, to_runs, no_run, no_units, padded, Small}

-- ---- laws of `gather`

-- places that are filled up give nothing
pub gather_padded : (k n : ℕ) (ds : List Run) → 1 ≤ n → gather n (padded k ds) ≡ gather n (take k ds)
unfolding padded
gather_padded zero n ds h = refl
gather_padded (suc k) n [] h =
    let e : n - 0 ≡ n = omega arith in
    rw (lt-leb n 0 h, e) (ap (map_option (λ ps. no_run ∷ ps)) (gather_padded k n [] h ∙ ap (gather n) (take-nil k)))
gather_padded (suc k) n (d ∷ ds) h =
    by (leb n d.count) (λ q. rw q)
    (λ q.
    let l : d.count < n = leb-false _ _ q in
    rw q (ap (map_option (λ ps. d ∷ ps)) (gather_padded k (n - d.count) ds (omega arith))))

gather_short : (n : ℕ) (ds : List Run) → total ds < n → gather n ds ≡ none
gather_short n [] h = refl
gather_short n (d ∷ ds) h =
    let k : leb n d.count ≡ false = lt-leb n d.count (omega arith) in
    rw (k, gather_short (n - d.count) ds (omega arith))

pub gathered_none : (u n : ℕ) (ds : List Run) → total ds < n → no_pieces ≡ grant_of (map_option (map (scale u)) (gather n ds))
unfolding grant_of
gathered_none u n ds h = rw (gather_short n ds h)

-- the counts as the code adds them, from a on
summed : (a : ℕ) (cs : List Units) → fold (λ a c. a + c.count) a cs ≡ a + total (to_runs cs)
summed a [] = omega arith
summed a (c ∷ cs) = summed (a + c.count) cs ∙ omega arith

pub sum_is : (cs : List Units) → sum_by (λ c. c.count) cs ≡ total (to_runs cs)
sum_is cs = summed 0 cs ∙ omega arith

pub sum_fits : (cs : List Units) → length cs ≡ 5 → Small (to_runs cs) → sum_by (λ c. c.count) cs < 4294967296
sum_fits cs l s = let a = most (to_runs cs) s in let b = length-map cs to_run in omega (arith, sum_is cs)
  where
    most : (ds : List Run) → Small ds → total ds ≤ 65535 * length ds
    most [] s = omega arith
    most (d ∷ ds) s = let a = s 0 in let b = most ds (λ k. s (suc k)) in omega arith

-- ---- the turns

-- the rows that pieces of whole candidates have
abbrev pub rows : ℕ → List Run → List (List ℕ)
rows u ps = map row (map (scale u) ps)

rows_snoc : (u : ℕ) (ps : List Run) (p : Run) (g : List (List ℕ)) → rows u (ps ++ (p ∷ [])) ++ g ≡ rows u ps ++ (row (scale u p) ∷ g)
rows_snoc u [] p g = refl
rows_snoc u (q ∷ ps) p g = ap (λ (x : List (List ℕ)). row (scale u q) ∷ x) (rows_snoc u ps p g)

-- the first k of five candidates, here and where whole candidates are taken (Options)
module _ (k : ℕ) (five : List Units) (h : k < 5) (l : length five ≡ 5) where
  -- the next candidate and those behind it
  pub next_of : to_runs (drop k five) ≡ to_run (get_or five k no_units) ∷ to_runs (drop (suc k) five)
  next_of = ap to_runs (drop-cons five k no_units (omega arith))

  -- one more candidate in front
  pub one_more_of : to_runs (take (suc k) five) ≡ to_runs (take k five) ++ (to_run (get_or five k no_units) ∷ [])
  one_more_of = ap to_runs (take-suc five k no_units (omega arith)) ∙ map-append to_run (take k five) (get_or five k no_units ∷ [])

  -- and the places that their pieces have
  module _ (u : ℕ) (g : List (List ℕ)) (places : g ≡ rows u (to_runs (take k five)) ++ drop k no_pieces) where
    -- a row stored at place k
    stored_at : (r : List ℕ) → set g k r ≡ rows u (to_runs (take k five)) ++ (r ∷ drop (suc k) no_pieces)
    stored_at r =
        let w = to_runs (take k five) in
        let n : length (rows u w) ≡ k = length-map (map (scale u) w) row ∙ length-map w (scale u) ∙ length-map (take k five) to_run ∙ length-take k five ∙ omega arith in
        let e : g ≡ rows u w ++ (get_or no_pieces k [] ∷ drop (suc k) no_pieces) = places ∙ ap (λ (x : List (List ℕ)). rows u w ++ x) (drop-cons no_pieces k [] (omega arith)) in
        ap (λ (x : List (List ℕ)). set x k r) e ∙ set_at (rows u w) (get_or no_pieces k []) (drop (suc k) no_pieces) r k n

    -- the piece of candidate k, whole
    pub stored_whole : set g k (row (scale u (to_run (get_or five k no_units)))) ≡ rows u (to_runs (take (suc k) five)) ++ drop (suc k) no_pieces
    stored_whole =
        let d = to_run (get_or five k no_units) in
        stored_at (row (scale u d)) ∙ sym (rows_snoc u (to_runs (take k five)) d (drop (suc k) no_pieces))
        ∙ sym (ap (λ (x : List Run). rows u x ++ drop (suc k) no_pieces) one_more_of)

-- the first k candidates were taken whole; the rest is to be had of the others
pub record PiecesFilling (u n : ℕ) (five : List Units) (rest : ℕ) (g : List (List ℕ)) (k : ℕ) : Type 0 where
  pub few : k < 5
  pub some : 1 ≤ rest
  pub enough : rest ≤ total (to_runs (drop k five))
  pub so_far : gather n (to_runs five) ≡ map_option (λ ps. to_runs (take k five) ++ ps) (gather rest (to_runs (drop k five)))
  pub places : g ≡ rows u (to_runs (take k five)) ++ drop k no_pieces

map_nothing : (o : Option (List Run)) → o ≡ map_option (λ ps. [] ++ ps) o
map_nothing none = refl
map_nothing (some ps) = refl

pub filling_none : (u n : ℕ) (five : List Units) → 1 ≤ n → n ≤ total (to_runs five) → PiecesFilling u n five n no_pieces 0
filling_none u n five h l = record { few = omega arith; some = h; enough = l; so_far = map_nothing (gather n (to_runs five)); places = refl }

module _ {u n : ℕ} {five : List Units} {rest : ℕ} {g : List (List ℕ)} {k : ℕ} (f : PiecesFilling u n five rest g k) (l : length five ≡ 5) where
  stored : (r : List ℕ) → set g k r ≡ rows u (to_runs (take k five)) ++ (r ∷ drop (suc k) no_pieces)
  stored r = stored_at k five f.few l u g f.places r

  next : to_runs (drop k five) ≡ to_run (get_or five k no_units) ∷ to_runs (drop (suc k) five)
  next = next_of k five f.few l

  module _ (h : (get_or five k no_units).count < rest) where
    left_over : rest - (get_or five k no_units).count ≤ total (to_runs (drop (suc k) five))
    left_over = let a = f.enough in let b = ap total next in omega arith

    further : suc k < 5
    further = go (drop (suc k) five) (length-drop (suc k) five) left_over
      where
        go : (ds : List Units) → length ds ≡ length five - suc k → rest - (get_or five k no_units).count ≤ total (to_runs ds) → suc k < 5
        go [] e t = absurd (omega arith)
        go (d ∷ ds) e t = omega arith

    one_more : to_runs (take (suc k) five) ≡ to_runs (take k five) ++ (to_run (get_or five k no_units) ∷ [])
    one_more = one_more_of k five f.few l

    taken_whole : gather n (to_runs five) ≡ map_option (λ ps. to_runs (take (suc k) five) ++ ps) (gather (rest - (get_or five k no_units).count) (to_runs (drop (suc k) five)))
    taken_whole =
        let d = to_run (get_or five k no_units) in
        let w = to_runs (take k five) in
        let o = gather (rest - d.count) (to_runs (drop (suc k) five)) in
        f.so_far ∙ ap (λ (x : List Run). map_option (λ ps. w ++ ps) (gather rest x)) next
        ∙ ap (λ (b : Bool). map_option (λ ps. w ++ ps) (cond b (Option.some (first_part rest d ∷ [])) (map_option (λ ps. d ∷ ps) o))) (lt-leb rest d.count h)
        ∙ regroup w d o ∙ ap (λ (x : List Run). map_option (λ ps. x ++ ps) o) (sym one_more)
      where
        regroup : (w : List Run) (d : Run) (o : Option (List Run)) → map_option (λ ps. w ++ ps) (map_option (λ ps. d ∷ ps) o) ≡ map_option (λ ps. (w ++ (d ∷ [])) ++ ps) o
        regroup w d none = refl
        regroup w d (some ps) = ap (λ (x : List Run). Option.some x) (sym (append_assoc w (d ∷ []) ps))

    pub filling_next : PiecesFilling u n five (rest - (get_or five k no_units).count) (set g k (row (scale u (to_run (get_or five k no_units))))) (k + 1)
    filling_next =
        rw (add-one k)
        (record { few = further; some = omega arith; enough = left_over; so_far = taken_whole; places = stored_whole k five f.few l u g f.places })

  module _ (h : rest ≤ (get_or five k no_units).count) where
    -- the last piece is the first part of candidate k
    last : Run
    last = run ((get_or five k no_units).start) rest

    gathered : gather n (to_runs five) ≡ Option.some (to_runs (take k five) ++ (last ∷ []))
    unfolding last
    gathered =
        let d = to_run (get_or five k no_units) in
        let w = to_runs (take k five) in
        f.so_far ∙ ap (λ (x : List Run). map_option (λ ps. w ++ ps) (gather rest x)) next
        ∙ ap (λ (b : Bool). map_option (λ ps. w ++ ps) (cond b (Option.some (first_part rest d ∷ [])) (map_option (λ ps. d ∷ ps) (gather (rest - d.count) (to_runs (drop (suc k) five)))))) (le-leb rest d.count h)

    pub filling_done : set g k (row (scale u (run ((get_or five k no_units).start) rest))) ≡ grant_of (map_option (map (scale u)) (gather n (to_runs five)))
    unfolding last grant_of
    filling_done =
        let w = to_runs (take k five) in
        let ps = w ++ (last ∷ []) in
        let count : length (map (scale u) ps) ≡ suc k =
        length-map ps (scale u) ∙ length-append w (last ∷ []) ∙ (let a = f.few in let b = length-map (take k five) to_run in let c = length-take k five in omega arith) in
        let places : rows u ps ++ drop (length (map (scale u) ps)) no_pieces ≡ set g k (row (scale u last)) =
        ap (λ (x : ℕ). rows u ps ++ drop x no_pieces) count ∙ rows_snoc u w last (drop (suc k) no_pieces) ∙ sym (stored (row (scale u last))) in
        rw gathered (sym places)
