-- From what the pass has found to what is granted, option by option, and the turns of `whole_pieces`. Assumes nothing.
use mathlib.Core.Path.{◌≡◌, refl, sym, ap, ◌∙◌, subst}
use mathlib.Core.Bool.{Bool, true, false, cond}
use mathlib.Core.Option.{Option, none}
use mathlib.Core.List.{List, [], ◌∷◌, ◌++◌, map, append_assoc, append-nil}
use Prim.Native.Nat.{ℕ, zero, suc, ◌+◌, ◌-◌, ◌*◌, ◌≤◌, ◌<◌}
use native.Mathlib.Numerals.{add-one}
use native.Mathlib.Omega.{arith}
use borrow.Author.Tests.{leb-true, leb-false, le-leb, lt-leb}
use lib.ListN.{length, get_or, set, take, drop, length-map, length-take}
use lib.Seq.{take-nil}
use lib.Dec.{leb}
use Rattle.model.specs.Basics.{map_option}
use Rattle.model.specs.Model.{Run, run, Separate}
use Rattle.model.specs.Choice.{SpaceOption, alx, candidates, choose, contig, gather, insert_run, longest_first, mxig, no_option, or_none, scale, serving, wholes}
use Rattle.model.proofs.Lists.{by}
use Rattle.choose_pieces.specs.Grant.{granted_runs, row, no_pieces, grant_of}
use Rattle.choose_pieces.specs.declared.SpaceOption.{SpaceOption as Asked}
use Rattle.choose_pieces.specs.declared.SpaceOption.TheVariants.{NoOption, Contig, Mxig, Alx}
use Rattle.choose_pieces.specs.declared.Units.{Units}
use Rattle.choose_pieces.specs.Options.{serve_first, sought, to_option}
use Rattle.choose_pieces.specs.Pass.{no_units, to_run, to_runs, padded, Surveyed, Within}
use Rattle.choose_pieces.proofs.Gathering.{next_of, one_more_of, rows, stored_whole}
use Rattle.choose_pieces.proofs.Choosing.{best_within, five_within, found, not_found, several_of}

-- ---- those that serve are the first of the longest

serve_insert : (n : ℕ) (c : Run) (ds : List Run) → leb n c.count ≡ true → serve_first n (insert_run c ds) ≡ insert_run c (serve_first n ds)
serve_insert n c [] h = rw h
serve_insert n c (d ∷ ds) h =
    by (leb d.count c.count)
    (λ k. by (leb n d.count) (λ q. simp (h, k, q)) (λ q. simp (h, k, q)))
    (λ k.
    let q : leb n d.count ≡ true = le-leb n d.count (omega (arith, leb-true n c.count h, leb-false d.count c.count k)) in
    rw (k, q, k) (ap (λ (x : List Run). d ∷ x) (serve_insert n c ds h)))

serve_skip : (n : ℕ) (c : Run) (ds : List Run) → leb n c.count ≡ false → serve_first n (insert_run c ds) ≡ serve_first n ds
serve_skip n c [] h = rw h
serve_skip n c (d ∷ ds) h =
    by (leb d.count c.count)
    (λ k.
    let q : leb n d.count ≡ false = lt-leb n d.count (omega (arith, leb-false n c.count h, leb-true d.count c.count k)) in
    simp (h, k, q))
    (λ k. by (leb n d.count) (λ q. rw (k, q) (ap (λ (x : List Run). d ∷ x) (serve_skip n c ds h))) (λ q. rw (k, q)))

serve_longest : (n : ℕ) (cs : List Run) → serve_first n (longest_first cs) ≡ longest_first (serving n cs)
serve_longest n [] = refl
serve_longest n (c ∷ cs) =
    by (leb n c.count)
    (λ h. rw h (serve_insert n c (longest_first cs) h ∙ ap (insert_run c) (serve_longest n cs)))
    (λ h. rw h (serve_skip n c (longest_first cs) h ∙ serve_longest n cs))

-- places that are filled up do not serve
serve_padded : (m k n : ℕ) (ds : List Run) → m ≤ k → 1 ≤ n → take m (serve_first n (padded k ds)) ≡ take m (serve_first n ds)
unfolding padded
serve_padded zero k n ds h p = refl
serve_padded (suc m) zero n ds h p = absurd (omega arith)
serve_padded (suc m) (suc k) n [] h p = rw (lt-leb n 0 p)
serve_padded (suc m) (suc k) n (d ∷ ds) h p =
    by (leb n d.count) (λ q. rw q (ap (λ (x : List Run). d ∷ x) (serve_padded m k n ds (omega arith) p))) (λ q. rw q)

-- ---- the turns of `whole_pieces`

-- the first k candidates serve and were taken whole
pub record Taking (u n most : ℕ) (five : List Units) (g : List (List ℕ)) (k : ℕ) : Type 0 where
  pub few : k ≤ most
  pub so_far : take most (serve_first n (to_runs five)) ≡ to_runs (take k five) ++ take (most - k) (serve_first n (to_runs (drop k five)))
  pub places : g ≡ rows u (to_runs (take k five)) ++ drop k no_pieces

pub taking_none : (u n most : ℕ) (five : List Units) → Taking u n most five no_pieces 0
taking_none u n most five =
    let e : most ≡ most - 0 = omega arith in
    record { few = omega arith; so_far = ap (λ (x : ℕ). take x (serve_first n (to_runs five))) e; places = refl }

-- whole candidates in their places
wholes_placed : (u : ℕ) (ps : List Run) → rows u ps ++ drop (length ps) no_pieces ≡ grant_of (map_option (map (scale u)) (or_none ps))
unfolding grant_of
wholes_placed u [] = refl
wholes_placed u (p ∷ ps) = ap (λ (k : ℕ). rows u (p ∷ ps) ++ drop k no_pieces) (sym (length-map (p ∷ ps) (scale u)))

module _ {u n most : ℕ} {five : List Units} {g : List (List ℕ)} {k : ℕ} (t : Taking u n most five g k) (m : most ≤ 5) (l : length five ≡ 5) where
  abbrev all : List (List ℕ)
  all = grant_of (map_option (map (scale u)) (or_none (take most (serve_first n (to_runs five)))))

  done : take most (serve_first n (to_runs five)) ≡ to_runs (take k five) → g ≡ all
  done e =
      let few = t.few in
      let c : k ≡ length (to_runs (take k five)) = sym (length-map (take k five) to_run ∙ length-take k five ∙ omega arith) in
      t.places ∙ ap (λ (x : ℕ). rows u (to_runs (take k five)) ++ drop x no_pieces) c ∙ wholes_placed u (to_runs (take k five))
      ∙ ap (λ (ps : List Run). grant_of (map_option (map (scale u)) (or_none ps))) (sym e)

  -- as many as may be
  pub taking_full : most ≤ k → g ≡ all
  taking_full h =
      let w = to_runs (take k five) in
      let e : most - k ≡ 0 = omega arith in
      done (t.so_far ∙ ap (λ (x : ℕ). w ++ take x (serve_first n (to_runs (drop k five)))) e ∙ append-nil w)

  module _ (h : k < most) where
    abbrev d : Run
    d = to_run (get_or five k no_units)

    abbrev w : List Run
    w = to_runs (take k five)

    abbrev ds : List Run
    ds = to_runs (drop (suc k) five)

    next : take most (serve_first n (to_runs five)) ≡ w ++ take (most - k) (serve_first n (d ∷ ds))
    next = t.so_far ∙ ap (λ (x : List Run). w ++ take (most - k) (serve_first n x)) (next_of k five (omega arith) l)

    -- the next one does not serve, nor do those behind it
    pub taking_short : (get_or five k no_units).count < n → g ≡ all
    taking_short s =
        done
        (next ∙ ap (λ (b : Bool). w ++ take (most - k) (cond b (d ∷ serve_first n ds) [])) (lt-leb n d.count s)
        ∙ ap (λ (x : List Run). w ++ x) (take-nil (most - k)) ∙ append-nil w)

    pub taking_next : n ≤ (get_or five k no_units).count → Taking u n most five (set g k (row (scale u d))) (k + 1)
    taking_next s =
        let e : most - k ≡ suc (most - suc k) = omega arith in
        rw (add-one k)
        (record {
          few = h;
          so_far =
              next ∙ ap (λ (x : ℕ). w ++ take x (serve_first n (d ∷ ds))) e
              ∙ ap (λ (b : Bool). w ++ take (suc (most - suc k)) (cond b (d ∷ serve_first n ds) [])) (le-leb n d.count s)
              ∙ sym (append_assoc w (d ∷ []) (take (most - suc k) (serve_first n ds)))
              ∙ ap (λ (x : List Run). x ++ take (most - suc k) (serve_first n ds)) (sym (one_more_of k five (omega arith) l));
          places = stored_whole k five (omega arith) l u g t.places;
        })

-- ---- what the pass has found, and what is granted

pub sought_some : (o : SpaceOption) (n k : ℕ) → k ≡ sought o n → 1 ≤ n → 1 ≤ k
sought_some no_option n k e h = omega arith
sought_some contig n k e h = omega arith
sought_some mxig n k e h = omega arith
sought_some alx n k e h = omega arith

module _ (f : List Run) (t : ℕ) (apart : Separate 0 t f) (fits : t ≤ 65535) {u n : ℕ} {best : Run} {five : List Run} (unit : 1 ≤ u) (pos : 1 ≤ n) where
  -- no candidate has 65,536 units
  never : Surveyed u 65536 f best five → 1 ≤ best.count → ⊥
  never s h = let w = (best_within f t apart fits (omega arith) s h).1 in omega arith

  part_by : (o : SpaceOption) → Surveyed u (sought o n) f best five → 1 ≤ best.count → (best.start * u ≤ 65535) × (n * u ≤ 65535)
  part_by no_option s h = best_within f t apart fits pos s h
  part_by contig s h = best_within f t apart fits pos s h
  part_by mxig s h = absurd (never s h)
  part_by alx s h = absurd (never s h)

  one_by : (o : SpaceOption) → Surveyed u (sought o n) f best five → 1 ≤ best.count → set no_pieces 0 (row (scale u (run best.start n))) ≡ grant_of (granted_runs o u n f)
  unfolding granted_runs choose grant_of
  one_by no_option s h = rw (found f t apart fits pos s h)
  one_by contig s h = rw (found f t apart fits pos s h)
  one_by mxig s h = absurd (never s h)
  one_by alx s h = absurd (never s h)

  wholes_by : (most : ℕ) → most ≤ 5 → Surveyed u 65536 f best five → best.count ≡ 0 → or_none (take most (serve_first n five)) ≡ wholes most n (candidates u f)
  wholes_by most m s e =
      let c = candidates u f in
      ap or_none (ap (λ (x : List Run). take most (serve_first n x)) (s.longest e) ∙ serve_padded most 5 n (longest_first c) m pos ∙ ap (take most) (serve_longest n c))

  -- the pass has looked for the amount that the option seeks
  module _ (a : Asked) {k : ℕ} (amount : k ≡ sought (to_option a) n) (s : Surveyed u k f best five) where
    told : (x : Asked) → a ≡ x → Surveyed u (sought (to_option x) n) f best five
    told x e = subst (λ (y : ℕ). Surveyed u y f best five) (amount ∙ ap (λ (y : Asked). sought (to_option y) n) e) s

    abbrev Gives : List (List ℕ) → Type 0
    Gives r = r ≡ grant_of (granted_runs (to_option a) u n f)

    as_told : (x : Asked) → a ≡ x → (o : Option (List Run)) → o ≡ granted_runs (to_option x) u n f → Gives (grant_of o)
    as_told x e o q = ap grant_of (q ∙ ap (λ (y : Asked). granted_runs (to_option y) u n f) (sym e))

    pub part_fits : 1 ≤ best.count → (best.start * u ≤ 65535) × (n * u ≤ 65535)
    part_fits h = part_by (to_option a) (told a refl) h

    pub five_fit : best.count ≡ 0 → Within u five
    five_fit z = five_within f t apart fits (sought_some (to_option a) n k amount pos) s z

    -- the one piece, without an option and by CONTIG
    pub gives_one : 1 ≤ best.count → Gives (set no_pieces 0 (row (scale u (run best.start n))))
    gives_one h = one_by (to_option a) (told a refl) h

    pub gives_several : a ≡ NoOption → best.count ≡ 0 → Gives (grant_of (map_option (map (scale u)) (gather n five)))
    unfolding granted_runs
    gives_several e z = as_told NoOption e _ (ap (map_option (map (scale u))) (several_of f t apart fits pos (told NoOption e) z))

    pub gives_none : a ≡ Contig → best.count ≡ 0 → Gives no_pieces
    unfolding granted_runs grant_of
    gives_none e z = as_told Contig e none (rw (not_found f t apart fits pos (told Contig e) z))

    pub gives_longest : a ≡ Mxig → best.count ≡ 0 → Gives (grant_of (map_option (map (scale u)) (or_none (take 1 (serve_first n five)))))
    unfolding granted_runs
    gives_longest e z = as_told Mxig e _ (ap (map_option (map (scale u))) (wholes_by 1 (omega arith) (told Mxig e) z))

    pub gives_all : a ≡ Alx → best.count ≡ 0 → Gives (grant_of (map_option (map (scale u)) (or_none (take 5 (serve_first n five)))))
    unfolding granted_runs
    gives_all e z = as_told Alx e _ (ap (map_option (map (scale u))) (wholes_by 5 (omega arith) (told Alx e) z))
