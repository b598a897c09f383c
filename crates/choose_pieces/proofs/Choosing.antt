-- From what the pass has found to what is granted. Assumes nothing.
use mathlib.Core.Path.{◌≡◌, refl, sym, ap, ◌∙◌, subst}
use mathlib.Core.Bool.{Bool}
use mathlib.Core.Option.{Option, none, some}
use mathlib.Core.List.{List, [], ◌∷◌}
use Prim.Native.Nat.{ℕ, zero, suc, ◌+◌, ◌*◌, ◌/◌, ◌≤◌}
use native.Mathlib.Nat.{le_trans, div-mul-le_self, mul-le-mul_right}
use native.Mathlib.Omega.{arith}
use borrow.Author.Tests.{leb-true, le-leb, lt-leb}
use lib.ListN.{get_or, take}
use lib.Dec.{T, leb, leb→le}
use Rattle.model.specs.Basics.{map_option}
use Rattle.model.specs.Model.{Run, Separate}
use Rattle.model.specs.Choice.{whole_in, candidates, serving, shorter, shortest, longest_first, first_part, gather, most_pieces, otherwise, choose}
use Rattle.model.proofs.Lists.{by, All_filter, All_both, filter_pass, some_is}
use Rattle.model.specs.Predicates.{All}
use Rattle.model.proofs.Choose.{sorted_All}
use Rattle.choose_pieces.specs.Pass.{no_run, run_or_none, padded, Surveyed, Within}
use Rattle.choose_pieces.proofs.Gathering.{gather_padded}

-- ---- where the candidates lie

abbrev Ends : ℕ → ℕ → Run → Type 0
Ends u n c = (c.start + c.count) * u ≤ n

whole_ends : (u : ℕ) (r : Run) → 1 ≤ (whole_in u r).count → Ends u (r.start + r.count) (whole_in u r)
whole_ends u r h =
    let e : (whole_in u r).start + (whole_in u r).count ≡ (r.start + r.count) / u = omega arith in
    subst (λ (x : ℕ). x * u ≤ r.start + r.count) (sym e) (div-mul-le_self (r.start + r.count) u)

candidates_end : (u lo hi : ℕ) (f : List Run) → Separate lo hi f → All (Ends u hi) (candidates u f)
candidates_end u lo hi [] s = tt
candidates_end u lo hi (r ∷ f) s =
    let i = candidates_end u (suc (r.start + r.count)) hi f s.3 in
    by (leb 1 (whole_in u r).count)
    (λ h. rw h (le_trans (whole_ends u r (leb-true _ _ h)) s.2, i))
    (λ h. rw h i)

padded_at : (u n k : ℕ) (ds : List Run) → All (Ends u n) ds → (j : ℕ) → ((get_or (padded k ds) j no_run).start + (get_or (padded k ds) j no_run).count) * u ≤ n
unfolding padded
padded_at u n zero ds a j = omega arith
padded_at u n (suc k) [] a zero = omega arith
padded_at u n (suc k) [] a (suc j) = padded_at u n k [] tt j
padded_at u n (suc k) (d ∷ ds) a zero = a.0
padded_at u n (suc k) (d ∷ ds) a (suc j) = padded_at u n k ds a.1 j

shortest_All : (P : Run → Type 0) (cs : List Run) (c : Run) → All P cs → shortest cs ≡ some c → P c
shortest_All P [] c a e = absurd (let z : ◌≡◌ {A = ℕ} 0 1 = cc in omega arith)
shortest_All P (d ∷ ds) c a e = go (shortest ds) (λ x q. shortest_All P ds x a.1 q) e
  where
    go : (o : Option Run) → ((x : Run) → o ≡ some x → P x) → shorter d o ≡ some c → P c
    go none i e = subst P (some_is d c e) a.0
    go (some x) i e =
        by (leb d.count x.count) (λ h. subst P (some_is d c (rw h at e)) a.0) (λ h. subst P (some_is x c (rw h at e)) (i x refl))

-- ---- what the pass has found

module _ (f : List Run) (n : ℕ) {u k : ℕ} {best : Run} {five : List Run} (apart : Separate 0 n f) (fits : n ≤ 65535) (pos : 1 ≤ k) (s : Surveyed u k f best five) where
  pub five_within : best.count ≡ 0 → Within u five
  five_within e j =
      let c = candidates u f in
      le_trans
      (subst (λ (ds : List Run). ((get_or ds j no_run).start + (get_or ds j no_run).count) * u ≤ n) (sym (s.longest e))
      (padded_at u n 5 (longest_first c) (sorted_All (Ends u n) c (candidates_end u 0 n f apart)) j))
      fits

  pub found : 1 ≤ best.count → shortest (serving k (candidates u f)) ≡ some best
  unfolding run_or_none
  found h = sym s.fit ∙ rw (le-leb 1 best.count h)

  pub not_found : best.count ≡ 0 → shortest (serving k (candidates u f)) ≡ none
  unfolding run_or_none
  not_found e = sym s.fit ∙ rw (lt-leb 1 best.count (omega arith))

  pub best_within : 1 ≤ best.count → (best.start * u ≤ 65535) × (k * u ≤ 65535)
  best_within h =
      let c = candidates u f in
      let p : Run → Bool = λ d. leb k d.count in
      let a = All_both (Ends u n) (λ d. T (leb k d.count)) (serving k c) (All_filter (Ends u n) p c (candidates_end u 0 n f apart)) (filter_pass p c) in
      let b = shortest_All (λ d. Ends u n d × T (leb k d.count)) (serving k c) best a (found h) in
      let e = b.0 in
      let l = mul-le-mul_right u (leb→le k best.count b.1) in
      (omega arith, omega arith)

  -- several
  pub several_of : best.count ≡ 0 → gather k five ≡ choose k (candidates u f)
  unfolding choose
  several_of e =
      let c = candidates u f in
      ap (gather k) (s.longest e) ∙ gather_padded 5 k (longest_first c) pos
      ∙ sym (ap (λ (o : Option Run). otherwise (map_option (λ d. first_part k d ∷ []) o) (gather k (take most_pieces (longest_first c)))) (not_found e))
