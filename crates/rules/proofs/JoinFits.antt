-- An extend whose only piece joins is never refused for its extents or for a full VTOC: it has as many extents as before, and the tracks
-- are taken from the beginning of a free extent. Assumes nothing.
use mathlib.Core.Path.{◌≡◌, sym, ap, ◌∙◌, subst}
use mathlib.Core.Bool.{true, false}
use mathlib.Core.Option.{none, some}
use mathlib.Core.List.{List, [], ◌∷◌, ◌++◌}
use Prim.Native.Nat.{ℕ, suc, ◌+◌, ◌≤◌}
use native.Mathlib.Nat.{lt_of_not-le}
use native.Mathlib.Decide.{dec_le}
use native.Mathlib.Omega.{arith}
use borrow.Author.Tests.{le-leb, lt-leb}
use lib.Dec.{T, leb}
use lib.ListN.{length}
use Rattle.model.specs.Basics.{bit}
use Rattle.model.specs.Model.{Extent, Geometry, Label, Volume, covers, format0s, free, held, overs, runs_of, times, tracks}
use Rattle.model.specs.Predicates.{All}
use Rattle.model.proofs.Lists.{All_right, by_option, clash, is_true, sum_append}
use Rattle.model.proofs.RunCount.{fewer_gaps}
use Rattle.model.proofs.Runs.{hit_above, hit_below, hit_in}
use Rattle.rules.specs.Calls.{joined, longer, rule}
use Rattle.rules.specs.Full.{freed, full, needed}
use Rattle.rules.specs.Joining.{OnlyPieceJoins, touches}
use Rattle.rules.specs.Predicates.{GoodExtent, Valid}
use Rattle.rules.specs.Slots.{changed, found, without}
use Rattle.rules.specs.Table.{good_name}
use Rattle.rules.proofs.FoundSet.{found_good, found_sum}
use Rattle.rules.proofs.Full.{changed_full}
use Rattle.rules.proofs.Joined.{Touching, count_after_joining, joined_times, over_append, touching_is}
use Rattle.rules.proofs.Labels.{found_name}
use Rattle.rules.proofs.Valid.{held_times}

module _ (v : Volume) (h : Valid v) (n : List ℕ) (l : Label) (f : found v n ≡ some l) (p : Extent) (t : touches l.extents p.over.start ≡ true) where
  abbrev g : Geometry
  g = v.geometry

  abbrev rest : List Label
  rest = without n v.labels

  abbrev after : Label
  after = longer (p ∷ []) l

  as_many : length after.extents ≡ length l.extents
  as_many = let a = count_after_joining l.extents p [] in let b = ap bit t in omega arith

  held_after : (s : ℕ) → times s (held g (after ∷ rest)) ≡ bit (covers p.over s) + times s (held g v.labels)
  held_after s =
      let a = held_times g (after ∷ rest) s in
      let b = held_times g v.labels s in
      let c = found_sum v h n l f (λ m. times s (runs_of m)) in
      let d = joined_times s l.extents (p ∷ []) in
      omega arith

  -- the track before the piece is the set's
  before_held : (s : ℕ) → suc s ≡ p.over.start → 1 ≤ times s (held g v.labels)
  before_held s e =
      let x = touching_is l.extents p [] t in
      let good : All (GoodExtent g) (x.front ++ x.last ∷ []) = subst (All (GoodExtent g)) x.extents_are (found_good v h n l f).extents in
      let last_full = (All_right (GoodExtent g) x.front (x.last ∷ []) good).0.full in
      let a = hit_in x.last.over s (let b = ap (λ (q : Extent). q.over.start) (sym (first_is x)) in let c = x.behind in omega arith) (let b = ap (λ (q : Extent). q.over.start) (sym (first_is x)) in let c = x.behind in omega arith) in
      let b = ap (λ (es : List Extent). times s (overs es)) x.extents_are in
      let c = ap (times s) (over_append x.front (x.last ∷ [])) ∙ sum_append (λ r. bit (covers r s)) (overs x.front) (x.last.over ∷ []) in
      let d = found_sum v h n l f (λ m. times s (runs_of m)) in
      let i = held_times g v.labels s in
      omega arith
    where
      first_is : (x : Touching l.extents (p ∷ [])) → p ≡ x.first
      first_is x = let q = x.pieces_are in cc

  -- a free track is followed by one that is held as before
  next_same : (s : ℕ) → times s (held g (after ∷ rest)) ≡ 0 → (times s (held g v.labels) ≡ 0) × (times (suc s) (held g (after ∷ rest)) ≡ times (suc s) (held g v.labels))
  next_same s z =
      let a = held_after s in
      let b = held_after (suc s) in
      let none : bit (covers p.over (suc s)) ≡ 0
      = elim (dec_le p.over.start s) [
        | yes u ↦ elim (dec_le (p.over.start + p.over.count) (suc s)) [
          | yes w ↦ hit_above p.over (suc s) w
          | no w ↦ absurd (let k = hit_in p.over s u (let y = lt_of_not-le w in omega arith) in omega arith)
        ]
        | no u ↦ elim (dec_le p.over.start (suc s)) [
          | yes w ↦ absurd (let k = before_held s (let y = lt_of_not-le u in omega arith) in omega arith)
          | no w ↦ hit_below p.over (suc s) (lt_of_not-le w)
        ]
      ] in
      (omega arith, omega arith)

  not_full : full v rest (some l) (some after) ≡ false
  unfolding free
  not_full =
      let a = fewer_gaps (held g (after ∷ rest)) (held g v.labels) (tracks g) next_same in
      let b = h.long in
      let c = ap (λ (k : ℕ). bit (leb 4 k)) as_many in
      lt-leb (suc (length (format0s v) + freed v rest (some l) (some after))) (needed v rest (some l) (some after)) (omega arith)

  fits : changed v n after ≡ none → ⊥
  fits e = clash ((changed_full v h n l f (joined l.extents (p ∷ [])) l.ttr).0 e) not_full

pub only_piece_joins : OnlyPieceJoins
unfolding rule
only_piece_joins v n l p h f s gr t =
    let good : good_name n ≡ true = is_true (subst (λ (m : List ℕ). T (good_name m)) (found_name n v.labels l f) (found_good v h n l f).name) in
    let k : leb 1 l.secondary ≡ true = le-leb 1 l.secondary s in
    let few : leb (length (joined l.extents (p ∷ []))) 16 ≡ true = le-leb (length (joined l.extents (p ∷ []))) 16 (let a = as_many v h n l f p t in let b = (found_good v h n l f).most in omega arith) in
    by_option (changed v n (longer (p ∷ []) l))
    (λ e. absurd (fits v h n l f p t e))
    (λ w e. (w, rw (good, f, k, gr, few, e)))
