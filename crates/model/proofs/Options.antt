-- Document 02, [1]: the options against the paper's words, in units of any size. Assumes nothing.
use mathlib.Core.Path.{◌≡◌, refl, sym, ap, ◌∙◌, subst}
use mathlib.Core.Bool.{Bool, cond}
use mathlib.Core.Option.{Option, none, some}
use mathlib.Core.List.{List, [], ◌∷◌, ◌++◌, Memᴰ}
use Prim.Native.Nat.{ℕ, zero, suc, ◌+◌, ◌≤◌, ◌<◌}
use native.Mathlib.Nat.{le_refl, lt_of_not-le}
use native.Mathlib.Decide.{dec_le}
use native.Mathlib.Omega.{arith}
use lib.ListN.{length, take, drop, length-take, length-drop, take-append-drop}
use lib.Dec.{T, leb, leb→le}
use Rattle.model.specs.Basics.{bit, map_option, sum_of}
use Rattle.model.specs.Choice.{SpaceOption, alx, choose_by, contig, first_part, longest_first, mxig, no_option, or_none, serving, shortest, wholes}
use Rattle.model.specs.Model.{Run, covers, total}
use Rattle.model.specs.Predicates.{All}
use Rattle.model.proofs.Choose.{Ahead, BestFit, Chosen, Full, Rising, Sorted, best_amount, best_fit, choose_amount, choose_law, from_best, none_empty, pass_all, rising_filter, serving_none, sorted, sorted_All, sorted_sum, unsorted_All}
use Rattle.model.proofs.Lists.{All_both, All_filter, All_left, All_map, All_right, by, filter_pass, some_is, sum_append, sum_filter}

-- no candidate is as long as the amount
abbrev pub NoneServes : ℕ → List Run → Type 0
NoneServes n cs = All (λ d. d.count < n) cs

too_short : (n : ℕ) (cs : List Run) → All (λ d. ⊥) (serving n cs) → NoneServes n cs
too_short n cs a = All_map (λ d. n ≤ d.count → ⊥) (λ d. d.count < n) (λ d x. lt_of_not-le x) cs (pass_all (λ d. ⊥) n cs a)

-- ---- CONTIG: "takes only a candidate at least as long as the amount, by the rule for one piece"

pub contig_some : (n : ℕ) (cs ps : List Run) → Rising cs → choose_by contig n cs ≡ some ps → BestFit n cs ps
contig_some n cs ps r e = go (shortest (serving n cs)) refl e
  where
    go : (o : Option Run) → shortest (serving n cs) ≡ o → map_option (λ c. first_part n c ∷ []) o ≡ some ps → BestFit n cs ps
    go none q e = absurd (let z : ◌≡◌ {A = ℕ} 0 1 = cc in omega arith)
    go (some c) q e = subst (BestFit n cs) (some_is _ ps e) (best_fit n cs c r q)

-- refused exactly when no candidate serves
pub contig_none : (n : ℕ) (cs : List Run) → choose_by contig n cs ≡ none → NoneServes n cs
contig_none n cs e = go (shortest (serving n cs)) refl e
  where
    go : (o : Option Run) → shortest (serving n cs) ≡ o → map_option (λ c. first_part n c ∷ []) o ≡ none → NoneServes n cs
    go none q e = too_short n cs (none_empty (λ d. ⊥) (serving n cs) q)
    go (some c) q e = absurd (let z : ◌≡◌ {A = ℕ} 0 1 = cc in omega arith)

pub none_contig : (n : ℕ) (cs : List Run) → NoneServes n cs → choose_by contig n cs ≡ none
none_contig n cs a = rw (serving_none n cs a)

-- ---- MXIG and ALX: whole candidates that serve, longest first

-- `ps` are taken and `left` are not. Together they are the candidates at least as long as the amount, whatever is counted over
-- them: none is lost and none doubled. They stand longest first, lowest start on ties, and one is left only where `most` are taken
pub record Wholes (most n : ℕ) (cs ps : List Run) : Type 0 where
  pub left : List Run
  pub those : (F : Run → ℕ) → sum_of F (ps ++ left) ≡ sum_of (λ c. cond (leb n c.count) (F c) 0) cs
  pub order : Sorted (ps ++ left)
  pub serve : All (λ p. n ≤ p.count) ps
  pub one : 1 ≤ length ps
  pub few : length ps ≤ most
  pub full : 1 ≤ length left → length ps ≡ most

sorted_left : (ps left : List Run) → Sorted (ps ++ left) → All (λ p. All (Ahead p) left) ps
sorted_left [] left s = tt
sorted_left (p ∷ ps) left s = (All_right (Ahead p) ps left s.0, sorted_left ps left s.1)

-- none that is left is longer than one taken, or as long and starts lower
pub none_longer : {most n : ℕ} {cs ps : List Run} (w : Wholes most n cs ps) → All (λ p. All (Ahead p) w.left) ps
none_longer {ps = ps} w = sorted_left ps w.left w.order

some_there : (qs ps : List Run) → or_none qs ≡ some ps → (qs ≡ ps) × (1 ≤ length qs)
some_there [] ps e = absurd (let z : ◌≡◌ {A = ℕ} 0 1 = cc in omega arith)
some_there (q ∷ qs) ps e = (some_is (q ∷ qs) ps e, omega arith)

serving_serve : (n : ℕ) (cs : List Run) → All (λ p. n ≤ p.count) (serving n cs)
serving_serve n cs = All_map (λ p. T (leb n p.count)) (λ p. n ≤ p.count) (λ p x. leb→le n p.count x) (serving n cs) (filter_pass (λ c. leb n c.count) cs)

serving_sum : (F : Run → ℕ) (n : ℕ) (cs : List Run) → sum_of F (serving n cs) ≡ sum_of (λ c. cond (leb n c.count) (F c) 0) cs
serving_sum F n [] = refl
serving_sum F n (c ∷ cs) =
    let i = serving_sum F n cs in
    by (leb n c.count) (λ h. rw h (ap (λ (x : ℕ). F c + x) i)) (λ h. rw h (i ∙ omega arith))

wholes_some : (most n : ℕ) (cs ps : List Run) → Rising cs → wholes most n cs ≡ some ps → Wholes most n cs ps
wholes_some most n cs ps r e =
    let qs = longest_first (serving n cs) in
    let x = some_there (take most qs) ps e in
    let l = length-take most qs in
    let d = length-drop most qs in
    let back : qs ≡ take most qs ++ drop most qs = sym (take-append-drop most qs) in
    let serve = sorted_All (λ p. n ≤ p.count) (serving n cs) (serving_serve n cs) in
    subst (Wholes most n cs) x.0
    (record {
      left = drop most qs;
      those = λ F. ap (sum_of F) (sym back) ∙ sorted_sum F (serving n cs) ∙ serving_sum F n cs;
      order = subst Sorted back (sorted (serving n cs) (rising_filter (λ c. leb n c.count) cs r));
      serve = All_left (λ p. n ≤ p.count) (take most qs) (drop most qs) (subst (All (λ p. n ≤ p.count)) back serve);
      one = x.1;
      few = omega arith;
      full = λ h. omega arith;
    })

none_there : (qs : List Run) → or_none qs ≡ none → length qs ≡ 0
none_there [] e = refl
none_there (q ∷ qs) e = absurd (let z : ◌≡◌ {A = ℕ} 0 1 = cc in omega arith)

length_sum : (qs : List Run) → length qs ≡ sum_of (λ r. 1) qs
length_sum [] = refl
length_sum (q ∷ qs) = let i = length_sum qs in omega arith

empty_All : (qs : List Run) → length qs ≡ 0 → All (λ d. ⊥) qs
empty_All [] e = tt
empty_All (q ∷ qs) e = absurd (omega arith)

-- "No candidate that serves is refusal 9", and only then is it
wholes_none : (most n : ℕ) (cs : List Run) → 1 ≤ most → wholes most n cs ≡ none → NoneServes n cs
wholes_none most n cs h e =
    let qs = longest_first (serving n cs) in
    let a = none_there (take most qs) e in
    let l = length-take most qs in
    let x = length_sum qs in
    let y = sorted_sum (λ r. 1) (serving n cs) in
    let z = length_sum (serving n cs) in
    too_short n cs (empty_All (serving n cs) (omega arith))

none_wholes : (most n : ℕ) (cs : List Run) → NoneServes n cs → wholes most n cs ≡ none
none_wholes most n cs a = rw (serving_none n cs a) (nothing most)
  where
    nothing : (k : ℕ) → or_none (take k []) ≡ none
    nothing zero = refl
    nothing (suc k) = refl

-- ---- MXIG: "gives the longest candidate whole, if it is at least the amount"

-- c is as long as d or longer; where they are as long, it starts no later
abbrev pub NoShorter : Run → Run → Type 0
NoShorter c d = (d.count ≤ c.count) × (d.count ≡ c.count → c.start ≤ d.start)

pub record LongestWhole (n : ℕ) (cs ps : List Run) : Type 0 where
  pub best : Run
  pub among : Memᴰ best cs
  pub enough : n ≤ best.count
  pub longest : All (NoShorter best) cs
  pub whole : ps ≡ best ∷ []

members : (cs : List Run) → All (λ c. Memᴰ c cs) cs
members [] = tt
members (c ∷ cs) = (Memᴰ.head refl, All_map (λ d. Memᴰ d cs) (λ d. Memᴰ d (c ∷ cs)) (λ d m. Memᴰ.tail m) cs (members cs))

-- the first of those that serve, longest first, is the longest of all
longest_of_all : (n : ℕ) (cs : List Run) (b : Run) (qs : List Run) → Rising cs → longest_first (serving n cs) ≡ b ∷ qs → LongestWhole n cs (b ∷ [])
longest_of_all n cs b qs r e =
    let p : Run → Bool = λ c. leb n c.count in
    let Serves : Run → Type 0 = λ c. Memᴰ c cs × (n ≤ c.count) in
    let s : Sorted (b ∷ qs) = subst Sorted e (sorted (serving n cs) (rising_filter p cs r)) in
    let m : All Serves (b ∷ qs) =
    subst (All Serves) e
    (sorted_All Serves (serving n cs) (All_both (λ c. Memᴰ c cs) (λ c. n ≤ c.count) (serving n cs) (All_filter (λ c. Memᴰ c cs) p cs (members cs)) (serving_serve n cs))) in
    let near : All (NoShorter b) (b ∷ qs) = ((le_refl b.count, λ q. le_refl b.start), All_map (Ahead b) (NoShorter b) (λ d a. (a.0, λ q. omega (arith, a.1 q))) qs s.0) in
    let k : n ≤ b.count = m.0.1 in
    record {
      best = b;
      among = m.0.0;
      enough = k;
      longest = All_map (λ d. n ≤ d.count → NoShorter b d) (NoShorter b)
          (λ d x. elim (dec_le n d.count) [ yes h ↦ x h | no h ↦ let l = lt_of_not-le h in (omega arith, λ q. absurd (omega arith)) ]) cs
          (pass_all (NoShorter b) n cs (unsorted_All (NoShorter b) (serving n cs) (subst (All (NoShorter b)) (sym e) near)));
      whole = refl;
    }

pub mxig_some : (n : ℕ) (cs ps : List Run) → Rising cs → choose_by mxig n cs ≡ some ps → LongestWhole n cs ps
mxig_some n cs ps r e = go (longest_first (serving n cs)) refl e
  where
    go : (qs : List Run) → longest_first (serving n cs) ≡ qs → or_none (take 1 qs) ≡ some ps → LongestWhole n cs ps
    go [] q e = absurd (let z : ◌≡◌ {A = ℕ} 0 1 = cc in omega arith)
    go (b ∷ qs) q e = subst (LongestWhole n cs) (some_is (b ∷ []) ps e) (longest_of_all n cs b qs r q)

pub mxig_none : (n : ℕ) (cs : List Run) → choose_by mxig n cs ≡ none → NoneServes n cs
mxig_none n cs e = wholes_none 1 n cs (omega arith) e

pub none_mxig : (n : ℕ) (cs : List Run) → NoneServes n cs → choose_by mxig n cs ≡ none
none_mxig n cs a = none_wholes 1 n cs a

-- ---- ALX: "every candidate that is at least the amount, whole, longest first; of more than five, the five longest"

pub alx_some : (n : ℕ) (cs ps : List Run) → Rising cs → choose_by alx n cs ≡ some ps → Wholes 5 n cs ps
alx_some n cs ps r e = wholes_some 5 n cs ps r e

pub alx_none : (n : ℕ) (cs : List Run) → choose_by alx n cs ≡ none → NoneServes n cs
alx_none n cs e = wholes_none 5 n cs (omega arith) e

pub none_alx : (n : ℕ) (cs : List Run) → NoneServes n cs → choose_by alx n cs ≡ none
none_alx n cs a = none_wholes 5 n cs a

-- ---- in general

from_wholes : (most n : ℕ) (cs ps : List Run) → most ≤ 5 → 1 ≤ n → Wholes most n cs ps → Chosen cs ps
from_wholes most n cs ps h pos w =
    record {
      inside = λ k.
          let F : Run → ℕ = λ r. bit (covers r k) in
          let a = w.those F in
          let b = sum_append F ps w.left in
          let c = serving_sum F n cs in
          let d = sum_filter F (λ c. leb n c.count) cs in
          omega arith;
      full = All_map (λ p. n ≤ p.count) Full (λ p k. omega arith) ps w.serve;
      least = w.one;
      most = let x = w.few in omega arith;
    }

pub option_law : (o : SpaceOption) (n : ℕ) (cs ps : List Run) → 1 ≤ n → Rising cs → All Full cs → choose_by o n cs ≡ some ps → Chosen cs ps
option_law no_option n cs ps h r f e = choose_law n cs ps h r f e
option_law contig n cs ps h r f e = from_best n cs ps h (contig_some n cs ps r e)
option_law mxig n cs ps h r f e = from_wholes 1 n cs ps (omega arith) h (wholes_some 1 n cs ps r e)
option_law alx n cs ps h r f e = from_wholes 5 n cs ps (omega arith) h (wholes_some 5 n cs ps r e)

-- at least the amount, by every option
first_serves : (n : ℕ) (ps : List Run) → 1 ≤ length ps → All (λ p. n ≤ p.count) ps → n ≤ total ps
first_serves n [] h a = absurd (omega arith)
first_serves n (p ∷ ps) h a = omega (arith, a.0)

pub option_amount : (o : SpaceOption) (n : ℕ) (cs ps : List Run) → 1 ≤ n → Rising cs → choose_by o n cs ≡ some ps → n ≤ total ps
option_amount no_option n cs ps h r e = let x = choose_amount n cs ps h r e in omega arith
option_amount contig n cs ps h r e = let x = best_amount n cs ps (contig_some n cs ps r e) in omega arith
option_amount mxig n cs ps h r e = let w = wholes_some 1 n cs ps r e in first_serves n ps w.one w.serve
option_amount alx n cs ps h r e = let w = wholes_some 5 n cs ps r e in first_serves n ps w.one w.serve
