-- The members of the chain that a change leaves alone: their free extents lie before the first track that changes. Assumes
-- nothing.
use mathlib.Core.Path.{◌≡◌, refl, sym, ap, ap₂, ◌∙◌, subst}
use mathlib.Core.Bool.{Bool, true, false}
use mathlib.Core.List.{List, ◌∷◌, ◌++◌}
use Prim.Native.Nat.{ℕ, zero, suc, ◌-◌, ◌*◌, ◌≤◌, ◌<◌, min}
use native.Mathlib.Omega.{arith}
use lib.ListN.{length, take, drop, get_or, length-take}
use lib.Seq.{drop-append_seam, drop-cons, get_or-take, take-append_seam, take-take}
use lib.Dec.{eqb}
use Rattle.model.specs.Basics.{bit, get2}
use Rattle.model.specs.Model.{Geometry, Label, Run, Volume, fives_for, free, gaps, held, run, runs, slots, tally, times, tracks}
use Rattle.model.proofs.Lists.{All_at, All_drop, All_take, sum_take}
use Rattle.model.specs.Predicates.{All}
use Rattle.model.proofs.Runs.{bit_zero}
use Rattle.rules.specs.Layout.{encode, fives, format5, head_or0, records}
use Rattle.rules.proofs.FreeBack.{entry_at}
use Rattle.rules.specs.Predicates.{Valid}
use Rattle.rules.specs.Sound.{FiveOk}
use Rattle.bitmap.specs.Map.{Shows, free_from, is_free}
use Rattle.bitmap.proofs.Counting.{bit_of}
use Rattle.bitmap.proofs.Walk.{free_from_zero}
use Rattle.dscb.specs.Records.{slot_bytes}
use Rattle.free_extents.proofs.Chain.{chain_below}
use Rattle.update.specs.Pending.{record_of}
use Rattle.update.proofs.Runs.{fives_drop, runs_kept, same_members}
use Rattle.update.proofs.Pending.{fives_of, slot_of}
use Rattle.update.specs.Writing.{Reached, chain_entry}
use Rattle.update.proofs.Slots.{chain_entry_is}

-- where a format 5 has an entry, it starts with the first track of that
first_start_lem : (g : Geometry) (f : List Run) (next : ℕ) → get2 (format5 g f next) 4 ≡ (get_or f 0 (run 0 0)).start
unfolding format5
first_start_lem g f next = ap (λ (r : Run). r.start) (entry_at g f next 0 (omega arith))

bits_same : (a b : Bool) → bit a ≡ bit b → a ≡ b
bits_same true true e = refl
bits_same true false e = absurd (omega arith)
bits_same false true e = absurd (omega arith)
bits_same false false e = refl

-- a track that is as it was
same_track : (m : List ℕ) (lo : ℕ) (hs : List Run) → Shows m lo hs → (t : ℕ) → t < lo → eqb (times t hs) 0 ≡ is_free m t
same_track m lo hs h t u =
    let e = h t u in
    let b = bit_of m t in
    let c = bit_zero (times t hs) (omega arith) in
    bits_same (eqb (times t hs) 0) (is_free m t) (omega arith)

more_members : (n i : ℕ) → 1 ≤ i → i < fives_for n → 26 * i < n
more_members n i p u = omega arith

free_is : (g : Geometry) (ls : List Label) → free g ls ≡ runs (λ t. eqb (times t (held g ls)) 0) 0 (tracks g)
unfolding free gaps
free_is g ls = refl

from_is : (m : List ℕ) (n a : ℕ) → free_from m n a ≡ runs (is_free m) a (n - a)
unfolding free_from
from_is m n a = refl

-- the two chains have their first j members in common
module _ (v w : Volume) (hv : Valid v) (hw : Valid w) (geo : w.geometry ≡ v.geometry) (m : List ℕ) (lo j from at : ℕ)
    (below : Shows m lo (held v.geometry v.labels)) (now : free_from m (tracks w.geometry) 0 ≡ free w.geometry w.labels)
    (same : take j v.chain ≡ take j w.chain) (later : 1 ≤ from) (inside : from < length (take j w.chain))
    (start : at ≡ get2 (slot_bytes (encode v) (chain_entry (take j w.chain) from)) 4) (low : at ≤ lo) where
  abbrev g : Geometry
  g = v.geometry

  abbrev n : ℕ
  n = tracks g

  abbrev f : List Run
  f = free g v.labels

  abbrev k : ℕ
  k = get_or v.chain from 0

  in_common : from < j
  in_common = let l = length-take j w.chain in omega (arith, inside)

  in_chain : from < length v.chain
  in_chain = let l = length-take j v.chain in omega (arith, inside, ap length same)

  -- fewer members are in common too
  pub common : (i : ℕ) → i ≤ j → take i v.chain ≡ take i w.chain
  common i u = sym (take-take i j v.chain u) ∙ ap (take i) same ∙ take-take i j w.chain u

  -- there are more free extents than the members before hold
  more : 26 * from < length f
  more = more_members (length f) from later (omega (arith, in_chain, hv.long))

  abbrev first : Run
  first = get_or f (26 * from) (run 0 0)

  split : drop (26 * from) f ≡ first ∷ drop (suc (26 * from)) f
  split = drop-cons f (26 * from) (run 0 0) more

  five : FiveOk g (records v) (record { slot = k; next = head_or0 (drop (suc from) v.chain); entries = take 26 (drop (26 * from) f) })
  five =
      let a : All (FiveOk g (records v)) (fives (drop from v.chain) (drop (26 * from) f))
      = subst (All (FiveOk g (records v))) (sym (fives_drop from v.chain f)) (All_drop (FiveOk g (records v)) from (fives v.chain f) (fives_of v hv)) in
      (subst (λ (ks : List ℕ). All (FiveOk g (records v)) (fives ks (drop (26 * from) f))) (drop-cons v.chain from 0 in_chain) a).0

  k_inside : k < slots g
  k_inside = All_at (λ j. j < slots g) 0 v.chain (chain_below v hv.slot_in) from in_chain

  at_is : at ≡ first.start
  at_is =
      start
      ∙ ap (λ (q : ℕ). get2 (slot_bytes (encode v) q) 4)
      (sym (chain_entry_is (take j w.chain) from) ∙ ap (λ (ks : List ℕ). get_or ks from 0) (sym same) ∙ get_or-take j v.chain from 0 in_common)
      ∙ ap (λ (r : List ℕ). get2 r 4) (slot_of v hv k k_inside ∙ sym five)
      ∙ first_start_lem g (take 26 (drop (26 * from) f)) (head_or0 (drop (suc from) v.chain))
      ∙ ap (λ (fs : List Run). (get_or (take 26 fs) 0 (run 0 0)).start) split

  -- they lie before that track, as they did
  joined : free w.geometry w.labels ≡ take (26 * from) f ++ free_from m n at
  joined =
      sym now
      ∙ ap (λ (x : Geometry). free_from m (tracks x) 0) geo
      ∙ free_from_zero m n
      ∙ runs_kept (λ t. eqb (times t (held g v.labels)) 0) (is_free m) n (26 * from) first.start first.count (drop (suc (26 * from)) f)
      (ap (drop (26 * from)) (sym (free_is g v.labels)) ∙ split)
      (λ t u. same_track m lo (held g v.labels) below t (omega (arith, at_is, low)))
      ∙ ap₂ (λ (x y : List Run). take (26 * from) x ++ y) (sym (free_is g v.labels)) (sym (from_is m n first.start) ∙ ap (free_from m n) (sym at_is))

  full : length (take (26 * from) f) ≡ 26 * from
  full = let l = length-take (26 * from) f in omega (arith, l, more)

  -- what is left for the members from there on
  pub chain_rest : free_from m n at ≡ drop (26 * from) (free w.geometry w.labels)
  chain_rest = sym (ap (drop (26 * from)) joined ∙ ap (λ (j : ℕ). drop j (take (26 * from) f ++ free_from m n at)) (sym full) ∙ drop-append_seam (take (26 * from) f) (free_from m n at))

  front : take (26 * from) f ≡ take (26 * from) (free w.geometry w.labels)
  front = sym (ap (take (26 * from)) joined ∙ ap (λ (j : ℕ). take j (take (26 * from) f ++ free_from m n at)) (sym full) ∙ take-append_seam (take (26 * from) f) (free_from m n at))

  -- the members before are right as they stand
  pub chain_kept : All (λ k. record_of v k ≡ record_of w k) (take from w.chain)
  chain_kept =
      subst (All (λ k. record_of v k ≡ record_of w k)) (common from (omega (arith, in_common)))
      (same_members g (records v) (records w) from v.chain w.chain f (free w.geometry w.labels) (common (suc from) (omega (arith, in_common))) front
      (fives_of v hv)
      (subst (λ (x : Geometry). All (FiveOk x (records w)) (fives w.chain (free w.geometry w.labels))) geo (fives_of w hw)))

-- the members before number `from` stay as they are, the others get the free extents from track `at` on
pub record Stay (v w : Volume) (m : List ℕ) (need from at : ℕ) : Type 0 where
  pub rest : free_from m (tracks w.geometry) at ≡ drop (26 * from) (free w.geometry w.labels)
  pub kept : All (λ j. record_of v j ≡ record_of w j) (take from w.chain)
  pub old : (k : ℕ) → tally k (take from w.chain) ≤ tally k (take need v.chain)

module _ (v w : Volume) (hv : Valid v) (hw : Valid w) (geo : w.geometry ≡ v.geometry) (m : List ℕ) (lo j need : ℕ) (fits : j ≤ need)
    (below : Shows m lo (held v.geometry v.labels)) (now : free_from m (tracks w.geometry) 0 ≡ free w.geometry w.labels)
    (same : take j v.chain ≡ take j w.chain) where
  pub stay : (from at : ℕ) → Reached (encode v) (take j w.chain) lo from at → Stay v w m need from at
  stay zero at r =
      record {
        rest = ap (free_from m (tracks w.geometry)) (r.none refl) ∙ now;
        kept = tt;
        old = λ k. omega arith;
      }
  stay (suc i) at r =
      let p : 1 ≤ suc i = omega arith in
      let u : suc i ≤ j = let l = length-take j w.chain in omega (arith, r.inside p) in
      record {
        rest = ap (λ (x : Geometry). free_from m (tracks x) at) geo
            ∙ chain_rest v w hv hw geo m lo j (suc i) at below now same p (r.inside p) (r.start p) (r.low p);
        kept = chain_kept v w hv hw geo m lo j (suc i) at below now same p (r.inside p) (r.start p) (r.low p);
        old = λ k.
            let a = sum_take (λ x. bit (eqb x k)) (suc i) (take need v.chain) in
            let b = ap (tally k)
            (take-take (suc i) need v.chain (omega arith)
            ∙ common v w hv hw geo m lo j (suc i) at below now same p (r.inside p) (r.start p) (r.low p) (suc i) u) in
            omega arith;
      }

-- the members of the old chain that stay are the first of the new one
pub same_chain : (c c' ks : List ℕ) (was need : ℕ) → take was c ≡ ks → take was c' ≡ take was c → take (min was need) ks ≡ take (min was need) (take need c')
same_chain c c' ks was need e f =
    let j = min was need in
    ap (take j) (sym e ∙ sym f) ∙ take-take j was c' (omega arith) ∙ sym (take-take j need c' (omega arith))

pub common_low : (n was need j : ℕ) (c : List ℕ) → j ≡ min was need → All (λ k. k < n) (take was c) → All (λ k. k < n) (take j c)
common_low n was need j c e a = subst (All (λ k. k < n)) (take-take j was c (omega arith)) (All_take (λ k. k < n) j (take was c) a)

-- the place is one of the chain, and of the map
pub place_in : (t c : List ℕ) (was need lo from at : ℕ) → Reached t (take (min was need) c) lo from at → from ≤ need
place_in t c was need lo zero at r = omega arith
place_in t c was need lo (suc i) at r = let u = r.inside (omega arith) in let l = length-take (min was need) c in omega arith

pub place_low : (t ks : List ℕ) (lo from at k : ℕ) → Reached t ks lo from at → lo ≤ k → at ≤ k
place_low t ks lo zero at k r u = let z = r.none refl in omega arith
place_low t ks lo (suc i) at k r u = let z = r.low (omega arith) in omega arith
