-- A plan made, and what its numbers are good for. Assumes nothing.
use mathlib.Core.Path.{◌≡◌, sym, ap, ◌∙◌, subst}
use mathlib.Core.List.{List, ◌++◌}
use Prim.Native.Nat.{ℕ, ◌+◌, ◌*◌, ◌≤◌, ◌<◌, min}
use native.Mathlib.Omega.{arith}
use lib.ListN.{length, length-append, take}
use lib.Seq.{slice, take-take, take_at}
use Rattle.update.specs.declared.Plan.{Plan}
use Rattle.model.specs.Model.{Geometry, fives_for, slots, tracks}
use Rattle.model.specs.Predicates.{All}
use Rattle.rules.specs.Predicates.{Limits}
use Rattle.bitmap.specs.Map.{free_from}
use Rattle.settle_slots.specs.Settling.{Chained, Lacks, Settles}
use Rattle.update.specs.Writing.{Reached}
use Rattle.update.specs.Commit.{NoPlan, Plans}
use Rattle.update.proofs.Kept.{place_in, place_low}
use Rattle.update.proofs.Put.{tail_inside}

-- the members that are kept stand as they were read
kept_same : (c c' : List ℕ) (was need j : ℕ) → j ≡ min was need → take was c' ≡ take was c → take j c ≡ take (min was need) c'
kept_same c c' was need j e f =
    sym (take-take j was c (omega arith)) ∙ ap (take j) (sym f) ∙ take-take j was c' (omega arith) ∙ ap (λ (i : ℕ). take i c') e

-- the members of the chain lie below the number of slots, as it was told
pub members_below : {g : Geometry} {t blank c : List ℕ} {was : ℕ} (told : ℕ) → told ≡ slots g → Chained g t blank c was → All (λ k. k < told) (take was c)
members_below {c = c} {was = was} told e h = subst (λ (n : ℕ). All (λ k. k < n) (take was c)) (sym e) h.inside

module _ (g : Geometry) (t m s s' blank c c' : List ℕ) (was told runs need : ℕ) (lo asked : ℕ) (limits : Limits g) (long : length blank ≡ 468) (chained : Chained g t blank c was)
    (et : told ≡ tracks g) (er : runs ≡ length (free_from m told 0)) (en : need ≡ fives_for runs) where
  need_told : need ≡ fives_for (length (free_from m (tracks g) 0))
  need_told = en ∙ ap fives_for (er ∙ ap (λ (i : ℕ). length (free_from m i 0)) et)

  -- no plan
  pub unplanned : Lacks g s s' c c' was need asked → NoPlan g t m s s' c' asked
  unplanned lacks = record {
    was = was;
    need = need;
    blank = blank;
    read = c;
    chained = chained;
    room = let a = chained.long in let b = ap length lacks.same_chain in let d = limits.most in omega arith;
    need_is = need_told;
    lacks = lacks;
  }

  -- a plan; `given` are the slots asked for, and what was behind them
  pub planned : (ks rest : List ℕ) (j left from at : ℕ) → j ≡ min was need → Reached t (take j c) lo from at → length ks + length rest ≡ 2 → Settles g s s' c c' ks was need asked left
      → Plans g t m s s' c' lo asked (record { was = was; need = need; left = left; from = from; at = at; given = ks ++ rest })
  planned ks rest j left from at ej reached two settles = record {
    blank = blank;
    read = c;
    chained = chained;
    room = let a = chained.long in let b = settles.long_chain in let d = limits.most in omega arith;
    need_is = need_told;
    reached = subst (λ (ks : List ℕ). Reached t ks lo from at) (kept_same c c' was need j ej settles.first) reached;
    two = length-append ks rest ∙ two;
    settles = subst (λ (l : List ℕ). Settles g s s' c c' l was need asked left) (sym (take_at ks rest asked settles.long_given)) settles;
  }

module _ {g : Geometry} {t m s s' c : List ℕ} {lo asked : ℕ} {p : Plan} (d : Plans g t m s s' c lo asked p) where
  pub end_long : p.was ≤ length c
  end_long = let a = d.chained.few in let b = d.room in omega arith

  -- what `clear` asks of the end of the chain
  pub end_inside : (k : ℕ) → k ≡ 140 * slots g → All (λ x. 140 * x + 140 ≤ k) (slice p.need p.was c)
  end_inside k e = tail_inside d.read c p.was p.need (slots g) k d.settles.tail d.chained.inside e

  -- what `finish` asks
  pub left_small : Limits g → p.left < 65536
  left_small limits = let a = d.settles.left_most in let b = limits.most in omega arith

  pub chain_fits : lo ≤ tracks g → All (λ k. k < slots g) (take p.need c)
      → (p.need ≤ length c) × All (λ k. k < slots g) (take p.need c) × (p.from ≤ p.need) × (p.at ≤ tracks g)
  chain_fits low inside =
      let a = d.settles.most in
      let b = d.room in
      (omega arith, inside, place_in t c p.was p.need lo p.from p.at d.reached, place_low t _ lo p.from p.at (tracks g) d.reached low)
