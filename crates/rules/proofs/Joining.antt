-- What document 02 promises of an extend, [6]; the statements are specs/Joining. Assumes nothing.
use mathlib.Core.Path.{◌≡◌, refl, sym, ap, ap₂, ◌∙◌, subst}
use mathlib.Core.Bool.{Bool, true, false, not}
use mathlib.Core.Option.{Option, none, some}
use mathlib.Core.List.{List, [], ◌∷◌}
use Prim.Native.Nat.{ℕ, ◌+◌, ◌≤◌, ◌<◌}
use native.Mathlib.Nat.{add_assoc, add-zero}
use native.Mathlib.Omega.{arith}
use borrow.Author.Tests.{eq-eqb, le-leb, le-ltb, leb-false, leb-true, lt-ltb}
use lib.Dec.{T, eqb, leb, ltb, leb→le}
use lib.ListN.{length}
use Rattle.model.specs.Basics.{bit, sum_of}
use Rattle.model.specs.Choice.{no_option}
use Rattle.model.specs.Model.{Extent, Label, Run, Volume, overs, run}
use Rattle.model.proofs.Lists.{by, clash, is_true}
use Rattle.rules.specs.Calls.{Reply, accept, extend, extend_pieces, extend_set, given, grant, granted, joined, longer, rule, secondary_of, settled, track_after, unless}
use Rattle.rules.specs.Full.{RefusedExactly}
use Rattle.rules.specs.Joining.{EachExtends, Extended, ExtendedAfter, KeepsOneExtent, OneExtent, TenExactly, touches}
use Rattle.rules.specs.Predicates.{Valid}
use Rattle.rules.specs.Slots.{changed, found, without}
use Rattle.rules.specs.Table.{good_name}
use Rattle.rules.proofs.FoundSet.{found_good}
use Rattle.rules.proofs.Grants.{put_extended}
use Rattle.rules.proofs.Joined.{count_after_joining}
use Rattle.rules.proofs.Labels.{found_name}
use Rattle.rules.proofs.Placed.{Put, put_found}
use Rattle.rules.proofs.Released.{After, after_given, after_unless}

-- ---- one extend

module _ (v : Volume) (h : Valid v) (n : List ℕ) (l : Label) (f : found v n ≡ some l) where
  -- what it leaves is valid too
  abbrev P : Reply → Volume → Type 0
  P r w = Extended v n l r w × Valid w

  put_extends : (ps : List Extent) → grant v.geometry v.labels no_option (secondary_of l) ≡ some ps
      → (w : Volume) → Put v (without n v.labels) (longer ps l) w → P (granted (overs ps)) w
  put_extends ps gr w p = (
    record {
      pieces = ps;
      chosen = gr;
      reply = refl;
      label = p.label;
      there = put_found v n l f (longer ps l) refl w p;
      extents = p.extents;
      same_attributes = p.attributes;
      same_unit = p.unit;
      same_secondary = p.secondary;
      same_ttr = p.ttr;
    },
    p.valid,
  )

  after_extend : After P (rule v (extend n))
  unfolding rule
  after_extend =
      after_unless P (good_name n) 4 (given (found v n) 5 (extend_set v n))
      (λ good. subst (λ (o : Option Label). After P (given o 5 (extend_set v n))) (sym f)
      (after_unless P (leb 1 l.secondary) 8 _
      (λ s. after_given P (grant v.geometry v.labels no_option (secondary_of l)) 9 (extend_pieces v n l)
      (λ ps gr. after_unless P (leb (length (joined l.extents ps)) 16) 10 _
      (λ few. after_given P (changed v n (longer ps l)) 11 (accept (granted (overs ps)))
      (λ w e. put_extends ps gr w (put_extended v h n l f (leb→le 1 l.secondary s) ps gr (leb→le _ 16 few) w e)))))))

  accepted : (r : Reply) (w : Volume) → rule v (extend n) ≡ accept r w → P r w
  accepted r w q = subst (After P) q after_extend

pub each_extends : EachExtends
each_extends v n l r w h f q = (accepted v h n l f r w q).0

-- ---- 10

ten : (b : Bool) (r : Reply) (o : Option Volume) → RefusedExactly (unless b 10 (settled r o)) 10 (not b)
ten false r o = (λ e. refl, λ e. refl)
ten true r none = (λ e. absurd (let z : ◌≡◌ {A = ℕ} 11 10 = cc in omega arith), λ e. clash e refl)
ten true r (some w) = (λ e. absurd (let z : ◌≡◌ {A = ℕ} 0 1 = cc in omega arith), λ e. clash e refl)

pub ten_exactly : TenExactly
unfolding rule
ten_exactly v n l p ps h f s gr =
    let es = l.extents in
    let good : good_name n ≡ true = is_true (subst (λ (m : List ℕ). T (good_name m)) (found_name n v.labels l f) (found_good v h n l f).name) in
    let k : leb 1 l.secondary ≡ true = le-leb 1 l.secondary s in
    let c = count_after_joining es p ps in
    let most : ℕ = 16 + bit (touches es p.over.start) in
    let same : ltb most (length es + length (p ∷ ps)) ≡ not (leb (length (joined es (p ∷ ps))) 16)
    = by (leb (length (joined es (p ∷ ps))) 16)
    (λ b. let x : length (joined es (p ∷ ps)) ≤ 16 = leb-true _ _ b in rw b (le-ltb most (length es + length (p ∷ ps)) (omega arith)))
    (λ b. let x : 16 < length (joined es (p ∷ ps)) = leb-false _ _ b in rw b (lt-ltb most (length es + length (p ∷ ps)) (omega arith))) in
    rw (good, f, k, gr, same) (ten (leb (length (joined es (p ∷ ps))) 16) (granted (overs (p ∷ ps))) (changed v n (longer (p ∷ ps) l)))

-- ---- again and again

granted_is : (xs ys : List Run) → ◌≡◌ {A = Reply} (granted xs) (granted ys) → xs ≡ ys
granted_is xs ys e = cc

-- one extent and one piece after it are one extent
one_joined : (s c k : ℕ) (es ps : List Extent) → overs es ≡ run s c ∷ [] → overs ps ≡ run (s + c) k ∷ [] → overs (joined es ps) ≡ run s (c + k) ∷ []
one_joined s c k [] ps x y = absurd (let a = ap length x in omega arith)
one_joined s c k (e ∷ es) [] x y = absurd (let a = ap length y in omega arith)
one_joined s c k (e ∷ f ∷ es) (p ∷ ps) x y = absurd (let a = ap length x in omega arith)
one_joined s c k (e ∷ []) (p ∷ q ∷ ps) x y = absurd (let a = ap length y in omega arith)
one_joined s c k (e ∷ []) (p ∷ []) x y =
    let a : e.over ≡ run s c = cc in
    let b : p.over ≡ run (s + c) k = cc in
    let t : eqb p.over.start (track_after e) ≡ true = eq-eqb _ _ (ap (λ (r : Run). r.start) b ∙ ap (λ (r : Run). r.start + r.count) (sym a)) in
    rw t (ap₂ (λ (m n : Run). run m.start (m.count + n.count) ∷ []) a b)

one_stays : (v : Volume) → Valid v → (n : List ℕ) (s c k : ℕ) → OneExtent v n (run s c) → (w : Volume) → rule v (extend n) ≡ accept (granted (run (s + c) k ∷ [])) w
    → OneExtent w n (run s (c + k)) × Valid w
one_stays v h n s c k x w q =
    let y = accepted v h n x.label x.there (granted (run (s + c) k ∷ [])) w q in
    let z = y.0 in
    let ps : overs z.pieces ≡ run (s + c) k ∷ [] = sym (granted_is (run (s + c) k ∷ []) (overs z.pieces) z.reply) in (
      record {
        label = z.label;
        there = z.there;
        tracks = ap overs z.extents ∙ one_joined s c k x.label.extents z.pieces x.tracks ps;
      },
      y.1,
    )

pub keeps_one_extent : KeepsOneExtent
keeps_one_extent v n s c [] w h x e = subst (λ (u : Volume). OneExtent u n (run s (c + 0))) e (rw (add-zero c) x)
keeps_one_extent v n s c (k ∷ cs) w h x e =
    let y = one_stays v h n s c k x e.0 e.1 in
    let after : ExtendedAfter e.0 n (s + (c + k)) cs w = subst (λ (t : ℕ). ExtendedAfter e.0 n t cs w) (add_assoc s c k) e.2 in
    rw (sym (add_assoc c k (sum_of (λ j. j) cs))) (keeps_one_extent e.0 n s (c + k) cs w y.1 y.0 after)
