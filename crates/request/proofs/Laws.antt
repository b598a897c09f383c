-- What a caller reads off a reply: refused or not, and what the pieces are. Assumes nothing.
use mathlib.Core.Path.{◌≡◌, refl, sym, ap, ◌∙◌, subst}
use mathlib.Core.Bool.{Bool, true, false, cond}
use mathlib.Core.Option.{Option, none, some}
use mathlib.Core.List.{List, [], ◌∷◌, ◌++◌, map}
use Prim.Native.Nat.{ℕ, zero, suc, ◌+◌, ◌≤◌}
use native.Mathlib.Omega.{arith}
use borrow.Author.Tests.{eq-eqb, eqb-false, eqb-true, le-leb, leb-false, lt-leb}
use lib.Dec.{eqb, leb, leb→le}
use lib.ListN.{length, drop, take, length-map}
use lib.Seq.{take_all, take-append-le}
use Rattle.model.specs.Basics.{all, bit, map_option, up_from}
use Rattle.model.specs.Choice.{SpaceOption}
use Rattle.model.specs.Model.{Extent, Geometry, Label, Run, Volume, covers, extent, free, held, overs, run, times, total, tracks}
use Rattle.model.proofs.Lists.{and_l, and_r, by, sum_append, true_is}
use Rattle.model.specs.Predicates.{All, Once}
use Rattle.model.proofs.Runs.{Inside, balance}
use Rattle.rules.specs.Calls.{Amount, Outcome, absolute, amount_of, given, in_cylinders, in_tracks, option_for, option_of, refuse, grant as granting}
use Rattle.rules.proofs.Grant.{grant_law}
use Rattle.rules.specs.Predicates.{Asks, GoodExtent, Valid}
use Rattle.rules.proofs.Valid.{free_once}
use Rattle.bitmap.specs.Map.{Shows, Room}
use Rattle.choose_pieces.specs.Grant.{granted_runs, grant_of, no_pieces, rows_in, row}
use Rattle.choose_pieces.proofs.Reply.{granted_pieces, none_back, overs_extents, array_back}
use Rattle.request.specs.Request.{is_known, pieces_of, type_of, Good}
use Rattle.request.proofs.Granting.{runs_back}

-- ---- what may be asked for

-- 7 for an unknown option
unknown_option : (option : ℕ) → 4 ≤ option → option_of option ≡ none
unknown_option zero h = absurd (omega arith)
unknown_option (suc zero) h = absurd (omega arith)
unknown_option (suc (suc zero)) h = absurd (omega arith)
unknown_option (suc (suc (suc zero))) h = absurd (omega arith)
unknown_option (suc (suc (suc (suc k)))) h = refl

no_option_lem : (s n option : ℕ) → 1 ≤ option → option_for (absolute s n) option ≡ none
no_option_lem s n zero h = absurd (omega arith)
no_option_lem s n (suc k) h = refl

-- 7 for a kind or an option that is not known
pub unknown_asked : (kind start n option : ℕ) (k : Amount → SpaceOption → Outcome) → is_known kind option ≡ false
    → given (amount_of kind start n) 7 (λ a. given (option_for a option) 7 (k a)) ≡ refuse 7
unknown_asked zero start n option k e = rw (unknown_option option (leb-false option 3 e))
unknown_asked (suc zero) start n option k e = rw (unknown_option option (leb-false option 3 e))
unknown_asked (suc (suc zero)) start n option k e = rw (no_option_lem start n option (leb-false option 0 e))
unknown_asked (suc (suc (suc j))) start n option k e = refl

-- no option is above none
pub none_only : (option : ℕ) → eqb option 0 ≡ leb option 0
none_only option =
    by (eqb option 0)
    (λ h. let e = eqb-true option 0 h in h ∙ sym (le-leb option 0 (omega arith)))
    (λ h. let e = eqb-false option 0 h in h ∙ sym (lt-leb option 0 (omega arith)))

-- a kind and an option that are known
pub known_kind : (kind option : ℕ) → is_known kind option ≡ true → kind ≤ 2
known_kind kind option e = leb→le kind 2 (and_l (leb kind 2) (leb option (cond (eqb kind 2) 0 3)) (true_is e))

most_option : (kind option : ℕ) → is_known kind option ≡ true → option ≤ cond (eqb kind 2) 0 3
most_option kind option e = leb→le option (cond (eqb kind 2) 0 3) (and_r (leb kind 2) (leb option (cond (eqb kind 2) 0 3)) (true_is e))

pub known_option : (kind option : ℕ) → is_known kind option ≡ true → option ≤ 3
known_option kind option e =
    by (eqb kind 2)
    (λ h. let k : option ≤ 0 = rw h at (most_option kind option e) in omega arith)
    (λ h. rw h at (most_option kind option e))

-- the option of an absolute request
pub absolute_option : (kind option : ℕ) → is_known kind option ≡ true → kind ≡ 2 → option ≡ 0
absolute_option kind option e k =
    let h : option ≤ 0 = rw (eq-eqb kind 2 k) at (most_option kind option e) in
    omega arith

-- a secondary amount that is not 0
pub secondary_asks : (g : Geometry) (unit sec : ℕ) → 1 ≤ sec → Asks g (cond (eqb unit 0xC0) (in_cylinders sec) (in_tracks sec))
secondary_asks g unit sec h = by (eqb unit 0xC0) (λ e. rw e h) (λ e. rw e h)

-- ---- the extents are the pieces, all of one type

typed_back : (b : ℕ) (o : Option (List Run)) (x : Option (List Extent)) → x ≡ map_option (map (extent b)) o → x ≡ map_option (map (extent b)) (map_option overs x)
typed_back b o x e = e ∙ ap (map_option (map (extent b))) (runs_back b o ∙ ap (map_option overs) (sym e))

module _ (g : Geometry) (ls : List Label) (o : SpaceOption) where
  pub granted_typed : (a : Amount) → granting g ls o a ≡ map_option (map (extent (type_of a))) (pieces_of g ls o a)
  unfolding granting pieces_of
  granted_typed (in_tracks n) = typed_back 0x01 (granted_runs o 1 n (free g ls)) _ (granted_pieces o 0x01 1 n (free g ls))
  granted_typed (in_cylinders n) = typed_back 0x81 (granted_runs o g.heads n (free g ls)) _ (granted_pieces o 0x81 g.heads n (free g ls))
  granted_typed (absolute s n) = go (all (λ t. eqb (times t (held g ls)) 0) (up_from s n))
    where
      go : (x : Bool) → cond x (some (extent 0x01 (run s n) ∷ [])) none ≡ map_option (map (extent 0x01)) (map_option overs (cond x (some (extent 0x01 (run s n) ∷ [])) none))
      go true = refl
      go false = refl

  pub granted_some : (a : Amount) (ps : List Run) → pieces_of g ls o a ≡ some ps → granting g ls o a ≡ some (map (extent (type_of a)) ps)
  granted_some a ps e = granted_typed a ∙ ap (map_option (map (extent (type_of a)))) e

  pub granted_none : (a : Amount) → pieces_of g ls o a ≡ none → granting g ls o a ≡ none
  granted_none a e = granted_typed a ∙ ap (map_option (map (extent (type_of a)))) e

-- ---- where the pieces lie

all_full : (g : Geometry) (es : List Extent) → All (GoodExtent g) es → All (λ p. 1 ≤ p.count) (overs es)
all_full g [] a = tt
all_full g (e ∷ es) a = (a.0.full, all_full g es a.1)

all_below : (g : Geometry) (es : List Extent) → All (GoodExtent g) es → All (λ p. p.start + p.count ≤ tracks g) (overs es)
all_below g [] a = tt
all_below g (e ∷ es) a = (a.0.ends, all_below g es a.1)

all_inside : (n : ℕ) (ps : List Run) → All (λ p. p.start + p.count ≤ n) ps → Inside n ps
all_inside n [] a = tt
all_inside n (p ∷ ps) a = (a.0, all_inside n ps a.1)

pub fulfilled_good : (v : Volume) → Valid v → (o : SpaceOption) (a : Amount) (es : List Extent) → Asks v.geometry a → granting v.geometry v.labels o a ≡ some es → Good v (overs es)
fulfilled_good v h o a es k e =
    let g = v.geometry in
    let hs = held g v.labels in
    let n = tracks g in
    let x = grant_law v h o a es k e in
    let l = length-map es (λ e. e.over) in
    let low = all_below g es x.good in
    let once : Once n (overs es ++ hs)
    = λ t u. let p = sum_append (λ r. bit (covers r t)) (overs es) hs in let q = x.inside t in let o = free_once v h t u in omega arith in
    let alone : Once n (overs es) = λ t u. let q = x.inside t in let o = free_once v h t u in omega arith in
    let b = balance n (overs es) (all_inside n (overs es) low) alone in
    record {
      full = all_full g es x.good;
      below = low;
      least = let y = x.least in omega arith;
      most = let y = x.most in omega arith;
      sum = omega arith;
      once = once;
    }

-- they can be taken out of the map
pub pieces_room : (m : List ℕ) (v : Volume) (ps : List Run) → Shows m (tracks v.geometry) (held v.geometry v.labels) → Good v ps → Room m (tracks v.geometry) ps
pieces_room m v ps h x t u =
    let p = sum_append (λ r. bit (covers r t)) ps (held v.geometry v.labels) in
    let q = x.once t u in
    let e = h t u in
    omega arith

-- ---- refused or not, by the count

-- a grant of the pieces ps
pub record Fulfilled (v : Volume) (o : SpaceOption) (a : Amount) (count sum : ℕ) (p : List (List ℕ)) : Type 0 where
  pub ps : List Run
  pub granted : granting v.geometry v.labels o a ≡ some (map (extent (type_of a)) ps)
  pub runs : overs (map (extent (type_of a)) ps) ≡ ps
  pub good : Good v ps
  pub number : length ps ≡ count
  pub adds : total ps ≡ sum
  pub first : take count p ≡ map row ps

module _ (v : Volume) (h : Valid v) (o : SpaceOption) (a : Amount) (k : Asks v.geometry a) (p : List (List ℕ)) (e : p ≡ grant_of (pieces_of v.geometry v.labels o a))
    (count sum : ℕ) (c : (count ≡ length (rows_in p)) × (sum ≡ total (rows_in p))) where
  pieces_good : (ps : List Run) → pieces_of v.geometry v.labels o a ≡ some ps → Good v ps
  pieces_good ps q =
      subst (Good v) (overs_extents (type_of a) ps)
      (fulfilled_good v h o a (map (extent (type_of a)) ps) k (granted_some v.geometry v.labels o a ps q))

  none_there : pieces_of v.geometry v.labels o a ≡ none → rows_in p ≡ []
  none_there q = ap rows_in (e ∙ ap grant_of q) ∙ none_back

  those_there : (ps : List Run) → pieces_of v.geometry v.labels o a ≡ some ps → rows_in p ≡ ps
  those_there ps q = ap rows_in (e ∙ ap grant_of q) ∙ array_back ps (pieces_good ps q).full

  -- 9 no space
  pub refused : count ≡ 0 → granting v.geometry v.labels o a ≡ none
  refused z = go (pieces_of v.geometry v.labels o a) refl
    where
      go : (x : Option (List Run)) → pieces_of v.geometry v.labels o a ≡ x → granting v.geometry v.labels o a ≡ none
      go none q = granted_none v.geometry v.labels o a q
      go (some ps) q = absurd (let l = (pieces_good ps q).least in let n = c.0 in let t = ap (λ (x : List Run). length x) (those_there ps q) in omega arith)

  pub accepted : (count ≡ 0 → ⊥) → Fulfilled v o a count sum p
  unfolding grant_of
  accepted z = go (pieces_of v.geometry v.labels o a) refl
    where
      go : (x : Option (List Run)) → pieces_of v.geometry v.labels o a ≡ x → Fulfilled v o a count sum p
      go none q = absurd (z (c.0 ∙ ap (λ (x : List Run). length x) (none_there q)))
      go (some ps) q =
          let t = those_there ps q in
          let n : count ≡ length ps = c.0 ∙ ap (λ (x : List Run). length x) t in
          let l = length-map ps row in
          record {
            ps = ps;
            granted = granted_some v.geometry v.labels o a ps q;
            runs = overs_extents (type_of a) ps;
            good = pieces_good ps q;
            number = sym n;
            adds = sym (c.1 ∙ ap total t);
            first =
                ap (take count) (e ∙ ap grant_of q) ∙ take-append-le count (map row ps) (drop (length ps) no_pieces) (omega arith)
                ∙ take_all count (map row ps) (omega arith);
          }
