-- For callers: the extents of a good label read from its records, and what the contracts ask and give, said in the words
-- of the rules. Assumes nothing.
use mathlib.Core.Path.{◌≡◌, sym, ap, ap₂, ◌∙◌, subst}
use mathlib.Core.List.{List, [], ◌∷◌, ◌++◌, map}
use Prim.Native.Nat.{ℕ, suc, ◌+◌, ◌≤◌, ◌<◌}
use native.Mathlib.Omega.{arith}
use lib.ListN.{length, get_or}
use Rattle.model.specs.Basics.{get3, up_from}
use Rattle.model.specs.Model.{Extent, Geometry, Label, Run, overs}
use Rattle.model.proofs.Lists.{All_map}
use Rattle.model.specs.Predicates.{All}
use Rattle.rules.specs.Calls.{keep}
use Rattle.rules.specs.Layout.{format1, format3}
use Rattle.rules.specs.Reading.{read_extents, read_label, record_at, slot_at}
use Rattle.rules.specs.Slots.{with_extents}
use Rattle.rules.proofs.Keyed.{get_or_map_range}
use Rattle.rules.proofs.LabelBack.{label_back, length_1}
use Rattle.rules.specs.Predicates.{GoodExtent, GoodLabel, Limits}
use Rattle.bitmap.specs.Map.{Shows}
use Rattle.choose_pieces.specs.Grant.{row}
use Rattle.dscb.proofs.Written.{count_back}
use Rattle.set_extents.specs.Change.{GaveTail, PieceIn, SetIn, Stays, extents_in, shortened}
use Rattle.set_extents.proofs.Cutting.{keep_zero}

-- ---- a good label, read from its records

-- any record of 140 bytes serves as f3 where the label has no format 3
module _ (g : Geometry) (l : Label) (good : GoodLabel g l) (f1 f3 : List ℕ) (one : f1 ≡ format1 g l) (long : length f3 ≡ 140) (three : 1 ≤ l.slot3 → f3 ≡ format3 g l) where
  pub count_is : get_or f1 59 0 ≡ length l.extents
  count_is = ap (λ (r : List ℕ). get_or r 59 0) one ∙ count_back g l good

  -- records of which the one in the slot of the format 3 is f3
  abbrev rs : List (List ℕ)
  rs = map (λ (k : ℕ). f3) (up_from 0 (suc l.slot3))

  there : record_at rs l.slot3 ≡ f3
  there = get_or_map_range (λ (k : ℕ). f3) 0 (suc l.slot3) l.slot3 [] (omega arith)

  back : read_label g rs l.slot (format1 g l) ≡ l
  back = label_back g l good rs (ap length there ∙ long) (λ u. there ∙ three (good.many u))

  pub unit_is_lem : get_or f1 94 0 ≡ l.unit
  unfolding read_label
  unit_is_lem = ap (λ (r : List ℕ). get_or r 94 0) one ∙ ap (λ (m : Label). m.unit) back

  pub secondary_is : get3 f1 95 ≡ l.secondary
  unfolding read_label
  secondary_is = ap (λ (r : List ℕ). get3 r 95) one ∙ ap (λ (m : Label). m.secondary) back

  pub extents_are_lem : extents_in g f1 f3 (get_or f1 59 0) ≡ l.extents
  unfolding read_label
  extents_are_lem =
      let third : slot_at g (format1 g l) 135 ≡ l.slot3 = ap (λ (m : Label). m.slot3) back in
      ap₂ (λ (x y : List ℕ). read_extents g.heads x y (get_or x 59 0)) one (sym (ap (record_at rs) third ∙ there))
      ∙ ap (λ (m : Label). m.extents) back

  -- what the functions that read the extents ask
  pub set_in_lem : Limits g → SetIn g f1 f3 (get_or f1 59 0)
  set_in_lem limits =
      record {
        limits = limits;
        long1 = ap length one ∙ length_1 g l good;
        long3 = long;
        most = let n = count_is in let m = good.most in omega arith;
        good = subst (All (GoodExtent g)) (sym extents_are_lem) good.extents;
      }

-- ---- pieces

pub pieces_good : (n k : ℕ) (ps : List Run) → n ≤ k → All (λ p. 1 ≤ p.count) ps → All (λ p. p.start + p.count ≤ n) ps → (rows : List (List ℕ)) → rows ≡ map row ps → All (PieceIn k) rows
pieces_good n k ps h full below rows e = subst (All (PieceIn k)) (sym e) (go ps full below)
  where
    go : (ps : List Run) → All (λ p. 1 ≤ p.count) ps → All (λ p. p.start + p.count ≤ n) ps → All (PieceIn k) (map row ps)
    go [] a b = tt
    go (p ∷ ps) a b = ((a.0, omega (arith, b.0)), go ps a.1 b.1)

-- ---- a data set that is cut

pub shortened_is : (u k n whole b start count : ℕ) (l : Label) → Stays u k l.extents n whole b start count
    → shortened whole b start count l ≡ with_extents (keep u k l.extents) l.ttr l
shortened_is u k n whole b start count l x = ap (λ (es : List Extent). with_extents es l.ttr l) (sym x.kept)

-- what `cut_records` asks
pub stays_fits : (u k n whole b start count : ℕ) (es : List Extent) → Stays u k es n whole b start count → length es ≤ 16 → n ≤ 65535
    → (whole ≤ 16) × (1 ≤ count → whole < 16) × (start + count ≤ 65535)
stays_fits u k n whole b start count es x h w =
    let m = x.most in
    let d = x.ends in
    (omega arith, λ v. let c = x.next v in omega arith, omega arith)

-- with none of its tracks kept, a data set holds nothing
pub none_kept : (g : Geometry) (es : List Extent) (m m' : List ℕ) → All (GoodExtent g) es → GaveTail 0 es m m'
    → (n : ℕ) (hs : List Run) → Shows m n (overs es ++ hs) → Shows m' n hs
none_kept g es m m' a x n hs h =
    subst (λ (ks : List Extent). Shows m' n (overs ks ++ hs)) (keep_zero 0 es (All_map (GoodExtent g) (λ e. 1 ≤ e.over.count) (λ e y. y.full) es a)) (x.held 0 n hs h)
