-- The chain read from a table. Assumes nothing.
use mathlib.Core.Path.{◌≡◌, refl, sym, ap, ◌∙◌, subst}
use mathlib.Core.List.{List, [], ◌∷◌, ◌++◌, append-nil}
use Prim.Native.Nat.{ℕ, ◌+◌, ◌≤◌, ◌<◌}
use native.Mathlib.Numerals.{add-one}
use native.Mathlib.Omega.{arith}
use lib.ListN.{drop, length, length-append, length-take, set, take}
use lib.Seq.{append_snoc, take-suc-set}
use Rattle.model.specs.Model.{Geometry, Run, Volume, free, slots}
use Rattle.model.proofs.Lists.{All_append}
use Rattle.model.specs.Predicates.{All}
use Rattle.rules.specs.Layout.{fives, head_or0}
use Rattle.rules.specs.Reading.{chop}
use Rattle.rules.specs.Predicates.{Limits}
use Rattle.rules.specs.Sound.{FiveOk, Sound}
use Rattle.dscb.proofs.Records.{chop_slot}
use Rattle.free_extents.proofs.Chain.{chain_inside, chain_short, link_named, named_head}
use Rattle.settle_slots.specs.Settling.{Chained}

-- the first i of c are read, and the rest of the chain goes on in slot k, 0 for none
pub record Read (g : Geometry) (t c : List ℕ) (i k : ℕ) (chain : List ℕ) : Type 0 where
  pub rest : List ℕ
  pub extents : List Run
  pub whole : take i c ++ rest ≡ chain
  pub head : head_or0 rest ≡ k
  pub inside : All (λ j. (1 ≤ j) × (j < slots g)) rest
  pub hold : All (FiveOk g (chop (slots g) t)) (fives rest extents)

pub read_none : (g : Geometry) (t c : List ℕ) (v : Volume) → v.geometry ≡ g → Sound (chop (slots g) t) v → Read g t c 0 1 v.chain
read_none g t c v e x =
    subst (λ (y : Geometry). Sound (chop (slots y) t) v → Read y t c 0 1 v.chain) e
    (λ z.
    record {
      rest = v.chain;
      extents = free v.geometry v.labels;
      whole = refl;
      head = z.head;
      inside = chain_inside (chop (slots v.geometry) t) v z;
      hold = z.fives;
    })
    x

module _ (g : Geometry) (t c : List ℕ) (i k : ℕ) (chain : List ℕ) (x : Read g t c i k chain) where
  -- a turn: the slot is put, and the next is the one that its record names
  pub read_next : Limits g → (k ≡ 0 → ⊥) → i < length c → (j : ℕ) → j ≡ link_named g t k → Read g t (set c i k) (i + 1) j chain
  read_next limit p u j e = go x.rest x.whole x.head x.inside x.hold
    where
      go : (ks : List ℕ) → take i c ++ ks ≡ chain → head_or0 ks ≡ k → All (λ j. (1 ≤ j) × (j < slots g)) ks → All (FiveOk g (chop (slots g) t)) (fives ks x.extents) → Read g t (set c i k) (i + 1) j chain
      go [] w h a f = absurd (p (sym h))
      go (q ∷ ks) w h a f = record {
        rest = ks;
        extents = drop 26 x.extents;
        whole = ap (λ (m : ℕ). take m (set c i k) ++ ks) (add-one i)
            ∙ ap (λ (z : List ℕ). z ++ ks) (take-suc-set c i k u)
            ∙ append_snoc (take i c) k ks
            ∙ ap (λ (m : ℕ). take i c ++ (m ∷ ks)) (sym h) ∙ w;
        head = sym (e ∙ ap (link_named g t) (sym h) ∙ named_head g t k x.extents limit ks a.1 q a.0.1 (f.0 ∙ chop_slot (slots g) t q a.0.1));
        inside = a.1;
        hold = f.1;
      }

  -- no member is left
  pub read_end : k ≡ 0 → take i c ≡ chain
  read_end e = go x.rest x.whole x.head x.inside
    where
      go : (ks : List ℕ) → take i c ++ ks ≡ chain → head_or0 ks ≡ k → All (λ j. (1 ≤ j) × (j < slots g)) ks → take i c ≡ chain
      go [] w h a = sym (append-nil (take i c)) ∙ w
      go (q ∷ ks) w h a = absurd (omega (arith, a.0.0))

  -- nor is there room for one
  pub read_full : length chain ≤ i → i ≤ length c → take i c ≡ chain
  read_full u l = go x.rest x.whole
    where
      go : (ks : List ℕ) → take i c ++ ks ≡ chain → take i c ≡ chain
      go [] w = sym (append-nil (take i c)) ∙ w
      go (q ∷ ks) w = let a = length-append (take i c) (q ∷ ks) in let b = length-take i c in let d = ap length w in absurd (omega arith)

pub inside_next : (n : ℕ) (c : List ℕ) (i k : ℕ) → i < length c → k < n → All (λ j. j < n) (take i c) → All (λ j. j < n) (take (i + 1) (set c i k))
inside_next n c i k u w a =
    subst (All (λ j. j < n)) (sym (ap (λ (m : ℕ). take m (set c i k)) (add-one i) ∙ take-suc-set c i k u))
    (All_append (λ j. j < n) (take i c) (k ∷ []) a (w, tt))

-- as long as a chain of the table can be
pub chain_room : (g : Geometry) (t : List ℕ) (v : Volume) → v.geometry ≡ g → Sound (chop (slots g) t) v → length v.chain ≤ slots g
chain_room g t v e x = subst (λ (y : Geometry). Sound (chop (slots y) t) v → length v.chain ≤ slots y) e (λ z. chain_short (chop (slots v.geometry) t) v z) x

pub chain_read : (g : Geometry) (t c c' : List ℕ) (i : ℕ) → length c' ≡ length c → slots g ≤ length c → i ≤ slots g → All (λ j. j < slots g) (take i c')
    → ((v : Volume) → v.geometry ≡ g → Sound (chop (slots g) t) v → take i c' ≡ v.chain) → Chained g t c c' i
chain_read g t c c' i long room few inside whole = record {
  long = long;
  few = few;
  inside = inside;
  chain = whole;
  many = λ v e x. let a = length-take i c' in let b = ap length (whole v e x) in omega arith;
}
