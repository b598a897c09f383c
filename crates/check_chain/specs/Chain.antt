-- The chain of format 5s, read from a table and held against the map of free tracks. Assumes nothing.
use Rattle.std.specs.Prelude.{◌≡◌, ℕ, ◌≤◌, ◌<◌, Bool, true, false, List, [], ◌∷◌, ◌++◌, drop, length, take, Option, MatchOption}
use Rattle.model.specs.Model.{Geometry, Run, fives_for, run, slots, tracks}
use Rattle.model.specs.Predicates.{All, Once}
use Rattle.rules.specs.Layout.{fives, format5}
use Rattle.rules.specs.Reading.{chop, follow, slot_at}
use Rattle.rules.specs.Sound.{FiveOk}
use Rattle.bitmap.specs.Map.{Shows, free_from}
use Rattle.dscb.specs.Records.{slot_bytes}
use Rattle.check_label.specs.Marks.{units}
use Rattle.check_chain.specs.declared.Member.{Member}
use Rattle.check_chain.specs.declared.Member.TheVariants.{Last, Next}

-- the slots of the chain that begins in slot k and has room for the free extents f
unfoldable pub chain_from : Geometry → List ℕ → List Run → ℕ → List ℕ
chain_from g t f k = follow g (chop (slots g) t) (fives_for (length f)) k

-- the next slot, where the free extents f are to follow: as the record says, or 0
abbrev pub next_of : Geometry → List Run → List ℕ → ℕ
next_of g [] r = 0
next_of g (x ∷ f) r = slot_at g r 135

abbrev pub is_none : List Run → Bool
is_none [] = true
is_none (x ∷ f) = false

-- behind slot k, which has room for the first of the free extents f, stand the others, which are those from track `at` on, in the chain from
-- `slot` on
pub record GoesOn (g : Geometry) (t m : List ℕ) (f : List Run) (k slot at : ℕ) : Type 0 where
  pub more : is_none (drop 26 f) ≡ false
  pub next : slot ≡ next_of g (drop 26 f) (slot_bytes t k)
  pub inside : slot < slots g
  pub rest : free_from m (tracks g) at ≡ drop 26 f
  pub up_to : at ≤ tracks g

-- what follows slot k: nothing, or these
abbrev pub Follows : Geometry → List ℕ → List ℕ → List Run → ℕ → Member → Type 0
Follows g t m f k Last = is_none (drop 26 f) ≡ true
Follows g t m f k (Next slot at) = GoesOn g t m f k slot at

-- Slot k has left the map of free slots and holds the first of the free extents f, with the address of the next format 5.
pub record Holds (g : Geometry) (t m : List ℕ) (f : List Run) (k : ℕ) (s s' : List ℕ) (r : Member) : Type 0 where
  pub took : (us : List Run) → Shows s (slots g) us → Shows s' (slots g) (run k 1 ∷ us)
  pub here : format5 g (take 26 f) (next_of g (drop 26 f) (slot_bytes t k)) ≡ slot_bytes t k
  pub behind : Follows g t m f k r

-- It doesn't, or it was held before.
abbrev pub HoldsNone : Geometry → List ℕ → List Run → ℕ → List ℕ → Type 0
HoldsNone g t f k s =
    (us : List Run) → Shows s (slots g) us → Once (slots g) (run k 1 ∷ us) → next_of g (drop 26 f) (slot_bytes t k) < slots g
    → format5 g (take 26 f) (next_of g (drop 26 f) (slot_bytes t k)) ≡ slot_bytes t k → ⊥

-- whether it does
pub record Held (g : Geometry) (t m : List ℕ) (f : List Run) (k : ℕ) (s s' : List ℕ) (r : Option Member) : Type 0 where
  pub long : length s' ≡ length s
  pub told : MatchOption r (HoldsNone g t f k s) (λ x. Holds g t m f k s s' x)

-- the chain from slot k on holds the free extents f, and its slots have left the map; or not so
pub record ChainGone (g : Geometry) (t : List ℕ) (f : List Run) (k : ℕ) (s s' : List ℕ) (r : Bool) : Type 0 where
  pub long : length s' ≡ length s
  pub good : r ≡ true → All (FiveOk g (chop (slots g) t)) (fives (chain_from g t f k) f)
  pub inside : r ≡ true → All (λ j. j < slots g) (chain_from g t f k)
  pub empty : r ≡ true → (us : List Run) → Shows s (slots g) us → Shows s' (slots g) (units (chain_from g t f k) ++ us)
  pub no : r ≡ false → (us : List Run) → Shows s (slots g) us → All (FiveOk g (chop (slots g) t)) (fives (chain_from g t f k) f)
      → All (λ j. j < slots g) (chain_from g t f k) → Once (slots g) (units (chain_from g t f k) ++ us) → ⊥
