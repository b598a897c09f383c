-- Document 02, [3]: what is promised of previews. The statements; proofs/Previews has their proofs. Assumes nothing.
use Rattle.std.specs.Prelude.{◌≡◌, ℕ, suc, List, [], ◌∷◌, ◌++◌, ◌⊎◌, length}
use Rattle.std.proofs.Math.Option.{Option}
use Rattle.rules.specs.Calls.{Call, preview}
use Rattle.rules.specs.Promises.{Allocates, Extends, Performs, PreviewsAllocate, PreviewsExtend, PreviewsRelease, PreviewsScratch, Releases, Scratches}
use Rattle.rules.specs.Demand3.{Deed, Event, Ran, books_after, performs, table_after}
use Rattle.rules.specs.Entries.{Lent, Result, lent, perform, result_of}
use Rattle.rules.specs.Ledger.{Books}

-- ---- "Its reply equals that of the call made on a copy of the table, refusals included, and the lent table is not written"

-- what came of a call, but with the table t
abbrev pub with_table : List ℕ → Result → Result
with_table t p = result_of p.number (lent t p.after.answer p.after.extra)

abbrev pub AsOnCopy : Type 0
AsOnCopy = (b : Lent) (c : Call) → perform b (preview c) ≡ with_table b.table (perform b c)

-- ---- a preview, and then its call, on the table that the preview left

-- a and a₂ are the answers before the two, a' and a₂' after them; r and r₂ are their results. The result is the same; if it is 0, so
-- is the answer; if it is not, both buffers are as they were
abbrev pub SameReply : (a a₂ : List ℕ) (r r₂ : ℕ) (a' a₂' : List ℕ) → Type 0
SameReply a a₂ r r₂ a' a₂' = (r₂ ≡ r) × (r ≡ 0 → a₂' ≡ a') × ((n : ℕ) → r ≡ suc n → (a' ≡ a) × (a₂' ≡ a₂))

-- of any call; the buffers of the second may hold other bytes, as many
abbrev pub Foretells : Type 0
Foretells =
    (c : Call) (t a x : List ℕ) (r : ℕ) (t₁ a' x' : List ℕ) → Performs (preview c) t a x r t₁ a' x'
    → (a₂ x₂ : List ℕ) (r₂ : ℕ) (t₂ a₂' x₂' : List ℕ) → Performs c t₁ a₂ x₂ r₂ t₂ a₂' x₂' → length a₂ ≡ length a → length x₂ ≡ length x
    → (t₁ ≡ t) × SameReply a a₂ r r₂ a' a₂'

-- of the four, by the contracts of their entry points
pub record FourForetold (t a a₂ : List ℕ) (r r₂ : ℕ) (t₂ a' a₂' : List ℕ) : Type 0 where
  pub allocates : (name attributes : List ℕ) (kind start amount secondary option : ℕ) (expiry : List ℕ)
      → PreviewsAllocate t name attributes kind start amount secondary option expiry a r a'
      → Allocates t name attributes kind start amount secondary option expiry a₂ r₂ t₂ a₂' → SameReply a a₂ r r₂ a' a₂'
  pub extends : (name : List ℕ) → PreviewsExtend t name a r a' → Extends t name a₂ r₂ t₂ a₂' → SameReply a a₂ r r₂ a' a₂'
  pub releases : (name : List ℕ) (ttr : ℕ) → PreviewsRelease t name ttr a r a' → Releases t name ttr a₂ r₂ t₂ a₂' → SameReply a a₂ r r₂ a' a₂'
  pub scratches : (name today : List ℕ) (override : ℕ)
      → PreviewsScratch t name today override a r a' → Scratches t name today override a₂ r₂ t₂ a₂' → SameReply a a₂ r r₂ a' a₂'

abbrev pub EachForetold : Type 0
EachForetold =
    (t a a₂ : List ℕ) (r r₂ : ℕ) (t₂ a' a₂' : List ℕ) → length a₂ ≡ length a → FourForetold t a a₂ r r₂ t₂ a' a₂'

-- ---- "A preview may stand anywhere in a list of calls and the ledger doesn't notice it"

-- put in: whatever list there is, and wherever in it
abbrev pub AnyPlace : Type 0
AnyPlace =
    (t : List ℕ) (before after : List Event) → Ran t (before ++ after) → (c : Call) (a x : List ℕ)
    → (e : Event) × (e.deed ≡ performs (preview c)) × (e.answer ≡ a) × (e.extra ≡ x) × Ran t (before ++ (e ∷ after))

-- taken out
abbrev pub IsPreview : Deed → Type 0
IsPreview d = (c : Call) × (d ≡ performs (preview c))

-- `rest` is the list without its previews, or without some of them
abbrev pub TakenOut : (es rest : List Event) → Type 0
TakenOut [] rest = rest ≡ []
TakenOut (e ∷ es) rest = (IsPreview e.deed × TakenOut es rest) ⊎ ((more : List Event) × (rest ≡ e ∷ more) × TakenOut es more)

-- the deeds of `rest` alone give these same results and buffers; the table after them and the books are the same
pub record Unnoticed (t : List ℕ) (es rest : List Event) : Type 0 where
  pub ran : Ran t rest
  pub table : table_after t rest ≡ table_after t es
  pub books : (b : Option Books) → books_after b rest ≡ books_after b es

abbrev pub NoneNoticed : Type 0
NoneNoticed = (t : List ℕ) (es rest : List Event) → Ran t es → TakenOut es rest → Unnoticed t es rest
