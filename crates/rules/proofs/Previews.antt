-- What document 02 promises of previews, [3]; the statements are specs/Previews. Assumes nothing.
use mathlib.Core.Path.{◌≡◌, refl, sym, ap, ap₂, ◌∙◌, subst}
use mathlib.Core.Bool.{Bool, ◌&&◌}
use mathlib.Core.Option.{Option, none, some}
use mathlib.Core.List.{List, [], ◌∷◌}
use mathlib.Core.Logic.{inl, inr}
use Prim.Native.Nat.{ℕ, zero, suc}
use native.Mathlib.Omega.{arith}
use lib.ListN.{length}
use Rattle.model.specs.Basics.{map_option}
use Rattle.model.specs.Model.{Volume}
use Rattle.model.proofs.Lists.{by, true_is}
use Rattle.rules.specs.Calls.{Call, Outcome, accept, on_copy, preview, refuse, rule, tell, unless}
use Rattle.rules.specs.Promises.{Performs}
use Rattle.rules.specs.Demand3.{Deed, Did, Event, Ran, booked, books_after, performs, table_after, table_then}
use Rattle.rules.specs.Entries.{Lent, Result, good_lengths, lent, other_lengths, perform, result_of, ruled, written}
use Rattle.rules.specs.Layout.{encode}
use Rattle.rules.specs.Ledger.{Books, Effect, book, effect, stays}
use Rattle.rules.specs.Previews.{AnyPlace, AsOnCopy, EachForetold, Foretells, NoneNoticed, SameReply, Unnoticed, with_table}
use Rattle.rules.specs.Reading.{read}
use Rattle.rules.specs.Table.{good_length, taken}
use Rattle.rules.proofs.Kept.{Keeps, unless_keeps}
use Rattle.rules.proofs.Performed.{perform_is, ruled_keeps, unsound_is}
use Rattle.rules.proofs.Taken.{taken_is}

-- ---- as on a copy

copy_with : (b : Lent) (v : Volume) (o : Outcome) → encode v ≡ b.table → written b (on_copy v o) ≡ with_table b.table (written b o)
copy_with b v (refuse n) e = refl
copy_with b v (accept r w) e = ap (λ (t : List ℕ). with_table t (written b (accept r w))) e
copy_with b v (tell r) e = refl

pub as_on_copy : AsOnCopy
unfolding perform good_lengths rule
as_on_copy b c =
    by (good_lengths b c)
    (λ l.
    by (taken b.table)
    (λ k. rw (l, k) (copy_with b (read b.table) (rule (read b.table) c) (taken_is b.table (true_is k)).1))
    (λ k. rw (l, k)))
    (λ l. rw l)

-- ---- a refusal is the same on a copy

module _ (v : Volume) (b b' : Lent) (n : ℕ) (nz : n ≡ 0 → ⊥) where
  pub copied : (o : Outcome) → result_of n b' ≡ written b o → result_of n b' ≡ written b (on_copy v o)
  copied (refuse k) e = e
  copied (accept r w) e = absurd (nz (ap (λ (z : Result). z.number) e))
  copied (tell r) e = e

  pub uncopied : (o : Outcome) → result_of n b' ≡ written b (on_copy v o) → result_of n b' ≡ written b o
  uncopied (refuse k) e = e
  uncopied (accept r w) e = absurd (nz (ap (λ (z : Result). z.number) e))
  uncopied (tell r) e = e

-- ---- preview, then call

-- the same result; where it is 0 the same answer, where it is not both buffers as they were
abbrev Alike : (b d : Lent) (p q : Result) → Type 0
Alike b d p q =
    (q.number ≡ p.number) × (p.number ≡ 0 → q.after.answer ≡ p.after.answer)
    × ((n : ℕ) → p.number ≡ suc n → (p.after.answer ≡ b.answer) × (q.after.answer ≡ d.answer))

written_alike : (v : Volume) (f : Effect) (b d : Lent) (o : Outcome) → Keeps v f o → Alike b d (written b o) (written d o)
written_alike v f b d (refuse n) k = (refl, λ e. absurd (omega arith), λ n e. (refl, refl))
written_alike v f b d (accept r w) k = (refl, λ e. refl, λ n e. absurd (omega arith))
written_alike v f b d (tell r) k = absurd k

-- what comes of a call goes by the table and by the lengths of the other buffers, not by their bytes
perform_alike : (t : List ℕ) (c : Call) (a x b y : List ℕ) → length b ≡ length a → length y ≡ length x
    → Alike (lent t a x) (lent t b y) (perform (lent t a x) c) (perform (lent t b y) c)
perform_alike t c a x b y la lx =
    by (taken t)
    (λ k.
    let p = taken_is t (true_is k) in
    let v : Volume = read t in
    rw (perform_is v p.0 (lent t a x) (sym p.1) c, perform_is v p.0 (lent t b y) (sym p.1) c, la, lx)
    (written_alike v (effect c) (lent t a x) (lent t b y) (ruled v c (length a) (length x)) (ruled_keeps v p.0 c (length a) (length x))))
    (λ k.
    let long : Bool = good_length t && other_lengths c (length a) (length x) in
    rw (unsound_is (lent t a x) c k, unsound_is (lent t b y) c k, la, lx)
    (written_alike (read t) (effect c) (lent t a x) (lent t b y) (unless long 2 (refuse 3))
    (unless_keeps (read t) (effect c) long 2 (refuse 3) (omega arith) (λ _. omega arith))))

-- the call on the table as it was
foretold : (c : Call) (t a x : List ℕ) (r : ℕ) (t₁ a' x' : List ℕ) → Performs (preview c) t a x r t₁ a' x'
    → (a₂ x₂ : List ℕ) (r₂ : ℕ) (t₂ a₂' x₂' : List ℕ) → Performs c t a₂ x₂ r₂ t₂ a₂' x₂' → length a₂ ≡ length a → length x₂ ≡ length x
    → SameReply a a₂ r r₂ a' a₂'
foretold c t a x r t₁ a' x' p a₂ x₂ r₂ t₂ a₂' x₂' q la lx =
    let e = p ∙ as_on_copy (lent t a x) c in
    let k = perform_alike t c a x a₂ x₂ la lx in
    let n : r ≡ (perform (lent t a x) c).number = ap (λ (z : Result). z.number) e in
    let one : a' ≡ (perform (lent t a x) c).after.answer = ap (λ (z : Result). z.after.answer) e in
    let two : a₂' ≡ (perform (lent t a₂ x₂) c).after.answer = ap (λ (z : Result). z.after.answer) q in (
      ap (λ (z : Result). z.number) q ∙ k.0 ∙ sym n,
      λ u. two ∙ k.1 (sym n ∙ u) ∙ sym one,
      λ i u. let f = k.2 i (sym n ∙ u) in (one ∙ f.0, two ∙ f.1),
    )

pub foretells : Foretells
foretells c t a x r t₁ a' x' p a₂ x₂ r₂ t₂ a₂' x₂' q la lx =
    let same : t₁ ≡ t = ap (λ (z : Result). z.after.table) (p ∙ as_on_copy (lent t a x) c) in
    (same, foretold c t a x r t₁ a' x' p a₂ x₂ r₂ t₂ a₂' x₂' (subst (λ (z : List ℕ). Performs c z a₂ x₂ r₂ t₂ a₂' x₂') same q) la lx)

pub each_foretold : EachForetold
each_foretold t a a₂ r r₂ t₂ a' a₂' l =
    let told : (c : Call) → Performs (preview c) t a [] r t a' [] → Performs c t a₂ [] r₂ t₂ a₂' [] → SameReply a a₂ r r₂ a' a₂'
    = λ c p q. foretold c t a [] r t a' [] p a₂ [] r₂ t₂ a₂' [] q l refl in
    record {
      allocates = λ name attributes kind start amount secondary option expiry. told _;
      extends = λ name. told _;
      releases = λ name ttr. told _;
      scratches = λ name today override. told _;
    }

-- ---- in a list

-- the books are the same after an entry that changes nothing
book_stays : (a : List ℕ) (b : Books) → book stays a b ≡ b
book_stays a b =
    ap₂ (λ (x y : ℕ). record { ledger = b.ledger; geometry = b.geometry; start = b.start; granted = x; back = y }) (omega arith) (omega arith)

map_stays : (a : List ℕ) (b : Option Books) → map_option (book stays a) b ≡ b
map_stays a none = refl
map_stays a (some b) = ap some (book_stays a b)

preview_books : (c : Call) (n : ℕ) (a : List ℕ) (b : Option Books) → booked (performs (preview c)) n a b ≡ b
preview_books c zero a b = map_stays a b
preview_books c (suc n) a b = refl

preview_table : (c : Call) (t : List ℕ) (e : Event) → Did (performs (preview c)) t e → e.table' ≡ t
preview_table c t e d = ap (λ (z : Result). z.after.table) (d ∙ as_on_copy (lent t e.answer e.extra) c)

pub any_place : AnyPlace
any_place t [] after r c a x =
    let b : Lent = lent t a x in
    let p : Result = perform b (preview c) in
    let e : Event = record { deed = performs (preview c); answer = a; extra = x; number = p.number; table' = p.after.table; answer' = p.after.answer; extra' = p.after.extra } in
    (e, refl, refl, refl, (refl, subst (λ (z : List ℕ). Ran z after) (sym (ap (λ (z : Result). z.after.table) (as_on_copy b c))) r))
any_place t (d ∷ before) after r c a x =
    let y = any_place (table_then d.deed d.number t d.table') before after r.1 c a x in
    (y.0, y.1, y.2, y.3, (r.0, y.4))

pub none_noticed : NoneNoticed
none_noticed t [] rest r o = rw o (record { ran = tt; table = refl; books = λ b. refl })
none_noticed t (e ∷ es) rest r (inl o) =
    let c : Call = o.0.0 in
    let d : Did (performs (preview c)) t e = subst (λ (z : Deed). Did z t e) o.0.1 r.0 in
    let same : table_then e.deed e.number t e.table' ≡ t =
    ap (λ (z : Deed). table_then z e.number t e.table') o.0.1 ∙ preview_table c t e d in
    let books : (b : Option Books) → booked e.deed e.number e.answer' b ≡ b =
    λ b. ap (λ (z : Deed). booked z e.number e.answer' b) o.0.1 ∙ preview_books c e.number e.answer' b in
    let u : Unnoticed t es rest = none_noticed t es rest (subst (λ (z : List ℕ). Ran z es) same r.1) o.1 in
    record {
      ran = u.ran;
      table = u.table ∙ ap (λ (z : List ℕ). table_after z es) (sym same);
      books = λ b. u.books b ∙ ap (λ (z : Option Books). books_after z es) (sym (books b));
    }
none_noticed t (e ∷ es) rest r (inr o) =
    let u : Unnoticed (table_then e.deed e.number t e.table') es o.0 = none_noticed _ es o.0 r.1 o.2 in
    subst (Unnoticed t (e ∷ es)) (sym o.1) (record { ran = (r.0, u.ran); table = u.table; books = λ b. u.books _ })
