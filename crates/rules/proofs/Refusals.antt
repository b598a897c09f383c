-- No call answers a refusal that document 01 does not give it (specs/Refusals), on any buffers. Assumes nothing.
use mathlib.Core.Path.{◌≡◌, refl, subst, sym}
use mathlib.Core.Bool.{Bool, true, false, not, ◌&&◌}
use mathlib.Core.Option.{Option, none, some}
use mathlib.Core.List.{List, ◌∷◌}
use Prim.Native.Nat.{ℕ, ◌*◌}
use lib.ListN.{length}
use lib.Dec.{eqb, leb}
use Rattle.model.specs.Choice.{no_option}
use Rattle.model.specs.Model.{Geometry, Label, Volume, overs, runs_of, slots, total}
use Rattle.model.proofs.Lists.{by, by_option, clash, true_is}
use Rattle.rules.specs.Calls.{Call, DateCall, Outcome, Reply, accept, allocate, allocate_amount, allocate_by, allocate_pieces, allocate_stored, amount_of, date_to_packed, date_to_stored, dated, extend, extend_pieces, extend_set, given, given_back, good_ttr, grant, granted, in_range, joined, longer, lspace, new_set, obtain, obtain_set, on_copy, option_for, preview, refuse, release, release_set, rename, rename_set, rule, scratch, scratch_on, scratch_set, tell, secondary_of, settled, shorter, tracks_kept_of, unless}
use Rattle.rules.specs.Dates.{to_packed, to_stored, unexpired}
use Rattle.rules.specs.Entries.{Lent, Result, convert_date, date_length, good_lengths, initialise, perform, written}
use Rattle.rules.specs.Reading.{read}
use Rattle.rules.specs.Refusals.{OneOf, ZeroOr, refusals, refusals_of_date_call, refusals_of_initialise}
use Rattle.rules.specs.Slots.{added, changed, found, is_new, removed}
use Rattle.rules.specs.Table.{good_name, limits, taken}
use Rattle.rules.proofs.ScratchFits.{scratch_fits}
use Rattle.rules.proofs.Taken.{taken_is}
use Rattle.rules.specs.Predicates.{Valid}

-- ---- step by step: an outcome is accepted, or refused with a number of the list

abbrev Within : Call → Outcome → Type 0
Within c (refuse n) = OneOf (refusals c) n
Within c (accept r w) = Unit {0}
Within c (tell r) = ⊥

record Listed (c : Call) (o : Outcome) : Type 0 where
  within : Within c o

module _ {c : Call} where
  refused : {n : ℕ} → OneOf (refusals c) n → Listed c (refuse n)
  refused m = record { within = m }

  accepted : {r : Reply} {w : Volume} → Listed c (accept r w)
  accepted = record { within = tt }

  listed_unless : (b : Bool) (n : ℕ) (o : Outcome) → OneOf (refusals c) n → Listed c o → Listed c (unless b n o)
  listed_unless true n o m h = h
  listed_unless false n o m h = refused m

  listed_given : {A : Type 0} (o : Option A) (n : ℕ) (k : A → Outcome) → (o ≡ none → OneOf (refusals c) n)
      → ((a : A) → o ≡ some a → Listed c (k a)) → Listed c (given o n k)
  listed_given none n k m h = refused (m refl)
  listed_given (some a) n k m h = h a refl

  listed_settled : (r : Reply) (o : Option Volume) → (o ≡ none → OneOf (refusals c) 11) → Listed c (settled r o)
  listed_settled r o m = listed_given o 11 (accept r) m (λ w e. accepted)

-- a preview is refused with what refuses its call
listed_copy : (v : Volume) (c : Call) (o : Outcome) → Listed c o → Listed (preview c) (on_copy v o)
listed_copy v c (refuse n) h = refused h.within
listed_copy v c (accept r w) h = accepted
listed_copy v c (tell r) h = absurd h.within

-- ---- the rules, step by step as Calls has them: `refl` says that the refusal there is one of the call's

-- a call on the data set of a name
listed_named : (v : Volume) (c : Call) (n : List ℕ) (k : Label → Outcome) → OneOf (refusals c) 4 → OneOf (refusals c) 5
    → ((l : Label) → found v n ≡ some l → Listed c (k l)) → Listed c (unless (good_name n) 4 (given (found v n) 5 k))
listed_named v c n k four five h = listed_unless (good_name n) _ _ four (listed_given (found v n) _ k (λ _. five) h)

rule_listed : (v : Volume) → Valid v → (c : Call) → Listed c (rule v c)
unfolding rule
rule_listed v h (allocate q) =
    listed_unless (good_name q.name) _ _ refl
    (listed_given (dated q) _ (allocate_stored v) (λ _. refl)
    (λ q e.
    listed_given (amount_of q.kind q.start q.amount) _ (allocate_amount v q) (λ _. refl)
    (λ a e.
    listed_given (option_for a q.option) _ (allocate_by v q a) (λ _. refl)
    (λ o e.
    listed_unless (in_range v.geometry q.secondary a) _ _ refl
    (listed_unless (is_new v q.name) _ _ refl
    (listed_given (grant v.geometry v.labels o a) _ (allocate_pieces v q a) (λ _. refl)
    (λ es e. listed_settled (granted (overs es)) (added v (new_set q a es)) (λ _. refl))))))))
rule_listed v h (extend n) =
    listed_named v (extend n) n (extend_set v n) refl refl
    (λ l e.
    listed_unless (leb 1 l.secondary) _ _ refl
    (listed_given (grant v.geometry v.labels no_option (secondary_of l)) _ (extend_pieces v n l) (λ _. refl)
    (λ ps e.
    listed_unless (leb (length (joined l.extents ps)) 16) _ _ refl
    (listed_settled (granted (overs ps)) (changed v n (longer ps l)) (λ _. refl)))))
rule_listed v h (release n ttr) =
    listed_named v (release n ttr) n (release_set v n ttr) refl refl
    (λ l e.
    listed_unless (good_ttr ttr (total (runs_of l))) _ _ refl
    (listed_settled _ (changed v n (shorter (tracks_kept_of v.geometry ttr l) ttr l)) (λ _. refl)))
rule_listed v h (scratch n today override) =
    listed_unless (good_name n) _ _ refl
    (listed_given (to_stored today) _ (scratch_on v n override) (λ _. refl)
    (λ s e.
    listed_given (found v n) _ (scratch_set v n s override) (λ _. refl)
    (λ l e.
    listed_unless (not (unexpired l.attributes s override)) _ _ refl
    (listed_settled (given_back (total (runs_of l))) (removed v n) (λ full. absurd (scratch_fits v h n l e full))))))
rule_listed v h (rename old new) =
    listed_unless (good_name old && good_name new) _ _ refl
    (listed_given (found v old) _ (rename_set v old new) (λ _. refl) (λ l e. listed_unless (is_new v new) _ _ refl accepted))
rule_listed v h (obtain n) = listed_named v (obtain n) n (obtain_set v) refl refl (λ l e. accepted)
rule_listed v h lspace = accepted
rule_listed v h (preview c) = listed_copy v c (rule v c) (rule_listed v h c)

-- ---- the entry points

-- every call checks lengths and the table first
begins : (c : Call) → (own : List ℕ) × (refusals c ≡ 2 ∷ 3 ∷ own)
begins (allocate q) = (_, refl)
begins (extend n) = (_, refl)
begins (release n ttr) = (_, refl)
begins (scratch n today override) = (_, refl)
begins (rename old new) = (_, refl)
begins (obtain n) = (_, refl)
begins lspace = (_, refl)
begins (preview c) = begins c

written_listed : (c : Call) (b : Lent) (o : Outcome) → Listed c o → ZeroOr (refusals c) (written b o).number
written_listed c b (refuse n) h = by (eqb n 0) (λ e. rw e) (λ e. rw e h.within)
written_listed c b (accept r w) h = refl
written_listed c b (tell r) h = refl

-- a call on buffers of good lengths whose table is taken, on another table, and on other lengths
performed_taken : (b : Lent) (c : Call) → good_lengths b c ≡ true → taken b.table ≡ true → perform b c ≡ written b (rule (read b.table) c)
unfolding perform
performed_taken b c u t = rw (u, t)

performed_untaken : (b : Lent) (c : Call) → good_lengths b c ≡ true → taken b.table ≡ false → perform b c ≡ written b (refuse 3)
unfolding perform
performed_untaken b c u t = rw (u, t)

performed_short : (b : Lent) (c : Call) → good_lengths b c ≡ false → perform b c ≡ written b (refuse 2)
unfolding perform
performed_short b c u = rw u

-- A CALL ANSWERS 0 OR ONE OF ITS REFUSALS, ON ANY BUFFERS
pub refusals_listed : (b : Lent) (c : Call) → ZeroOr (refusals c) (perform b c).number
refusals_listed b c =
    by (good_lengths b c)
    (λ u.
    by (taken b.table)
    (λ t.
    let good : Valid (read b.table) = (taken_is b.table (true_is t)).0 in
    subst (λ (r : Result). ZeroOr (refusals c) r.number) (sym (performed_taken b c u t)) (written_listed c b (rule (read b.table) c) (rule_listed (read b.table) good c)))
    (λ t. subst (λ (r : Result). ZeroOr (refusals c) r.number) (sym (performed_untaken b c u t)) (rw (begins c).1)))
    (λ u. subst (λ (r : Result). ZeroOr (refusals c) r.number) (sym (performed_short b c u)) (rw (begins c).1))

pub initialise_listed : (g : Geometry) (b : Lent) → ZeroOr refusals_of_initialise (initialise g b).number
unfolding initialise
initialise_listed g b =
    by (limits g)
    (λ l. by (eqb (length b.table) (slots g * 140) && eqb (length b.answer) 24) (λ u. rw (l, u)) (λ u. rw (l, u)))
    (λ l. rw l)

pub dates_listed : (c : DateCall) (b : Lent) → ZeroOr refusals_of_date_call (convert_date c b).number
unfolding convert_date
dates_listed (date_to_stored p) b =
    by (eqb (length b.answer) 24 && date_length p)
    (λ u. by_option (to_stored p) (λ e. rw (u, e)) (λ s e. rw (u, e)))
    (λ u. rw u)
dates_listed (date_to_packed s) b =
    by (eqb (length b.answer) 24 && eqb (length s) 3)
    (λ u. by_option (to_packed s) (λ e. rw (u, e)) (λ p e. rw (u, e)))
    (λ u. rw u)

-- so a scratch is never refused for a full VTOC
pub scratch_answers : (b : Lent) (n today : List ℕ) (override : ℕ) → (perform b (scratch n today override)).number ≡ 11 → ⊥
scratch_answers b n today override e =
    clash (subst (ZeroOr (refusals (scratch n today override))) e (refusals_listed b (scratch n today override))) refl
