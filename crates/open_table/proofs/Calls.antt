-- A call as a whole: where it is refused when it opens the table it answers as the rule does and writes nothing, and where it is
-- not the rule behind that decides. Assumes nothing.
use mathlib.Core.Path.{◌≡◌, refl, sym, ap, ap₂, ◌∙◌, subst}
use mathlib.Core.Bool.{Bool, true, false, cond, ◌&&◌}
use mathlib.Core.Option.{Option, none, some}
use mathlib.Core.List.{List}
use Prim.Native.Nat.{ℕ, zero, suc, ◌+◌, ◌*◌, ◌≤◌, ◌<◌}
use native.Mathlib.Omega.{arith}
use lib.Dec.{T, eqb, eqb→eq}
use lib.ListN.{length}
use Rattle.std.specs.Prelude.{Result, Ok, Err}
use Rattle.std.specs.Result.{IsErrAnd}
use Rattle.check_table.specs.declared.Verdict.{Verdict}
use Rattle.open_table.specs.declared.SetOpening.{SetOpening}
use Rattle.refusals.specs.Numbers.{number, number_of}
use Rattle.refusals.specs.declared.Refusal.{Refusal}
use Rattle.refusals.proofs.Laws.{handed_on, never_none, not_both, same_refusal, same_value}
use Rattle.model.specs.Model.{Geometry, Label, Volume, slots}
use Rattle.model.proofs.Lists.{and_l, and_r, true_is}
use Rattle.rules.specs.Predicates.{Limits}
use Rattle.rules.specs.Calls.{Call, Outcome, given, on_copy, preview, refuse, rule, unless}
use Rattle.rules.specs.Entries.{Lent, call_lengths, good_lengths, other_lengths, perform, result_of, unless_refused, written}
use Rattle.rules.specs.Reading.{read}
use Rattle.rules.specs.Slots.{found}
use Rattle.rules.specs.Table.{good_length, table_refusal}
use Rattle.names.specs.Find.{find_slot, in_slot, not_found}
use Rattle.dscb.specs.Forms.{geometry_of}
use Rattle.check_table.specs.Check.{Roomy}
use Rattle.open_table.specs.Opening.{FoundAt, KnownAt, KnownMaps, Mapped, Opened, OpenedAs, OpenedSet, first_refusal, name_refusal, open_number}
use Rattle.open_table.proofs.Lookup.{not_there, there, there_inside}
use Rattle.open_table.proofs.Numbers.{known, known_maps}

-- the call c on the buffers b: `ok` are its other lengths, `good` its names, and `own` is its rule behind those
pub record AsksTable (b : Lent) (c : Call) (ok good : Bool) (own : Volume → Outcome) : Type 0 where
  pub lengths : ok ≡ other_lengths c (length b.answer) (length b.extra)
  pub rules : (v : Volume) → rule v c ≡ unless good 4 (own v)

-- a call on the data set of this name: `own` is its rule behind the lookup
pub record AsksSet (b : Lent) (c : Call) (ok good : Bool) (name : List ℕ) (own : Volume → Label → Outcome) : Type 0 where
  pub lengths : ok ≡ other_lengths c (length b.answer) (length b.extra)
  pub rules : (v : Volume) → rule v c ≡ unless good 4 (given (found v name) 5 (own v))

-- ---- a preview: as its call, on a copy

copy_unless : (v : Volume) (good : Bool) (n : ℕ) (o : Outcome) → on_copy v (unless good n o) ≡ unless good n (on_copy v o)
copy_unless v true n o = refl
copy_unless v false n o = refl

copy_given : {A : Type 0} (v : Volume) (x : Option A) (n : ℕ) (k : A → Outcome) → on_copy v (given x n k) ≡ given x n (λ a. on_copy v (k a))
copy_given v none n k = refl
copy_given v (some a) n k = refl

pub preview_table : {b : Lent} {c : Call} {ok good : Bool} {own : Volume → Outcome} → AsksTable b c ok good own → AsksTable b (preview c) ok good (λ v. on_copy v (own v))
unfolding rule
preview_table {good = good} {own = own} y =
    record { lengths = y.lengths; rules = λ v. ap (on_copy v) (y.rules v) ∙ copy_unless v good 4 (own v) }

pub preview_set : {b : Lent} {c : Call} {ok good : Bool} {name : List ℕ} {own : Volume → Label → Outcome} → AsksSet b c ok good name own
    → AsksSet b (preview c) ok good name (λ v l. on_copy v (own v l))
unfolding rule
preview_set {good = good} {name = name} {own = own} y =
    record {
      lengths = y.lengths;
      rules = λ v.
          ap (on_copy v) (y.rules v) ∙ copy_unless v good 4 (given (found v name) 5 (own v)) ∙ ap (unless good 4) (copy_given v (found v name) 5 (own v));
    }

-- ---- the outcome, whatever refuses a table

module _ (o : Outcome) where
  refused_there : (n k : ℕ) (good long : Bool) → n ≡ first_refusal (cond long k 2) (name_refusal good) → (n ≡ 0 → ⊥)
      → unless long 2 (unless_refused k (unless good 4 o)) ≡ refuse n
  refused_there n k good false e z = ap refuse (sym e)
  refused_there n (suc k) good true e z = ap refuse (sym e)
  refused_there n zero true true e z = absurd (z e)
  refused_there n zero false true e z = ap refuse (sym e)

  passed_there : (k : ℕ) (good long : Bool) → first_refusal (cond long k 2) (name_refusal good) ≡ 0
      → unless long 2 (unless_refused k (unless good 4 o)) ≡ o
  passed_there k good false e = absurd (omega arith)
  passed_there (suc k) good true e = absurd (omega arith)
  passed_there zero true true e = refl
  passed_there zero false true e = absurd (omega arith)

-- ---- the call

module _ {b : Lent} {c : Call} {ok good : Bool} {own : Volume → Outcome} (y : AsksTable b c ok good own) where
  abbrev v : Volume
  v = read b.table

  performs : perform b c ≡ written b (unless (good_length b.table && ok) 2 (unless_refused (table_refusal b.table) (unless good 4 (own v))))
  unfolding perform good_lengths
  performs =
      ap₂ (λ (long : Bool) (r : Outcome). written b (unless long 2 (unless_refused (table_refusal b.table) r)))
      (ap (λ (l : Bool). good_length b.table && l) (sym y.lengths)) (y.rules v)

  pub refused : (e : Refusal) → number e ≡ open_number b.table ok good → result_of (number e) b ≡ perform b c
  refused e n =
      sym (ap (written b) (refused_there (own v) (number e) (table_refusal b.table) good (good_length b.table && ok) n (never_none e))) ∙ sym performs

  module _ {o : Verdict} (x : OpenedAs b.table ok good o) where
    pub passed : (n : ℕ) (b' : Lent) → result_of n b' ≡ written b (own v) → result_of n b' ≡ perform b c
    passed n b' q =
        q
        ∙ sym (ap (written b) (passed_there (own v) (table_refusal b.table) good (good_length b.table && ok) x.none))
        ∙ sym performs

    all_long : T (other_lengths c (length b.answer) (length b.extra))
    all_long = true_is (sym y.lengths ∙ (known x).lengths_good)

    pub answer_long : length b.answer ≡ 24
    answer_long = eqb→eq (length b.answer) 24 (and_l (eqb (length b.answer) 24) _ all_long)

    pub arguments_long : T (call_lengths c (length b.extra))
    arguments_long = and_r (eqb (length b.answer) 24) _ all_long

-- a refusal that `?` hands on
pub answered : (b : Lent) (c : Call) (e : Refusal) → result_of (number e) b ≡ perform b c → {A : Type 0} (r : Result A Refusal) → IsErrAnd r (λ d. d ≡ e)
    → result_of (number_of r) b ≡ perform b c
answered b c e q r h = ap (λ (n : ℕ). result_of n b) (sym (handed_on r e h)) ∙ q

-- ---- a call on one data set

module _ {b : Lent} {c : Call} {ok good : Bool} {name : List ℕ} {own : Volume → Label → Outcome} (y : AsksSet b c ok good name own) where
  pub asks : AsksTable b c ok good (λ v. given (found v name) 5 (own v))
  asks = record { lengths = y.lengths; rules = y.rules }

  module _ {o : Verdict} (x : OpenedAs b.table ok good o) where
    pub not_found_lem : not_found ≡ find_slot b.table name (slots (geometry_of o.geometry)) → result_of not_found.number b ≡ perform b c
    not_found_lem e =
        let k = known x in
        passed asks x 5 b (sym (ap (λ (u : Option Label). written b (given u 5 (own (read b.table)))) (not_there b.table k.is_taken _ k.geometry_is name e)))

    pub found_at : (k : ℕ) → in_slot k ≡ find_slot b.table name (slots (geometry_of o.geometry)) → FoundAt b.table (read b.table) name k
    found_at k e = let w = known x in there b.table w.is_taken _ w.geometry_is name k e

    pub slot_inside : (k : ℕ) → in_slot k ≡ find_slot b.table name (slots (geometry_of o.geometry)) → k < slots (geometry_of o.geometry)
    slot_inside k e = let w = known x in there_inside b.table w.is_taken _ w.geometry_is name k e

    pub record_inside : (k : ℕ) → in_slot k ≡ find_slot b.table name (slots (geometry_of o.geometry)) → 140 * k + 140 ≤ length b.table
    record_inside k e = let n = (known x).long in let i = slot_inside k e in omega arith

    pub done : {k : ℕ} (f : FoundAt b.table (read b.table) name k) (n : ℕ) (b' : Lent) → result_of n b' ≡ written b (own (read b.table) f.label) → result_of n b' ≡ perform b c
    done f n b' q = passed asks x n b' (q ∙ sym (ap (λ (u : Option Label). written b (given u 5 (own (read b.table)))) f.same))

-- ---- opened and looked up in one

-- the data set is there
pub opened_there : {t : List ℕ} {ok good : Bool} {name m m' s s' : List ℕ} {opening : Result Verdict Refusal} → Opened t ok good opening → Mapped t m m' s s' (number_of opening)
    → (o : Verdict) → opening ≡ Ok o → (r : SetOpening) → r.geometry ≡ o.geometry → in_slot r.slot ≡ find_slot t name (slots (geometry_of o.geometry))
    → OpenedSet t ok good name m m' s s' (Ok r)
opened_there {t} {ok} {good} {name} {m} {m'} {s} {s'} {opening} x w o z r g f =
    record {
      opening = opening;
      opened = x;
      mapped = w;
      early = λ d p. absurd (not_both (sym z ∙ p));
      absent = λ u p e q. absurd (not_both q);
      there = λ y p. (o, z, ap (λ (i : SetOpening). i.geometry) (sym (same_value p)) ∙ g, ap (λ (i : SetOpening). in_slot i.slot) (sym (same_value p)) ∙ f);
    }

module _ {b : Lent} {c : Call} {ok good : Bool} {name : List ℕ} {own : Volume → Label → Outcome} (y : AsksSet b c ok good name own)
    {m m' s s' : List ℕ} {r : Result SetOpening Refusal} (x : OpenedSet b.table ok good name m m' s s' r) where
  pub set_refused : (e : Refusal) → r ≡ Err e → result_of (number e) b ≡ perform b c
  set_refused e q = go x.opening refl
    where
      go : (p : Result Verdict Refusal) → x.opening ≡ p → result_of (number e) b ≡ perform b c
      go (Ok o) z = let a = x.absent o z e q in ap (λ (i : ℕ). result_of i b) a.0 ∙ not_found_lem y (x.opened.opened o z) a.1
      go (Err d) z = refused (asks y) e (ap number (same_refusal (sym q ∙ x.early d z)) ∙ x.opened.refused d z)

  module _ {o : SetOpening} (z : r ≡ Ok o) where
    abbrev at : OpenedAs b.table ok good (x.there o z).0
    at = x.opened.opened (x.there o z).0 (x.there o z).1

    pub set_known : Roomy b.table m → length s ≡ 8 → KnownAt b.table name m' s' o
    set_known room eight =
        let f = x.there o z in
        let w = known at in
        let e = sym (ap geometry_of f.2) in
        record {
          is_taken = w.is_taken;
          ready = w.ready;
          geometry_is = sym e ∙ w.geometry_is;
          limits = subst Limits e w.limits;
          long = subst (λ (i : Geometry). length b.table ≡ 140 * slots i) e w.long;
          maps = subst (KnownMaps b.table m' s') e (known_maps at (ap number_of f.1) x.mapped room eight);
          it = found_at y at o.slot f.3;
          inside = subst (λ (i : Geometry). o.slot < slots i) e (slot_inside y at o.slot f.3);
        }

    pub set_answer_long : length b.answer ≡ 24
    set_answer_long = answer_long (asks y) at

    pub set_done : (f : FoundAt b.table (read b.table) name o.slot) (n : ℕ) (b' : Lent) → result_of n b' ≡ written b (own (read b.table) f.label) → result_of n b' ≡ perform b c
    set_done f n b' q = done y at f n b' q
