-- What document 02 promises of a data set with an expiry date, [5]; the statements are specs/Expiry. Assumes nothing.
use mathlib.Core.Path.{◌≡◌, refl, sym, ap, ◌∙◌, subst}
use mathlib.Core.Bool.{Bool, true, false, not, ◌&&◌}
use mathlib.Core.Option.{Option, none, some}
use mathlib.Core.List.{List}
use Prim.Native.Nat.{ℕ}
use native.Mathlib.Omega.{arith}
use lib.Dec.{T, eqb, eqb→eq}
use lib.ListN.{length}
use Rattle.model.specs.Basics.{find, map_option, or_else, part, same, zeros}
use Rattle.model.specs.Choice.{SpaceOption}
use Rattle.model.specs.Model.{Extent, Volume, overs, runs_of, total}
use Rattle.model.proofs.Lists.{and_l, and_r, by, clash, is_false, is_true, part_part, same_refl, same→eq, some_is, true_is}
use Rattle.rules.specs.Calls.{Amount, Reply, Request, accept, allocate, allocate_amount, allocate_by, allocate_pieces, allocate_stored, amount_of, given, given_back, grant, granted, in_range, new_set, option_for, refuse, remove_set, rule, scratch, settled, unless, with_attributes}
use Rattle.rules.specs.Dates.{Date, expiry_from, expiry_of, good_date, later, packed_form, stored_form, to_stored, with_expiry}
use Rattle.rules.specs.Expiry.{Accepts, DateIsStored, HasDate, InRecord, KeptUntil, NeverKept}
use Rattle.rules.specs.Full.{RefusedExactly}
use Rattle.rules.specs.Layout.{fields1, format1}
use Rattle.rules.specs.Predicates.{Unlike, Valid}
use Rattle.rules.specs.Slots.{added, is_new, removed}
use Rattle.rules.specs.Table.{good_name, named}
use Rattle.rules.proofs.Dates.{any_today, calendar_order, each_converts, each_stored, expiry_long, none_is_no_date}
use Rattle.rules.proofs.Fields.{field_at}
use Rattle.rules.proofs.Grants.{put_added}
use Rattle.rules.proofs.LabelBack.{lengths1, lens1}
use Rattle.rules.proofs.Labels.{find_insert, unlike_any}
use Rattle.rules.proofs.Released.{After, after_given, after_unless}

-- ---- in the record

-- attributes 0 to 13 are its third field, from byte 45 on
pub in_record : InRecord
unfolding format1
in_record g l h =
    sym (part_part 45 14 11 3 (format1 g l) (omega arith))
    ∙ ap (part 11 3) (field_at 2 lengths1 (fields1 g l) (lens1 g l h) (omega arith))
    ∙ part_part 0 14 11 3 l.attributes (omega arith)

-- ---- allocate stores it

module _ (v : Volume) (h : Valid v) (q : Request) (nl : length q.name ≡ 44) (al : length q.attributes ≡ 52) where
  abbrev P : Reply → Volume → Type 0
  P r w = HasDate q w × T (good_name q.name)

  module _ (good : T (good_name q.name)) (s : List ℕ) (es : expiry_from q.expiry ≡ some s) where
    abbrev q' : Request
    q' = with_attributes q (with_expiry s q.attributes)

    module _ (a : Amount) (o : SpaceOption) (range : T (in_range v.geometry q.secondary a)) (unlike : Unlike q.name v.labels) (xs : List Extent) (gr : grant v.geometry v.labels o a ≡ some xs) where
      has_date : (w : Volume) → added v (new_set q' a xs) ≡ some w → HasDate q w
      has_date w e =
          let p = put_added v h q' nl good (expiry_long q.expiry s q.attributes es al) a o range unlike xs gr w e in
          let n : p.label.name ≡ q.name = p.name in
          let u : Unlike p.label.name v.labels = subst (λ (m : List ℕ). Unlike m v.labels) (sym n) unlike in
          let here : named q.name p.label ≡ true = ap (λ (m : List ℕ). same m q.name) n ∙ is_true (same_refl q.name) in
          record {
            stored = s;
            date = es;
            label = p.label;
            there =
                ap (find (named q.name)) p.labels
                ∙ find_insert q.name p.label v.labels u
                ∙ ap (λ (b : Bool). or_else b p.label (find (named q.name) v.labels)) here;
            attributes = p.attributes;
          }

    after_stored : After P (allocate_stored v q')
    after_stored =
        after_given P (amount_of q.kind q.start q.amount) 7 (allocate_amount v q')
        (λ a _.
        after_given P (option_for a q.option) 7 (allocate_by v q' a)
        (λ o _.
        after_unless P (in_range v.geometry q.secondary a) 7 _
        (λ range.
        after_unless P (is_new v q.name) 6 _
        (λ new.
        after_given P (grant v.geometry v.labels o a) 9 (allocate_pieces v q' a)
        (λ xs gr.
        after_given P (added v (new_set q' a xs)) 11 (accept (granted (overs xs)))
        (λ w e. (has_date a o range (unlike_any q.name v.labels (is_false new)) xs gr w e, good)))))))

  after_allocate : After P (rule v (allocate q))
  unfolding rule
  after_allocate = after_unless P (good_name q.name) 4 _ (λ good. go good (expiry_from q.expiry) refl)
    where
      go : T (good_name q.name) → (o : Option (List ℕ)) → expiry_from q.expiry ≡ o
          → After P (given (map_option (λ s. with_attributes q (with_expiry s q.attributes)) o) 14 (allocate_stored v))
      go good none e = tt
      go good (some s) e = after_stored good s e

module _ (v : Volume) (q : Request) (w : Volume) (x : Accepts v q w) where
  name_long : length q.name ≡ 44
  name_long = let l = x.lengths in eqb→eq _ 44 (search (and_l, and_r) depth 4)

  attributes_long : length q.attributes ≡ 52
  attributes_long = let l = x.lengths in eqb→eq _ 52 (search (and_l, and_r) depth 4)

  both : HasDate q w × T (good_name q.name)
  both = subst (After (P v x.valid q name_long attributes_long)) x.accepted (after_allocate v x.valid q name_long attributes_long)

pub date_is_stored : DateIsStored
date_is_stored v q w x = (both v q w x).0

-- ---- scratch goes by it

module _ (v : Volume) (q : Request) (w : Volume) (x : Accepts v q w) (b : Date) (tb : T (good_date b)) (override : ℕ) where
  abbrev d : HasDate q w
  d = date_is_stored v q w x

  today_is : to_stored (packed_form b) ≡ some (stored_form b)
  today_is = (each_converts (packed_form b) (stored_form b)).stored_always (b, tb, refl, refl)

  expiry_is : expiry_of d.label.attributes ≡ d.stored
  expiry_is = ap expiry_of d.attributes ∙ (each_stored q.expiry d.stored q.attributes d.date (attributes_long v q w x)).expiry

  scratch_is : rule w (scratch q.name (packed_form b) override) ≡ unless (not (later d.stored (stored_form b) && eqb override 0)) 13 (remove_set w q.name d.label)
  unfolding rule
  scratch_is =
      let name_good_lem : good_name q.name ≡ true = is_true (both v q w x).1 in
      rw (name_good_lem, today_is, d.there)
      (ap (λ (s : List ℕ). unless (not (later s (stored_form b) && eqb override 0)) 13 (remove_set w q.name d.label)) expiry_is)

  not_13 : (o : Option Volume) (r : Reply) → settled r o ≡ refuse 13 → ⊥
  not_13 none r e = let z : ◌≡◌ {A = ℕ} 11 13 = cc in omega arith
  not_13 (some u) r e = let z : ◌≡◌ {A = ℕ} 0 1 = cc in omega arith

  refused_exactly : (k : Bool) → (later d.stored (stored_form b) && eqb override 0) ≡ k → RefusedExactly (rule w (scratch q.name (packed_form b) override)) 13 k
  refused_exactly true e = (λ _. refl, λ _. scratch_is ∙ rw e)
  refused_exactly false e = (
    λ r. absurd (not_13 (removed w q.name) (given_back (total (runs_of d.label))) (sym (scratch_is ∙ rw e) ∙ r)),
    λ t. absurd (clash t refl),
  )

-- what is stored for a date
stored_for : (e s : List ℕ) (a : Date) → T (good_date a) → e ≡ packed_form a → expiry_from e ≡ some s → s ≡ stored_form a
unfolding expiry_from
stored_for e s a ta q f =
    let c : to_stored e ≡ some (stored_form a) = (each_converts e (stored_form a)).stored_always (a, ta, sym q, refl) in
    by (same e (zeros 4))
    (λ k.
    let n : to_stored e ≡ none = ap to_stored (same→eq e (zeros 4) (true_is k)) ∙ none_is_no_date.0 in
    absurd (let y : ◌≡◌ {A = Option (List ℕ)} none (some (stored_form a)) = sym n ∙ c in let z : ◌≡◌ {A = ℕ} 0 1 = cc in omega arith))
    (λ k. let g : to_stored e ≡ some s = rw k at f in some_is s (stored_form a) (sym g ∙ c))

none_for : (e s : List ℕ) → e ≡ zeros 4 → expiry_from e ≡ some s → s ≡ zeros 3
unfolding expiry_from
none_for e s q f = sym (some_is (zeros 3) s (ap expiry_from (sym q) ∙ f))

pub kept_until : KeptUntil
kept_until v q w x a b ta tb e override =
    let y = date_is_stored v q w x in
    refused_exactly v q w x b tb override _
    (ap (λ (k : Bool). k && eqb override 0)
    (ap (λ (s : List ℕ). later s (stored_form b)) (stored_for q.expiry y.stored a ta e y.date) ∙ calendar_order a b ta tb))

pub never_kept : NeverKept
never_kept v q w x e b tb override r =
    let y = date_is_stored v q w x in
    let z : y.stored ≡ zeros 3 = none_for q.expiry y.stored e y.date in
    let never : later y.stored (stored_form b) ≡ false = ap (λ (s : List ℕ). later s (stored_form b)) z ∙ (any_today (packed_form b) (stored_form b) (today_is v q w x b tb override)).none in
    clash ((refused_exactly v q w x b tb override false (ap (λ (k : Bool). k && eqb override 0) never)).0 r) refl
