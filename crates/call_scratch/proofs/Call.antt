-- Scratch and its preview as a whole: their refusals in their order. Assumes nothing.
use mathlib.Core.Path.{◌≡◌, refl, sym, ap, ◌∙◌, subst}
use mathlib.Core.Bool.{Bool, true, false, not, ◌&&◌}
use mathlib.Core.Option.{Option, none, some}
use mathlib.Core.List.{List, []}
use Prim.Native.Nat.{ℕ, ◌*◌, ◌+◌, ◌≤◌, ◌<◌}
use native.Mathlib.Omega.{arith}
use lib.Dec.{eqb}
use lib.ListN.{length}
use Rattle.std.specs.Prelude.{Result, Ok, Err}
use Rattle.std.specs.Result.{IsErrAnd}
use Rattle.refusals.specs.Numbers.{number, number_of}
use Rattle.refusals.specs.declared.Refusal.{Refusal}
use Rattle.refusals.specs.declared.Refusal.TheVariants.{Date, NotFound, Unexpired}
use Rattle.refusals.proofs.Laws.{not_both, same_refusal, same_value}
use Rattle.check_table.specs.declared.Verdict.{Verdict}
use Rattle.open_table.specs.declared.SetOpening.{SetOpening}
use Rattle.model.specs.Basics.{part}
use Rattle.model.specs.Model.{Label, Volume, slots}
use Rattle.rules.specs.Calls.{Outcome, given, on_copy, preview, remove_set, rule, scratch, scratch_on, scratch_set, unless}
use Rattle.rules.specs.Dates.{expiry_of, later, to_stored, unexpired}
use Rattle.rules.specs.Entries.{Lent, lent, perform, result_of, written}
use Rattle.rules.specs.Previews.{with_table}
use Rattle.rules.specs.Reading.{read}
use Rattle.rules.specs.Table.{good_name}
use Rattle.rules.proofs.Expiry.{in_record}
use Rattle.rules.proofs.Previews.{as_on_copy}
use Rattle.dscb.specs.Forms.{geometry_of}
use Rattle.dscb.specs.Records.{slot_bytes}
use Rattle.names.specs.Find.{find_slot, in_slot, not_found}
use Rattle.check_table.specs.Check.{Roomy}
use Rattle.open_table.specs.Opening.{FoundAt, Mapped, OpenedAs, open_number}
use Rattle.open_table.proofs.Calls.{AsksSet, AsksTable, answer_long, answered, asks, done, not_found_lem, passed, preview_set, refused}
use Rattle.open_table.proofs.Lookup.{there, there_inside}
use Rattle.open_table.proofs.Numbers.{known, known_maps}
use Rattle.call_scratch.specs.Expired.{Lengths, MayGo, OpensExpired}

module _ (t name today : List ℕ) (override : ℕ) (ok : Bool) where
  -- behind the name: today's date, and then the data set
  on_table : (a : List ℕ) → Lengths name today a ok
      → AsksTable (lent t a []) (scratch name today override) ok (good_name name) (λ v. given (to_stored today) 14 (scratch_on v name override))
  unfolding rule
  on_table a e = record { lengths = e; rules = λ v. refl }

  module _ (stored : List ℕ) (date : to_stored today ≡ some stored) where
    on_set : (a : List ℕ) → Lengths name today a ok
        → AsksSet (lent t a []) (scratch name today override) ok (good_name name) name (λ v. scratch_set v name stored override)
    unfolding rule
    on_set a e = record { lengths = e; rules = λ v. rw date }

  -- ---- the cases of `open_expired`

  module _ {m s : List ℕ} where
    refuses : (e : Refusal)
        → ((a : List ℕ) → Lengths name today a ok → result_of (number e) (lent t a []) ≡ perform (lent t a []) (scratch name today override))
        → OpensExpired t name today override ok m s (Err e)
    refuses e h =
        record {
          refused = λ d q a l. ap (λ (k : Refusal). result_of (number k) (lent t a [])) (sym (same_refusal q)) ∙ h a l;
          goes = λ y q. absurd (not_both (sym q));
        }

    -- what `?` hands on
    pub early : (e : Refusal) → number e ≡ open_number t ok (good_name name) → (r : Result SetOpening Refusal) → IsErrAnd r (λ d. d ≡ e)
        → OpensExpired t name today override ok m s r
    early e n (Ok y) h = absurd h
    early e n (Err d) h = refuses d (λ a l. refused (on_table a l) d (ap number h ∙ n))

    module _ {o : Verdict} (x : OpenedAs t ok (good_name name) o) where
      pub no_date_lem : to_stored today ≡ none → OpensExpired t name today override ok m s (Err Date)
      no_date_lem d =
          refuses Date (λ a l.
          passed (on_table a l) x 14 (lent t a [])
          (sym (ap (λ (u : Option (List ℕ)). written (lent t a []) (given u 14 (scratch_on (read t) name override))) d)))

      module _ (stored : List ℕ) (date : to_stored today ≡ some stored) where
        pub absent : not_found ≡ find_slot t name (slots (geometry_of o.geometry)) → OpensExpired t name today override ok m s (Err NotFound)
        absent f = refuses NotFound (λ a l. not_found_lem (on_set stored date a l) x f)

        module _ {m₀ s₀ : List ℕ} {n : ℕ} (z : n ≡ 0) (w : Mapped t m₀ m s₀ s n) (room : Roomy t m₀) (eight : length s₀ ≡ 8)
            (k : ℕ) (f : in_slot k ≡ find_slot t name (slots (geometry_of o.geometry))) where
          at : FoundAt t (read t) name k
          at = let y = known x in there t y.is_taken _ y.geometry_is name k f

          pub inside : k < slots (geometry_of o.geometry)
          inside = let y = known x in there_inside t y.is_taken _ y.geometry_is name k f

          pub record_fits : 140 * k + 140 ≤ length t
          record_fits = let n = (known x).long in let i = inside in omega arith

          -- the date in the record is the label's
          date_there : part 56 3 (slot_bytes t k) ≡ expiry_of at.label.attributes
          date_there =
              ap (λ (j : ℕ). part 56 3 (slot_bytes t j)) (sym at.slot)
              ∙ ap (part 56 3) at.records.one
              ∙ in_record (read t).geometry at.label at.records.good

          module _ (u : Bool) (test : u ≡ (later (part 56 3 (slot_bytes t k)) stored && eqb override 0)) where
            unexpired_is : unexpired at.label.attributes stored override ≡ u
            unexpired_is = ap (λ (d : List ℕ). later d stored && eqb override 0) (sym date_there) ∙ sym test

            pub not_yet : u ≡ true → OpensExpired t name today override ok m s (Err Unexpired)
            not_yet q =
                refuses Unexpired (λ a l.
                done (on_set stored date a l) x at 13 (lent t a [])
                (sym (ap (λ (b : Bool). written (lent t a []) (unless (not b) 13 (remove_set (read t) name at.label))) (unexpired_is ∙ q))))

            here : u ≡ false → MayGo t name today override ok m s (record { geometry = o.geometry; slot = k })
            here q =
                let y = known x in
                record {
                  opening = o;
                  opened = x;
                  known =
                      record {
                        is_taken = y.is_taken;
                        ready = y.ready;
                        geometry_is = y.geometry_is;
                        limits = y.limits;
                        long = y.long;
                        maps = known_maps x z w room eight;
                        it = at;
                        inside = inside;
                      };
                  stored = stored;
                  date = date;
                  expired = unexpired_is ∙ q;
                }

            pub may_go : u ≡ false → OpensExpired t name today override ok m s (Ok (record { geometry = o.geometry; slot = k }))
            may_go q =
                record {
                  refused = λ e r. absurd (not_both r);
                  goes = λ y r. subst (MayGo t name today override ok m s) (same_value r) (here q);
                }

  -- ---- nothing refuses it: what is left is to take the data set out

  module _ {m s : List ℕ} {r : SetOpening} (y : MayGo t name today override ok m s r) (a : List ℕ) (l : Lengths name today a ok) where
    abbrev b : Lent
    b = lent t a []

    abbrev v : Volume
    v = read t

    abbrev it : Label
    it = y.known.it.label

    pub answer_fits : length a ≡ 24
    answer_fits = answer_long (asks (on_set y.stored y.date a l)) y.opened

    goes_on : unless (not (unexpired it.attributes y.stored override)) 13 (remove_set v name it) ≡ remove_set v name it
    goes_on = ap (λ (u : Bool). unless (not u) 13 (remove_set v name it)) y.expired

    pub taken_out : (n : ℕ) (b' : Lent) → result_of n b' ≡ written b (remove_set v name it) → result_of n b' ≡ perform b (scratch name today override)
    taken_out n b' q = done (on_set y.stored y.date a l) y.opened y.known.it n b' (q ∙ sym (ap (written b) goes_on))

    pub foreseen : (n : ℕ) (b' : Lent) → result_of n b' ≡ written b (on_copy v (remove_set v name it)) → result_of n b' ≡ perform b (preview (scratch name today override))
    foreseen n b' q =
        done (preview_set (on_set y.stored y.date a l)) y.opened y.known.it n b'
        (q ∙ sym (ap (λ (u : Outcome). written b (on_copy v u)) goes_on))

-- refused, as `?` hands it on; a preview with what refuses the call
module _ {t name today : List ℕ} {override : ℕ} {ok : Bool} {m s : List ℕ} {r : Result SetOpening Refusal}
    (x : OpensExpired t name today override ok m s r) (e : Refusal) (z : r ≡ Err e)
    (a : List ℕ) (l : Lengths name today a ok) {A : Type 0} (o : Result A Refusal) (h : IsErrAnd o (λ d. d ≡ e)) where
  pub call_refused : result_of (number_of o) (lent t a []) ≡ perform (lent t a []) (scratch name today override)
  call_refused = answered _ _ e (x.refused e z a l) o h

  pub preview_refused : result_of (number_of o) (lent t a []) ≡ perform (lent t a []) (preview (scratch name today override))
  preview_refused = ap (with_table t) call_refused ∙ sym (as_on_copy (lent t a []) (scratch name today override))
