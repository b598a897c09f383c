-- Allocate and its preview as a whole: their refusals in their order. Assumes nothing.
use mathlib.Core.Path.{◌≡◌, refl, sym, ap, ◌∙◌}
use mathlib.Core.Bool.{Bool, ◌&&◌}
use mathlib.Core.Option.{Option, none, some}
use mathlib.Core.List.{List, []}
use Prim.Native.Nat.{ℕ}
use lib.Dec.{T, eqb, eqb→eq}
use lib.ListN.{length}
use Rattle.check_table.specs.declared.Verdict.{Verdict}
use Rattle.model.specs.Basics.{map_option}
use Rattle.model.specs.Model.{Geometry, Volume}
use Rattle.model.proofs.Lists.{and_l, and_r, true_is}
use Rattle.rules.specs.Calls.{Call, Outcome, Request, allocate, allocate_stored, dated, given, in_range, on_copy, preview, request, rule, with_attributes}
use Rattle.rules.specs.Dates.{expiry_from, with_expiry}
use Rattle.rules.specs.Entries.{Lent, lent, perform, result_of, written}
use Rattle.rules.specs.Reading.{read}
use Rattle.rules.specs.Table.{good_name}
use Rattle.rules.proofs.Dates.{expiry_long}
use Rattle.dscb.specs.Forms.{geometry_of}
use Rattle.open_table.specs.Opening.{Known, KnownMaps, OpenedAs}
use Rattle.open_table.proofs.Calls.{AsksTable, answer_long, arguments_long, passed, preview_table}
use Rattle.open_table.proofs.Numbers.{known}
use Rattle.grant_space.specs.Asking.{Asking, Chooses, Foresees, choice}
use Rattle.choose_pieces.specs.Options.{to_option}
use Rattle.request.specs.declared.Request.{Request as Asked}
use Rattle.request.specs.Request.{to_amount}
use Rattle.refusals.specs.Numbers.{number}
use Rattle.refusals.specs.declared.Refusal.{Refusal}
use Rattle.std.specs.Prelude.{Result, Err}
use Rattle.call_allocate.specs.Vetting.{VettedAs, Vets}
use Rattle.call_allocate.proofs.Vetted.{choice_is}

module _ (t name at : List ℕ) (kind start amount sec option : ℕ) (expiry a : List ℕ) (ok : Bool)
    (lengths : ok ≡ (eqb (length a) 24 && (eqb (length name) 44 && eqb (length at) 52 && eqb (length expiry) 4))) where
  abbrev asked : Request
  asked = request name at kind start amount sec option expiry

  abbrev call : Call
  call = allocate asked

  abbrev b : Lent
  b = lent t a []

  abbrev own : Volume → Outcome
  own v = given (dated asked) 14 (allocate_stored v)

  pub allocates : AsksTable b call ok (good_name name) own
  unfolding rule
  allocates = record { lengths = lengths; rules = λ v. refl }

  pub previews : AsksTable b (preview call) ok (good_name name) (λ v. on_copy v (own v))
  previews = preview_table allocates

  module _ {o : Verdict} (x : OpenedAs t ok (good_name name) o) where
    abbrev g : Geometry
    g = geometry_of o.geometry

    w : Known t ok (good_name name) o
    w = known x

    arguments : T (eqb (length name) 44 && eqb (length at) 52 && eqb (length expiry) 4)
    arguments = arguments_long allocates x

    pub attributes_fit : length at ≡ 52
    attributes_fit = let y = arguments in eqb→eq (length at) 52 (search (and_l, and_r) depth 4)

    -- ---- by the date: none, or its stored form s

    module _ (d : Option (List ℕ)) (date : expiry_from expiry ≡ d) where
      abbrev behind : Volume → Outcome
      behind v = given (map_option (λ s. with_attributes asked (with_expiry s at)) d) 14 (allocate_stored v)

      on_date : own (read t) ≡ behind (read t)
      on_date = ap (λ (u : Option (List ℕ)). given (map_option (λ s. with_attributes asked (with_expiry s at)) u) 14 (allocate_stored (read t))) date

      by_date : (n : ℕ) (b' : Lent) → result_of n b' ≡ written b (behind (read t)) → result_of n b' ≡ perform b call
      by_date n b' e = passed allocates x n b' (e ∙ sym (ap (written b) on_date))

      preview_by_date : (n : ℕ) (b' : Lent) → result_of n b' ≡ written b (on_copy (read t) (behind (read t))) → result_of n b' ≡ perform b (preview call)
      preview_by_date n b' e = passed previews x n b' (e ∙ sym (ap (λ (u : Outcome). written b (on_copy (read t) u)) on_date))

    pub no_date_lem : expiry_from expiry ≡ none → result_of 14 b ≡ perform b call
    no_date_lem date = by_date none date 14 b refl

    pub preview_no_date : expiry_from expiry ≡ none → result_of 14 b ≡ perform b (preview call)
    preview_no_date date = preview_by_date none date 14 b refl

    module _ (s : List ℕ) (date : expiry_from expiry ≡ some s) where
      abbrev at' : List ℕ
      at' = with_expiry s at

      module _ {r : Result Asked Refusal} (y : Vets t name kind start amount sec option r) where
        pub refused_so : (e : Refusal) → r ≡ Err e → result_of (number e) b ≡ perform b call
        refused_so e p = by_date (some s) date (number e) b (sym (ap (written b) (y.refused e p at' expiry)))

        pub preview_refused : (e : Refusal) → r ≡ Err e → result_of (number e) b ≡ perform b (preview call)
        preview_refused e p = preview_by_date (some s) date (number e) b (sym (ap (λ (u : Outcome). written b (on_copy (read t) u)) (y.refused e p at' expiry)))

      module _ {q : Asked} (y : VettedAs t name kind start amount sec option q) where
        -- of the request with its date among the attributes, wherever these stand
        pub asking : {m n : List ℕ} → KnownMaps t m n g → (ds : List ℕ) → ds ≡ at' → Asking t m n name ds a g (to_option q.option) (to_amount q.amount) q.secondary
        asking u ds eds =
            let y' = arguments in
            record {
              is_taken = w.is_taken;
              geometry_is = w.geometry_is;
              shown = u.shown;
              map_fits = u.map_fits;
              long_slots = u.long_slots;
              long_answer = answer_long allocates x;
              long_name = eqb→eq (length name) 44 (search (and_l, and_r) depth 4);
              long_attributes = ap length eds ∙ expiry_long expiry s at date attributes_fit;
              name_good = true_is w.names_good;
              name_new = y.new;
              ranges = true_is (ap (λ (i : Geometry). in_range i q.secondary (to_amount q.amount)) w.geometry_is ∙ y.ranges);
            }

        chosen : choice t name at' (to_option q.option) (to_amount q.amount) q.secondary ≡ allocate_stored (read t) (with_attributes asked at')
        chosen = sym (choice_is t name kind start amount sec option y at' expiry)

        pub placed : (ds : List ℕ) → ds ≡ at' → (n : ℕ) (t' a' : List ℕ) → Chooses t name ds a (to_option q.option) (to_amount q.amount) q.secondary n t' a' → result_of n (lent t' a' []) ≡ perform b call
        placed ds eds n t' a' u =
            by_date (some s) date n (lent t' a' []) (u ∙ ap (λ (d : List ℕ). written b (choice t name d (to_option q.option) (to_amount q.amount) q.secondary)) eds ∙ ap (written b) chosen)

        pub foreseen : (n : ℕ) (a' : List ℕ) → Foresees t name at' a (to_option q.option) (to_amount q.amount) q.secondary n a' → result_of n (lent t a' []) ≡ perform b (preview call)
        foreseen n a' u =
            preview_by_date (some s) date n (lent t a' []) (u ∙ ap (λ (o : Outcome). written b (on_copy (read t) o)) chosen)
