-- What a call answers to a change: 11 where the plan does not fit, its reply once the table is written; and the reply of its preview.
-- Assumes nothing.
use mathlib.Core.Path.{◌≡◌, refl, sym, ap, ap₂, ◌∙◌}
use mathlib.Core.Option.{Option, none, some}
use mathlib.Core.List.{List, []}
use Prim.Native.Nat.{ℕ}
use Rattle.model.specs.Model.{Run, Volume}
use Rattle.rules.specs.Calls.{Reply, accept, answer, given_back, granted, on_copy, settled}
use Rattle.rules.specs.Entries.{lent, result_of, written}
use Rattle.rules.specs.Layout.{encode}
use Rattle.update.specs.Commit.{Leaves}

-- t and a are the table and the answer before the call
module _ (t a : List ℕ) (o : Option Volume) where
  pub not_fitting : (r : Reply) → o ≡ none → result_of 11 (lent t a []) ≡ written (lent t a []) (settled r o)
  not_fitting r e = sym (ap (λ (x : Option Volume). written (lent t a []) (settled r x)) e)

  -- a reply that fills the answer and nothing else
  replied : (r : Reply) → ((w : Volume) → result_of 0 (lent (encode w) (answer r) []) ≡ written (lent t a []) (accept r w))
      → (t' a' : List ℕ) → Leaves o t' → a' ≡ answer r → result_of 0 (lent t' a' []) ≡ written (lent t a []) (settled r o)
  replied r plain t' a' w e =
      ap₂ (λ (x y : List ℕ). result_of 0 (lent x y [])) w.2 e ∙ plain w.0 ∙ sym (ap (λ (x : Option Volume). written (lent t a []) (settled r x)) w.1)

  pub is_granted : (ps : List Run) (t' a' : List ℕ) → Leaves o t' → a' ≡ answer (granted ps) → result_of 0 (lent t' a' []) ≡ written (lent t a []) (settled (granted ps) o)
  is_granted ps = replied (granted ps) (λ w. refl)

  pub is_given_back : (n : ℕ) (t' a' : List ℕ) → Leaves o t' → a' ≡ answer (given_back n) → result_of 0 (lent t' a' []) ≡ written (lent t a []) (settled (given_back n) o)
  is_given_back n = replied (given_back n) (λ w. refl)

  -- ---- on a copy: there is a volume that the change would leave, and the table is that of v, as it was

  module _ (v w : Volume) (same : t ≡ encode v) (there : o ≡ some w) (a' : List ℕ) where
    foreseen : (r : Reply) → result_of 0 (lent (encode v) (answer r) []) ≡ written (lent t a []) (accept r v) → a' ≡ answer r
        → result_of 0 (lent t a' []) ≡ written (lent t a []) (on_copy v (settled r o))
    foreseen r plain e =
        ap₂ (λ (x y : List ℕ). result_of 0 (lent x y [])) same e ∙ plain ∙ sym (ap (λ (x : Option Volume). written (lent t a []) (on_copy v (settled r x))) there)

    pub grant_foreseen : (ps : List Run) → a' ≡ answer (granted ps) → result_of 0 (lent t a' []) ≡ written (lent t a []) (on_copy v (settled (granted ps) o))
    grant_foreseen ps = foreseen (granted ps) refl

    pub back_foreseen : (n : ℕ) → a' ≡ answer (given_back n) → result_of 0 (lent t a' []) ≡ written (lent t a []) (on_copy v (settled (given_back n) o))
    back_foreseen n = foreseen (given_back n) refl
