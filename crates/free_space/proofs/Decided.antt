-- What is decided of a release; and the preview of a scratch. Assumes nothing.
use mathlib.Core.Path.{◌≡◌, refl, sym, ap, ◌∙◌, subst}
use mathlib.Core.Bool.{Bool, true, false}
use mathlib.Core.Option.{Option, none, some}
use mathlib.Core.List.{List, []}
use Prim.Native.Nat.{ℕ, ◌-◌}
use Rattle.model.specs.Model.{Geometry, Volume, runs_of, total}
use Rattle.rules.specs.Calls.{answer, given_back, good_ttr, remove_set, tracks_kept_of}
use Rattle.rules.specs.Entries.{lent, result_of, written}
use Rattle.rules.specs.Slots.{removed}
use Rattle.rules.proofs.Previews.{copied, uncopied}
use Rattle.rules.proofs.ScratchFits.{scratch_fits}
use Rattle.std.specs.Prelude.{Some, None, Result, Ok, Err}
use Rattle.std.specs.Result.{IsErrAnd}
use Rattle.refusals.specs.Numbers.{number, number_of}
use Rattle.refusals.specs.declared.Refusal.{Refusal}
use Rattle.refusals.specs.declared.Refusal.TheVariants.{Ttr, VtocFull}
use Rattle.refusals.proofs.Laws.{handed_on, never_none, not_both, same_value}
use Rattle.set_extents.specs.declared.Kept.{Kept}
use Rattle.update.proofs.Replies.{back_foreseen}
use Rattle.free_space.specs.declared.Cut.{Cut}
use Rattle.free_space.specs.declared.Decision.{Decision}
use Rattle.free_space.specs.declared.Measured.{Measured}
use Rattle.free_space.specs.Deciding.{CutPlanned, Decides, ForeseesAt, release_of}
use Rattle.free_space.specs.Giving.{At, Measures}
use Rattle.free_space.specs.Shorter.{CutPlans}
use Rattle.free_space.proofs.Release.{bad_ttr, cut_foreseen, full}

module _ {g : Geometry} {t m s : List ℕ} {k : ℕ} (d : At g t m s k) where
  -- refused: the answer stays as it was
  refuses : (ttr : ℕ) (a m' c : List ℕ) (e : Refusal)
      → result_of (number e) (lent t a []) ≡ written (lent t a []) (release_of d ttr) → Decides d ttr a m' c a (Err e)
  refuses ttr a m' c e o =
      record {
        replied = copied d.volume (lent t a []) (lent t a []) (number e) (never_none e) (release_of d ttr) o;
        planned = λ x q. absurd (not_both (sym q));
      }

  module _ (ttr : ℕ) {x : Measured} (y : Measures g t k d.it.label x) where
    pub ttr_refused : (a m' c : List ℕ) → good_ttr ttr x.tracks ≡ false → Decides d ttr a m' c a (Err Ttr)
    ttr_refused a m' c h = refuses ttr a m' c Ttr (bad_ttr d ttr y a h)

    module _ (ok : good_ttr ttr x.tracks ≡ true) {n : ℕ} (count : n ≡ tracks_kept_of g ttr d.it.label) {m' s' c : List ℕ} where
      pub full_refused : {kept : Kept} {few : Bool} → CutPlans g t m m' s s' c x n kept few None → (a : List ℕ)
          → Decides d ttr a m' c a (Err VtocFull)
      full_refused z a = refuses ttr a m' c VtocFull (full d ttr y ok count z z.plan a)

      -- the tracks are given back, and the change is planned
      pub decided : {r : Cut} → CutPlans g t m m' s s' c x n r.kept r.few (Some r.plan)
          → (a a' : List ℕ) → a' ≡ answer (given_back (x.tracks - n)) → Decides d ttr a m' c a' (Ok (record { set = x; cut = r }))
      decided z a a' e =
          record {
            replied = cut_foreseen d ttr y ok count z z.plan a a' e;
            planned = λ i q.
                subst (CutPlanned d ttr m' c a') (same_value q)
                (record { s' = s'; n = n; measured = y; ttr_good = ok; count = count; plans = z; answered = e });
          }

  -- a refusal that `?` hands on: the table stays as it was
  pub declined : (ttr : ℕ) {a m' c a' : List ℕ} {r : Result Decision Refusal} → Decides d ttr a m' c a' r → (e : Refusal) → r ≡ Err e
      → {A : Type 0} (o : Result A Refusal) → IsErrAnd o (λ y. y ≡ e)
      → result_of (number_of o) (lent t a' []) ≡ written (lent t a []) (release_of d ttr)
  declined ttr {a} {m'} {c} {a'} x e z o h =
      ap (λ (n : ℕ). result_of n (lent t a' [])) (sym (handed_on o e h))
      ∙ uncopied d.volume (lent t a []) (lent t a' []) (number e) (never_none e) (release_of d ttr)
      (ap (λ (q : Result Decision Refusal). result_of (number_of q) (lent t a' [])) (sym z) ∙ x.replied)

-- ---- scratch

one_there : (o : Option Volume) → (o ≡ none → ⊥) → (w : Volume) × (o ≡ some w)
one_there none h = absurd (h refl)
one_there (some w) h = (w, refl)

pub gone_foreseen : {g : Geometry} {t m s : List ℕ} {k : ℕ} (d : At g t m s k) {x : Measured} → Measures g t k d.it.label x
    → (a a' : List ℕ) → a' ≡ answer (given_back x.tracks) → ForeseesAt d (remove_set d.volume d.name d.it.label) a 0 a'
gone_foreseen {t = t} d y a a' e =
    let v = d.volume in
    let l = d.it.label in
    let w = one_there (removed v d.name) (scratch_fits v d.ready.valid d.name l d.it.same) in
    back_foreseen t a _ v w.0 d.ready.bytes w.1 a' (total (runs_of l)) (e ∙ ap (λ (n : ℕ). answer (given_back n)) y.spread.sum)
