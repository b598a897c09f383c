-- What refuses a call when it opens a table, and what it knows where nothing does. Assumes nothing.
use mathlib.Core.Path.{◌≡◌, refl, sym, ap, ◌∙◌}
use mathlib.Core.Bool.{Bool, true, false, cond, ◌&&◌}
use mathlib.Core.List.{List}
use Prim.Native.Nat.{ℕ, zero, suc}
use native.Mathlib.Omega.{arith}
use lib.Dec.{T}
use lib.ListN.{length}
use Rattle.check_table.specs.declared.Verdict.{Verdict}
use Rattle.model.specs.Model.{slots}
use Rattle.model.proofs.Lists.{and_r, by, clash, is_true, true_is}
use Rattle.rules.specs.Table.{good_length, table_refusal, taken}
use Rattle.dscb.specs.Forms.{geometry_of}
use Rattle.check_table.specs.Check.{Roomy}
use Rattle.refusals.specs.Numbers.{number}
use Rattle.refusals.specs.declared.Refusal.{Refusal}
use Rattle.refusals.proofs.Laws.{never_none}
use Rattle.open_table.specs.Opening.{Known, KnownMaps, Mapped, OpenedAs, first_refusal, name_refusal, open_number}
use Rattle.open_table.proofs.Laws.{ready}
use Rattle.open_table.proofs.Lookup.{limits_of, table_long}
use Rattle.open_table.proofs.Room.{room_of}

-- ---- names

-- the refusal of a name that breaks the rule comes after the others
more_refused : (k : ℕ) (a b : Bool) → first_refusal k (name_refusal (a && b)) ≡ first_refusal (first_refusal k (name_refusal a)) (name_refusal b)
more_refused zero true b = refl
more_refused zero false b = refl
more_refused (suc k) a b = refl

first_stays : (k n : ℕ) → (k ≡ 0 → ⊥) → k ≡ first_refusal k n
first_stays zero n z = absurd (z refl)
first_stays (suc k) n z = refl

-- what is refused before a name is looked at
pub refused_before : (t : List ℕ) (ok good more : Bool) (e : Refusal) → number e ≡ open_number t ok good → number e ≡ open_number t ok (good && more)
refused_before t ok good more e q =
    first_stays (number e) (name_refusal more) (never_none e)
    ∙ ap (λ (k : ℕ). first_refusal k (name_refusal more)) q
    ∙ sym (more_refused (cond (good_length t && ok) (table_refusal t) 2) good more)

module _ {t : List ℕ} {ok good : Bool} {o : Verdict} (x : OpenedAs t ok good o) (more : Bool) where
  with_name : open_number t ok (good && more) ≡ name_refusal more
  with_name = more_refused (cond (good_length t && ok) (table_refusal t) 2) good more ∙ ap (λ (k : ℕ). first_refusal k (name_refusal more)) x.none

  pub name_refused : (n : ℕ) → n ≡ name_refusal more → n ≡ open_number t ok (good && more)
  name_refused n e = e ∙ sym with_name

  pub name_passed : 0 ≡ name_refusal more → OpenedAs t ok (good && more) o
  name_passed e = record { none = with_name ∙ sym e; tells = x.tells }

-- ---- nothing refuses

not_refused : (k : ℕ) (good long : Bool) → first_refusal (cond long k 2) (name_refusal good) ≡ 0 → (k ≡ 0) × (good ≡ true) × (long ≡ true)
not_refused k good false e = absurd (omega arith)
not_refused (suc k) good true e = absurd (omega arith)
not_refused zero true true e = (refl, refl, refl)
not_refused zero false true e = absurd (omega arith)

is_taken_lem : (t : List ℕ) → table_refusal t ≡ 0 → T (taken t)
is_taken_lem t e = by (taken t) (λ h. true_is h) (λ h. absurd (let q = rw h at e in omega arith))

module _ {t : List ℕ} {ok good : Bool} {o : Verdict} (x : OpenedAs t ok good o) where
  pub known : Known t ok good o
  known =
      let n = not_refused (table_refusal t) good (good_length t && ok) x.none in
      let k = is_taken_lem t n.0 in
      let w = x.tells in
      let g = w.geometry_is in
      record {
        is_taken = k;
        ready = ready t k;
        geometry_is = g;
        limits = limits_of t k _ g;
        long = table_long t k _ g;
        count_is = w.count_is;
        count_most = let a = w.count_most in let b = ap slots g in omega arith;
        lengths_good = is_true (and_r (good_length t) ok (true_is n.2));
        names_good = n.1;
      }

  pub known_maps : {m m' s s' : List ℕ} {n : ℕ} → n ≡ 0 → Mapped t m m' s s' n → Roomy t m → length s ≡ 8 → KnownMaps t m' s' (geometry_of o.geometry)
  known_maps {m} {m'} z w r e =
      record { shown = w.shown z; map_fits = room_of t m (length m') known.is_taken _ known.geometry_is r w.long_map; long_slots = w.long_slots ∙ e }

-- ---- lengths, one after the other

pub none_more : (a b c : Bool) → (a && b) ≡ false → false ≡ (a && (b && c))
none_more true b c e = rw e
none_more false b c e = refl

pub one_more : (a b c : Bool) → (a && b) ≡ true → c ≡ (a && (b && c))
one_more true b c e = rw e
one_more false b c e = clash {b = false} e refl
