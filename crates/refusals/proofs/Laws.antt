-- Refusals: each has a number, which is not 0; an outcome is one thing. Assumes nothing.
use mathlib.Core.Path.{◌≡◌, sym, ap}
use Prim.Native.Nat.{ℕ}
use native.Mathlib.Omega.{arith}
use Rattle.std.specs.Prelude.{Result, Ok, Err}
use Rattle.std.specs.Result.{IsErrAnd}
use Rattle.refusals.specs.Numbers.{number, number_of}
use Rattle.refusals.specs.declared.Refusal.{Refusal}
use Rattle.refusals.specs.declared.Refusal.TheVariants.{Amount, Date, Duplicate, Extents, Geometry, Length, Name, NoSecondary, NoSpace, NotFound, Ttr, Unexpired, Unsound, VtocFull}

pub never_none : (e : Refusal) → number e ≡ 0 → ⊥
never_none Geometry q = omega arith
never_none Length q = omega arith
never_none Unsound q = omega arith
never_none Name q = omega arith
never_none NotFound q = omega arith
never_none Duplicate q = omega arith
never_none Amount q = omega arith
never_none NoSecondary q = omega arith
never_none NoSpace q = omega arith
never_none Extents q = omega arith
never_none VtocFull q = omega arith
never_none Ttr q = omega arith
never_none Unexpired q = omega arith
never_none Date q = omega arith

module _ {A B : Type 0} where
  -- the value, or the refusal, of an outcome; any other where it is not that
  abbrev value_or : A → Result A B → A
  value_or a (Ok x) = x
  value_or a (Err e) = a

  abbrev refusal_or : B → Result A B → B
  refusal_or b (Ok x) = b
  refusal_or b (Err e) = e

  abbrev is_value : Result A B → ℕ
  is_value (Ok x) = 1
  is_value (Err e) = 0

  pub same_value : {x y : A} → ◌≡◌ {A = Result A B} (Ok x) (Ok y) → x ≡ y
  same_value {x = x} q = ap (value_or x) q

  pub same_refusal : {d e : B} → ◌≡◌ {A = Result A B} (Err d) (Err e) → d ≡ e
  same_refusal {d = d} q = ap (refusal_or d) q

  pub not_both : {x : A} {e : B} → ◌≡◌ {A = Result A B} (Ok x) (Err e) → ⊥
  not_both q = let z : ◌≡◌ {A = ℕ} 1 0 = ap is_value q in omega arith

-- what `?` hands on is the refusal
pub handed_on : {A : Type 0} (r : Result A Refusal) (e : Refusal) → IsErrAnd r (λ d. d ≡ e) → number e ≡ number_of r
handed_on (Ok x) e q = absurd q
handed_on (Err d) e q = ap number (sym q)
