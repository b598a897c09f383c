-- A release that is decided: nothing is written so far but the answer. Assumes nothing.
use Rattle.std.specs.Prelude.{◌≡◌, ℕ, ◌-◌, true, List, [], Some, Result, Ok}
use Rattle.free_space.specs.declared.Decision.{Decision}
use Rattle.model.specs.Model.{Geometry}
use Rattle.rules.specs.Calls.{Outcome, answer, given_back, good_ttr, on_copy, release_set, tracks_kept_of}
use Rattle.rules.specs.Entries.{lent, result_of, written}
use Rattle.refusals.specs.Numbers.{number_of}
use Rattle.refusals.specs.declared.Refusal.{Refusal}
use Rattle.free_space.specs.Giving.{At, Measures}
use Rattle.free_space.specs.Shorter.{CutPlans}

-- what the rule says of the data set, whose last block is to be TTR
abbrev pub release_of : {g : Geometry} {t m s : List ℕ} {k : ℕ} → At g t m s k → (ttr : ℕ) → Outcome
release_of d ttr = release_set d.volume d.name ttr d.it.label

-- the result and the answer are those of the outcome, on a copy of the table; a is the answer before
abbrev pub ForeseesAt : {g : Geometry} {t m s : List ℕ} {k : ℕ} → At g t m s k → Outcome → (a : List ℕ) (r : ℕ) (a' : List ℕ) → Type 0
ForeseesAt {t = t} d o a r a' = result_of r (lent t a' []) ≡ written (lent t a []) (on_copy d.volume o)

-- it is cut, and can be written: n tracks stay, the others have become free in the map m, which is m' then, and there is a plan; c and
-- s' are the chain and the map of slots then, a' is the answer
pub record CutPlanned {g : Geometry} {t m s : List ℕ} {k : ℕ} (d : At g t m s k) (ttr : ℕ) (m' c a' : List ℕ) (r : Decision) : Type 0 where
  pub s' : List ℕ
  pub n : ℕ
  pub measured : Measures g t k d.it.label r.set
  pub ttr_good : good_ttr ttr r.set.tracks ≡ true
  pub count : n ≡ tracks_kept_of g ttr d.it.label
  pub plans : CutPlans g t m m' s s' c r.set n r.cut.kept r.cut.few (Some r.cut.plan)
  pub answered : a' ≡ answer (given_back (r.set.tracks - n))

-- the result and the answer are those of the rule, on a copy; and where nothing refuses it the change is planned
pub record Decides {g : Geometry} {t m s : List ℕ} {k : ℕ} (d : At g t m s k) (ttr : ℕ) (a m' c a' : List ℕ)
    (r : Result Decision Refusal) : Type 0 where
  pub replied : ForeseesAt d (release_of d ttr) a (number_of r) a'
  pub planned : (x : Decision) → r ≡ Ok x → CutPlanned d ttr m' c a' x
