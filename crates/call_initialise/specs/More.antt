-- A format 5 with entries put behind those that it has. Assumes nothing.
use Rattle.std.specs.Prelude.{ℕ, ◌+◌, ◌≡◌, List, ◌++◌, length}
use Rattle.model.specs.Model.{Geometry, Run}
use Rattle.rules.specs.Layout.{format5}

-- the record r with j entries becomes r' with j', by those for the runs rs
pub record More (g : Geometry) (rs : List Run) (r : List ℕ) (j : ℕ) (r' : List ℕ) (j' : ℕ) : Type 0 where
  pub number : j' ≡ j + length rs
  pub bytes : (f : List Run) → length f ≡ j → r ≡ format5 g f 0 → r' ≡ format5 g (f ++ rs) 0
