-- A format 3 or zeros. Assumes nothing.
use Rattle.std.specs.Prelude.{ℕ, cond, List, eqb}
use Rattle.model.specs.Basics.{zeros}
use Rattle.dscb.specs.Records.{slot_bytes}

-- the record in slot q, zeros for slot 0, which stands for none
unfoldable pub or_zeros : List ℕ → ℕ → List ℕ
or_zeros t q = cond (eqb q 0) (zeros 140) (slot_bytes t q)
