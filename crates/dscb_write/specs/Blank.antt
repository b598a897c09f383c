-- Records that hold nothing yet. Assumes nothing.
use Rattle.std.specs.Prelude.{ℕ, List, [], ◌∷◌, replicate}
use Rattle.model.specs.Basics.{zeros}
use Rattle.dscb_write.specs.Put.{put_at}

-- a key of n bytes v, and the format's identifier
unfoldable pub blank : ℕ → ℕ → ℕ → List ℕ
blank n v id = put_at (put_at (zeros 140) 0 (replicate n v)) 44 (id ∷ [])
