-- Pieces as answer bytes. Assumes nothing.
use Rattle.std.specs.Prelude.{ℕ, List, ◌++◌, get_or}
use Rattle.model.specs.Basics.{be2}

-- "start and count (2 each)", of a piece as the code holds it
abbrev pub piece_bytes : List ℕ → List ℕ
piece_bytes p = be2 (get_or p 0 0) ++ be2 (get_or p 1 0)
