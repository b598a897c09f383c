-- Text written into a buffer. Assumes nothing.
use Rattle.std.specs.Prelude.{◌≡◌, ℕ, ◌+◌, ◌≤◌, List, ◌++◌, length, take}

-- s was written at place i, what stands before it is kept, and r is the place behind it, at most `most` places on
pub record Written (i : ℕ) (s : List ℕ) (most : ℕ) (out out' : List ℕ) (r : ℕ) : Type 0 where
  pub long : length out' ≡ length out
  pub end : r ≤ i + most
  pub text : take r out' ≡ take i out ++ s
