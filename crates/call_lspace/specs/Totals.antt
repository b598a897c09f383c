-- What free extents add up to, on the way through them. Assumes nothing.
use Rattle.std.specs.Prelude.{◌≡◌, ℕ, ◌+◌, ◌/◌, ◌%◌, ◌≤◌, max, List, length}
use Rattle.call_lspace.specs.declared.Sums.{Sums}
use Rattle.model.specs.Basics.{sum_of}
use Rattle.model.specs.Model.{Run}
use Rattle.rules.specs.Calls.{longest}
use Rattle.free_extents.specs.FreeList.{Entries}

abbrev pub none : Sums
none = record { cylinders = 0; odd = 0; many = 0; long = 0 }

-- the free extents f take the sums from s to r
pub record Summed (h : ℕ) (f : List Run) (s r : Sums) : Type 0 where
  pub cylinders : s.cylinders + sum_of (λ x. x.count / h) f ≡ r.cylinders
  pub odd : s.odd + sum_of (λ x. x.count % h) f ≡ r.odd
  pub many : s.many + length f ≡ r.many
  pub long : max s.long (longest f) ≡ r.long

-- no sum is above n
pub record Below (n : ℕ) (s : Sums) : Type 0 where
  pub cylinders : s.cylinders ≤ n
  pub odd : s.odd ≤ n
  pub many : s.many ≤ n
  pub long : s.long ≤ n

-- the entries of the format 5 rec take the sums from s to r
pub record Added (h : ℕ) (rec : List ℕ) (s r : Sums) : Type 0 where
  pub most : (n : ℕ) → 16711680 ≤ n → Below n s → Below (n + 434503680) r
  pub sums : (f : List Run) → Entries h rec f → Summed h f s r
