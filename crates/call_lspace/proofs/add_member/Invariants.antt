use mathlib.Core.List.{List}
use Prim.Native.Nat.{ℕ, ◌≤◌, ◌+◌, ◌*◌}
use lib.ListN.{drop}
use Rattle.model.specs.Model.{Run}
use Rattle.free_extents.specs.FreeList.{Entries}
use Rattle.call_lspace.specs.declared.Sums.{Sums}
use Rattle.call_lspace.specs.Totals.{Below, Summed}
use Rattle.call_lspace.proofs.add_member.Given as goal

abbrev pub invariant-loop-j : goal.invariant-loop-j
invariant-loop-j l =
    ((n : ℕ) → 16711680 ≤ n → Below n l.initial.s → Below (n + l.j * 16711680) l.s)
    × ((f : List Run) (r : Sums) → Entries l.h l.rec f → Summed l.h (drop l.j f) l.s r → Summed l.h f l.initial.s r)
