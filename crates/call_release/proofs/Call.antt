-- Release as a call on a named data set. Assumes nothing.
use mathlib.Core.Path.{◌≡◌, refl}
use mathlib.Core.Bool.{Bool, ◌&&◌}
use mathlib.Core.List.{List, []}
use Prim.Native.Nat.{ℕ}
use lib.Dec.{eqb}
use lib.ListN.{length}
use Rattle.rules.specs.Calls.{on_copy, preview, release, release_set, rule}
use Rattle.rules.specs.Entries.{lent}
use Rattle.rules.specs.Table.{good_name}
use Rattle.open_table.proofs.Calls.{AsksSet, preview_set}

pub releases : (t a name : List ℕ) (ttr : ℕ) (ok : Bool) → ok ≡ (eqb (length a) 24 && eqb (length name) 44) → AsksSet (lent t a []) (release name ttr) ok (good_name name) name (λ v. release_set v name ttr)
unfolding rule
releases t a name ttr ok e = record { lengths = e; rules = λ v. refl }

pub previews : (t a name : List ℕ) (ttr : ℕ) (ok : Bool) → ok ≡ (eqb (length a) 24 && eqb (length name) 44) → AsksSet (lent t a []) (preview (release name ttr)) ok (good_name name) name (λ v l. on_copy v (release_set v name ttr l))
previews t a name ttr ok e = preview_set (releases t a name ttr ok e)
