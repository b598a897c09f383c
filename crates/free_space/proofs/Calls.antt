-- The data set that a call is on, as it was found in the table that the call opened. Assumes nothing.
use mathlib.Core.List.{List}
use Prim.Native.Nat.{ℕ}
use Rattle.open_table.specs.declared.SetOpening.{SetOpening}
use Rattle.rules.specs.Reading.{read}
use Rattle.dscb.specs.Forms.{geometry_of}
use Rattle.open_table.specs.Opening.{KnownAt}
use Rattle.free_space.specs.Giving.{At}

abbrev pub at : {t name m s : List ℕ} {r : SetOpening} → KnownAt t name m s r → At (geometry_of r.geometry) t m s r.slot
at {t} {name} w = record { volume = read t; name = name; ready = w.ready; geometry_is = w.geometry_is; shown = w.maps.shown; it = w.it }
