-- A table with slots written one after the other. Assumes nothing.
use Rattle.std.specs.Prelude.{ℕ, zero, suc, ◌≤◌, ◌<◌, ◌≡◌, List, [], ◌∷◌, get_or, length}
use Rattle.model.specs.Basics.{get2, zeros}
use Rattle.model.specs.Model.{Geometry, Label, slots}
use Rattle.rules.specs.Layout.{Five, format1, format4, format5}
use Rattle.rules.specs.Slots.{with_slots}
use Rattle.dscb.specs.Records.{put_record, slot_bytes}
use Rattle.check_table.specs.Spare.{highest_slot}

-- zeros in the slots ks
unfoldable pub cleared : List ℕ → List ℕ → List ℕ
cleared t [] = t
cleared t (k ∷ ks) = cleared (put_record t k (zeros 140)) ks

-- a record in slot q, 0 for none
abbrev pub put_third : List ℕ → ℕ → List ℕ → List ℕ
put_third t zero r = t
put_third t (suc q) r = put_record t (suc q) r

-- label l in slot k, linked to slot q, and its format 3 there
unfoldable pub label_put : Geometry → List ℕ → ℕ → ℕ → Label → List ℕ → List ℕ
label_put g t k q l three = put_third (put_record t k (format1 g (with_slots k q l))) q three

-- member number i of a chain, 0 behind its end
unfoldable pub chain_entry : List ℕ → ℕ → ℕ
chain_entry ks i = get_or ks i 0

-- member number `from` of the chain ks in table t, whose first free extent starts at track `at`, lo or before; or the first
pub record Reached (t ks : List ℕ) (lo from at : ℕ) : Type 0 where
  pub none : from ≡ 0 → at ≡ 0
  pub inside : 1 ≤ from → from < length ks
  pub start : 1 ≤ from → at ≡ get2 (slot_bytes t (chain_entry ks from)) 4
  pub low : 1 ≤ from → at ≤ lo

-- the format 5s in their slots
unfoldable pub fives_put : Geometry → List ℕ → List Five → List ℕ
fives_put g t [] = t
fives_put g t (c ∷ cs) = fives_put g (put_record t c.slot (format5 g c.entries c.next)) cs

-- the format 4, of the labels that the table has
unfoldable pub four_put : Geometry → List ℕ → ℕ → List ℕ
four_put g t empty = put_record t 0 (format4 g (highest_slot t (slots g)) empty)
