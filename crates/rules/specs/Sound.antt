-- What a table shows where it is taken, piece by piece, as a check goes through it: format 4, labels, tracks, slots, chain,
-- and zeros elsewhere. proofs/Meaning shows that this is just `taken`. Assumes nothing.
use Rattle.std.specs.Prelude.{◌≡◌, ℕ, ◌≤◌, ◌<◌, List, length}
use Rattle.model.specs.Basics.{zeros}
use Rattle.model.specs.Model.{Geometry, Label, Volume, fives_for, free, held, slots, tally, tracks, unused, used}
use Rattle.model.specs.Predicates.{All, Once}
use Rattle.rules.specs.Layout.{Five, fives, format1, format3, format4, format5, head_or0, highest}
use Rattle.rules.specs.Reading.{record_at}
use Rattle.rules.specs.Predicates.{Differ, GoodLabel, Limits}

-- the label is good, and its records are those that the layout writes for it
pub record LabelOk (g : Geometry) (rs : List (List ℕ)) (l : Label) : Type 0 where
  pub good : GoodLabel g l
  pub one : format1 g l ≡ record_at rs l.slot
  pub three : 1 ≤ l.slot3 → format3 g l ≡ record_at rs l.slot3

-- a member of the chain holds its free extents and the address of the next
abbrev pub FiveOk : Geometry → List (List ℕ) → Five → Type 0
FiveOk g rs c = format5 g c.entries c.next ≡ record_at rs c.slot

pub record Sound (rs : List (List ℕ)) (v : Volume) : Type 0 where
  pub limits : Limits v.geometry
  pub many : length rs ≡ slots v.geometry
  pub long : All (λ r. length r ≡ 140) rs
  pub labels : All (LabelOk v.geometry rs) v.labels
  pub differ : Differ v.labels
  pub once : Once (tracks v.geometry) (held v.geometry v.labels)
  pub head : head_or0 v.chain ≡ 1
  pub members : length v.chain ≡ fives_for (length (free v.geometry v.labels))
  pub fives : All (FiveOk v.geometry rs) (fives v.chain (free v.geometry v.labels))
  pub slot_once : (k : ℕ) → tally k (used v.labels v.chain) ≤ 1
  pub slot_in : (k : ℕ) → slots v.geometry ≤ k → tally k (used v.labels v.chain) ≡ 0
  pub rest : (k : ℕ) → k < slots v.geometry → tally k (used v.labels v.chain) ≡ 0 → record_at rs k ≡ zeros 140
  pub four : format4 v.geometry (highest v.labels) (length (unused (slots v.geometry) (used v.labels v.chain))) ≡ record_at rs 0
