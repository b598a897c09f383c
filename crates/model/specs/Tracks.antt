-- The list of a data set's tracks, and how many of them a release keeps: the rule of release and the ledger go by this one
-- definition. Assumes nothing.
use Rattle.std.specs.Prelude.{ℕ, suc, ◌+◌, ◌/◌, Bool, cond, ◌&&◌, List, [], ◌∷◌, get_or, drop, eqb}
use Rattle.model.specs.Basics.{flat, up_from}
use Rattle.model.specs.Model.{Run}

-- "A piece's tracks are its start and those after it, up to its count"
abbrev pub tracks_of : List Run → List ℕ
tracks_of rs = flat (λ r. up_from r.start r.count) rs

-- document 02, [2]: after track t track s is "the next on the volume and in the same cylinder", with h tracks in a cylinder
abbrev pub follows : (h t s : ℕ) → Bool
follows h t s = eqb s (suc t) && eqb (s / h) (t / h)

-- how many tracks of a list go on from track t, "as long as each is" so
abbrev pub goes_on : (h t : ℕ) → List ℕ → ℕ
goes_on h t [] = 0
goes_on h t (s ∷ ts) = cond (follows h t s) (suc (goes_on h s ts)) 0

-- "a set with unit X'C0'"
abbrev pub cylinder_file : (unit : ℕ) → Bool
cylinder_file unit = eqb unit 0xC0

-- how many tracks of its list a data set keeps: "the first TT + 1 tracks of the set"; "For a set with unit X'C0', release now
-- also keeps the tracks after the first TT + 1 in the set's list, as long as each .."
unfoldable pub tracks_kept : (h unit ttr : ℕ) → List ℕ → ℕ
tracks_kept h unit ttr ts =
    let n : ℕ = ttr / 256 + 1 in
    cond (cylinder_file unit) (n + goes_on h (get_or ts (ttr / 256) 0) (drop n ts)) n
