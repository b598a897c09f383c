-- What the tests of label records answer, as the code goes. Assumes nothing.
use Rattle.std.specs.Prelude.{ℕ, ◌+◌, ◌-◌, ◌*◌, ◌/◌, ◌%◌, Bool, cond, ◌&&◌, ◌||◌, List, leb, ltb, eqb, get_or}
use Rattle.model.specs.Basics.{get2}
use Rattle.rules.specs.Reading.{track_at}

-- the type byte of an extent, by its first and last track in their cylinders
abbrev pub type_ok : ℕ → ℕ → ℕ → ℕ → Bool
type_ok h b first last = eqb b 0x01 || (eqb b 0x81 && (eqb first 0 && eqb (last + 1) h))

-- ten bytes that are an extent of number i, on a volume of t tracks, h to a cylinder
unfoldable pub good_ten : ℕ → ℕ → ℕ → List ℕ → Bool
good_ten h t i x =
    ltb (get2 x 4) h
    && (ltb (get2 x 8) h
    && (eqb (get_or x 1 0) i
    && (leb (track_at h x 2) (track_at h x 6)
    && (ltb (track_at h x 6) t
    && type_ok h (get_or x 0 0) (get2 x 4) (get2 x 8)))))

-- five bytes that are the address of slot k: d records a track, from track s on
unfoldable pub address_ok : ℕ → ℕ → ℕ → ℕ → List ℕ → Bool
address_ok h d s k x =
    eqb (get2 x 0) ((s + k / d) / h) && (eqb (get2 x 2) ((s + k / d) % h) && eqb (get_or x 4 0) (k % d + 1))

-- the slot, below n, whose address the five bytes are, 0 for none
unfoldable pub slot_named : ℕ → ℕ → ℕ → ℕ → List ℕ → ℕ
slot_named h d s n x =
    let k : ℕ = (track_at h x 0 - s) * d + get_or x 4 0 - 1 in
    cond (ltb (get2 x 2) h && (leb 1 (get_or x 4 0) && (leb (get_or x 4 0) d && (leb s (track_at h x 0) && ltb k n)))) k 0
