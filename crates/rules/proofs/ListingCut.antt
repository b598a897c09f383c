-- The first 65,536 bytes of an input are listed as the whole of it: no table is longer, and a longer input's front is refused as
-- the whole is (`E 2`). Assumes nothing.
use mathlib.Core.Path.{◌≡◌, ap}
use mathlib.Core.Bool.{true}
use mathlib.Core.List.{List}
use Prim.Native.Nat.{ℕ, ◌/◌, ◌%◌, ◌≤◌, ◌<◌}
use native.Mathlib.Nat.{lt_of_not-le}
use native.Mathlib.Decide.{dec_le}
use native.Mathlib.Omega.{arith}
use lib.Dec.{T, leb, eqb, leb→le, eqb→eq}
use lib.ListN.{length, take, length-take}
use lib.Seq.{take_all}
use Rattle.model.proofs.Lists.{and_l, and_r, by, true_is}
use Rattle.rules.specs.Listing.{listing}
use Rattle.rules.specs.Table.{good_length}

good_most : (t : List ℕ) → good_length t ≡ true → (length t % 140 ≡ 0) × (length t / 140 ≤ 468)
unfolding good_length
good_most t e =
    let x = true_is e in
    let a : T (eqb (length t % 140) 0) = search (and_l, and_r) in
    let b : T (leb (length t / 140) 468) = search (and_l, and_r) in
    (eqb→eq _ 0 a, leb→le _ 468 b)

-- neither the front nor the whole of a longer input is 140 times 3 to 468
longer : (t : List ℕ) → 65536 < length t → listing (take 65536 t) ≡ listing t
unfolding listing
longer t h =
    let l = length-take 65536 t in
    by (good_length t) (λ u. absurd (let g = good_most t u in omega arith))
    (λ u. by (good_length (take 65536 t)) (λ w. absurd (let g = good_most (take 65536 t) w in omega arith)) (λ w. rw (u, w)))

pub listing_cut : (t : List ℕ) → listing (take 65536 t) ≡ listing t
listing_cut t = elim (dec_le (length t) 65536) [ yes k ↦ ap listing (take_all 65536 t k) | no k ↦ longer t (lt_of_not-le k) ]
