-- The ten bytes of an extent in a format 1 or its format 3. Assumes nothing.
use mathlib.Core.Path.{◌≡◌, ap, ◌∙◌}
use mathlib.Core.List.{List, []}
use Prim.Native.Nat.{ℕ, ◌+◌, ◌-◌, ◌*◌, ◌≤◌, ◌<◌}
use native.Mathlib.Nat.{lt_of_not-le}
use native.Mathlib.Decide.{dec_le}
use native.Mathlib.Omega.{arith}
use borrow.Author.Tests.{eq-eqb, ne_eqb, lt-ltb, le-ltb}
use lib.ListN.{length}
use Rattle.model.specs.Basics.{part}
use Rattle.rules.specs.Layout.{extent_part}
use Rattle.dscb.proofs.Records.{length_part}

module _ (f1 f3 : List ℕ) (e : ℕ) where
  pub no_format1 : (length f1 ≡ 140 → ⊥) → [] ≡ extent_part f1 f3 e
  unfolding extent_part
  no_format1 u = rw (ne_eqb (length f1) 140 u)

  pub no_format3 : length f1 ≡ 140 → (length f3 ≡ 140 → ⊥) → [] ≡ extent_part f1 f3 e
  unfolding extent_part
  no_format3 u v = rw (eq-eqb (length f1) 140 u, ne_eqb (length f3) 140 v)

  module _ (l1 : length f1 ≡ 140) (l3 : length f3 ≡ 140) where
    pub in_format1 : e < 3 → extent_part f1 f3 e ≡ part (105 + 10 * e) 10 f1
    unfolding extent_part
    in_format1 u = rw (eq-eqb (length f1) 140 l1, eq-eqb (length f3) 140 l3, lt-ltb e 3 u)

    pub in_format3 : 3 ≤ e → e < 7 → extent_part f1 f3 e ≡ part (4 + 10 * (e - 3)) 10 f3
    unfolding extent_part
    in_format3 u v = rw (eq-eqb (length f1) 140 l1, eq-eqb (length f3) 140 l3, le-ltb e 3 u, lt-ltb e 7 v)

    pub in_rest3 : 7 ≤ e → e < 16 → extent_part f1 f3 e ≡ part (45 + 10 * (e - 7)) 10 f3
    unfolding extent_part
    in_rest3 u v =
        let w : 3 ≤ e = omega arith in
        rw (eq-eqb (length f1) 140 l1, eq-eqb (length f3) 140 l3, le-ltb e 3 w, le-ltb e 7 u, lt-ltb e 16 v)

    pub no_extent_lem : 16 ≤ e → [] ≡ extent_part f1 f3 e
    unfolding extent_part
    no_extent_lem u =
        let w : 3 ≤ e = omega arith in
        let v : 7 ≤ e = omega arith in
        rw (eq-eqb (length f1) 140 l1, eq-eqb (length f3) 140 l3, le-ltb e 3 w, le-ltb e 7 v, le-ltb e 16 u)

    -- TEN BYTES, whatever extent
    pub extent_length : e < 16 → length (extent_part f1 f3 e) ≡ 10
    extent_length u =
        elim (dec_le 3 e) [
          | no h ↦ let k : e < 3 = lt_of_not-le h in ap length (in_format1 k) ∙ length_part (105 + 10 * e) 10 f1 (omega arith)
          | yes h ↦ elim (dec_le 7 e) [
            | no j ↦ let k : e < 7 = lt_of_not-le j in ap length (in_format3 h k) ∙ length_part (4 + 10 * (e - 3)) 10 f3 (omega arith)
            | yes j ↦ ap length (in_rest3 j u) ∙ length_part (45 + 10 * (e - 7)) 10 f3 (omega arith)
          ]
        ]
