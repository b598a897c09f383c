-- A table of characters whose entries all pass the test prints as it must. Assumes nothing.
use mathlib.Core.Path.{◌≡◌, refl, sym, ap, ◌∙◌, subst}
use mathlib.Core.Bool.{Bool, true, false, cond}
use mathlib.Core.List.{List, [], ◌∷◌, map}
use Prim.Native.Nat.{ℕ, zero, suc, ◌+◌, ◌<◌}
use native.Mathlib.Nat.{add-zero, zero-add}
use native.Mathlib.Omega.{arith}
use lib.Dec.{T, eqb, eqb→eq}
use lib.ListN.{length, get_or}
use Rattle.model.specs.Basics.{bit, sum_of, up_from}
use Rattle.model.proofs.Lists.{and_l, and_r}
use Rattle.rules.specs.Listing.{printable}
use Rattle.ebcdic.specs.Ascii.{Printable, in_name, printed_for, right_entry, right_from}

from : (xs : List ℕ) (i : ℕ) → T (right_from i xs) → (k : ℕ) → k < length xs → T (right_entry (i + k) (get_or xs k 0))
from [] i t k h = absurd (omega arith)
from (x ∷ xs) i t zero h = subst (λ (m : ℕ). T (right_entry m x)) (sym (add-zero i)) (and_l (right_entry i x) _ t)
from (x ∷ xs) i t (suc k) h =
    let e : suc i + k ≡ i + suc k = omega arith in
    subst (λ (m : ℕ). T (right_entry m (get_or xs k 0))) e (from xs (suc i) (and_r (right_entry i x) _ t) k (omega arith))

at_true : (b u v : Bool) → T (cond b u v) → b ≡ true → T u
at_true b u v t e = rw e at t

at_false : (b u v : Bool) → T (cond b u v) → b ≡ false → T v
at_false b u v t e = rw e at t

pub entry_printed : (xs : List ℕ) → T (right_from 0 xs) → (b : ℕ) → b < length xs → Printable b (get_or xs b 0)
entry_printed xs t b h =
    let x = get_or xs b 0 in
    let p : T (right_entry b x) = subst (λ (m : ℕ). T (right_entry m x)) (zero-add b) (from xs 0 t b h) in
    let q = and_r (eqb x (printable b)) _ p in
    record {
      rule = eqb→eq x (printable b) (and_l (eqb x (printable b)) _ p);
      back = λ e. eqb→eq (printed_for x) b (at_true (in_name b) (eqb (printed_for x) b) (eqb x 0x3F) q e);
      other = λ e. eqb→eq x 0x3F (at_false (in_name b) (eqb (printed_for x) b) (eqb x 0x3F) q e);
    }

-- the table that the rule gives: no entry is typed a second time, this one is compared with the code's
unfoldable pub table : List ℕ
table = map printable (up_from 0 256)

pub table_right : T (right_from 0 table)
unfolding table printable
table_right = tt

table_length_lem : length table ≡ 256
unfolding table
table_length_lem = refl

pub byte_printed : (b : ℕ) → b < 256 → Printable b (printable b)
byte_printed b h =
    let l = table_length_lem in
    let p = entry_printed table table_right b (omega arith) in
    subst (Printable b) p.rule p

-- NO TWO ALIKE, of the 41 that a name may have
pub unlike : (b c : ℕ) → b < 256 → c < 256 → in_name b ≡ true → in_name c ≡ true → printable b ≡ printable c → b ≡ c
unlike b c u v n m e = sym ((byte_printed b u).back n) ∙ ap printed_for e ∙ (byte_printed c v).back m

pub forty_one : sum_of (λ b. bit (in_name b)) (up_from 0 256) ≡ 41
forty_one = refl
