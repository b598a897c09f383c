-- Text written into a buffer: a byte, nothing, one text behind the other, a text that fills the buffer. Assumes nothing.
use mathlib.Core.Path.{◌≡◌, refl, sym, ap, ◌∙◌}
use mathlib.Core.List.{List, [], ◌∷◌, ◌++◌, append_assoc, append-nil}
use Prim.Native.Nat.{ℕ, ◌+◌, ◌<◌}
use native.Mathlib.Omega.{arith}
use native.Mathlib.Numerals.{add-one}
use lib.ListN.{length, take, set, length-set, length-take}
use lib.Seq.{take-suc-set, take_all}
use Rattle.rows.specs.Text.{Written}

pub write_byte : (out : List ℕ) (i b : ℕ) → i < length out → Written i (b ∷ []) 1 out (set out i b) (i + 1)
write_byte out i b h = record { long = length-set out i b; end = omega arith; text = rw add-one (take-suc-set out i b h) }

pub write_none : (out : List ℕ) (i m : ℕ) → Written i [] m out out i
write_none out i m = record { long = refl; end = omega arith; text = sym (append-nil (take i out)) }

pub then : {i j k m n : ℕ} {s t out out' out'' : List ℕ} → Written i s m out out' j → Written j t n out' out'' k → Written i (s ++ t) (m + n) out out'' k
then {i} {j} {k} {m} {n} {s} {t} {out} a b =
    record { long = b.long ∙ a.long; end = let x = a.end in let y = b.end in omega arith; text = b.text ∙ ap (λ (x : List ℕ). x ++ t) a.text ∙ append_assoc (take i out) s t }

-- a text as long as the buffer is what the buffer holds
pub written_whole : {s out out' : List ℕ} {n r : ℕ} → length s ≡ length out → Written 0 s n out out' r → out' ≡ s
written_whole {s} {out} {out'} {n} {r} h w =
    let x = w.long in
    let y : length (take r out') ≡ length s = ap length w.text in
    let z = length-take r out' in
    sym (take_all r out' (omega arith)) ∙ w.text
