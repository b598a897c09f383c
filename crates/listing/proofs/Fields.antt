-- Lines made of fields, and names. Assumes nothing.
use mathlib.Core.Path.{◌≡◌, refl, sym, ap, ◌∙◌, subst}
use mathlib.Core.List.{List, [], ◌∷◌, ◌++◌, append_assoc}
use Prim.Native.Nat.{ℕ, ◌+◌, ◌≤◌, ◌<◌}
use native.Mathlib.Omega.{arith}
use native.Mathlib.Numerals.{add-one}
use borrow.Author.Tests.{eq-eqb, ne_eqb}
use lib.Dec.{eqb}
use lib.ListN.{length, take, get_or}
use lib.Seq.{length-take-le, take-suc}
use Rattle.model.specs.Basics.{flat}
use Rattle.model.proofs.Lists.{by}
use Rattle.rules.specs.Listing.{line, printable}
use Rattle.rows.specs.Text.{Written}
use Rattle.rows.proofs.Text.{then, write_none}
use Rattle.listing.specs.Text.{Line, name_text}

-- ---- lines

pub ends : {s out out' : List ℕ} {m r : ℕ} (t : List ℕ) → s ≡ t → m ≤ 64 → Written 0 s m out out' r → Line t out out' r
ends t e h w = record { long = w.long; end = let x = w.end in omega arith; text = w.text ∙ e }

-- the result is the line's length
pub line_length : (s out out' : List ℕ) (r : ℕ) → 64 ≤ length out → Line s out out' r → length s ≡ r
line_length s out out' r h l = let a = l.long in let b = l.end in ap length (sym l.text) ∙ length-take-le r out' (omega arith)

-- fields with a blank before each, and s behind them
abbrev pub fields_then : List (List ℕ) → List ℕ → List ℕ
fields_then [] s = s
fields_then (f ∷ fs) s = (0x20 ∷ f) ++ fields_then fs s

fields_then_lem : (fs : List (List ℕ)) (s : List ℕ) → fields_then fs s ≡ flat (λ f. 0x20 ∷ f) fs ++ s
fields_then_lem [] s = refl
fields_then_lem (f ∷ fs) s = ap (λ (t : List ℕ). (0x20 ∷ f) ++ t) (fields_then_lem fs s) ∙ sym (append_assoc (0x20 ∷ f) (flat (λ g. 0x20 ∷ g) fs) s)

pub line_text : (x : ℕ) (fs : List (List ℕ)) → x ∷ fields_then fs (0x0A ∷ []) ≡ line x fs
line_text x fs = ap (λ (t : List ℕ). x ∷ t) (fields_then_lem fs (0x0A ∷ []))

-- ---- names

-- what is printed of two parts
name_append : (xs ys : List ℕ) → name_text (xs ++ ys) ≡ name_text xs ++ name_text ys
unfolding name_text
name_append [] ys = refl
name_append (x ∷ xs) ys = by (eqb x 0x40) (λ h. rw h (name_append xs ys)) (λ h. rw h (ap (λ (t : List ℕ). printable x ∷ t) (name_append xs ys)))

pub name_none : (out : List ℕ) (i : ℕ) → Written i (name_text []) 0 out out i
unfolding name_text
name_none out i = write_none out i 0

pub name_blank : (b : ℕ) → b ≡ 0x40 → name_text (b ∷ []) ≡ []
unfolding name_text
name_blank b e = rw (eq-eqb b 0x40 e)

pub name_one : (b : ℕ) → (b ≡ 0x40 → ⊥) → name_text (b ∷ []) ≡ printable b ∷ []
unfolding name_text
name_one b e = rw (ne_eqb b 0x40 e)

pub name_next : {at p r : ℕ} {o₀ o₁ o₂ : List ℕ} (name : List ℕ) (i : ℕ) → i < length name → Written at (name_text (take i name)) i o₀ o₁ p
    → Written p (name_text (get_or name i 0 ∷ [])) 1 o₁ o₂ r → Written at (name_text (take (i + 1) name)) (i + 1) o₀ o₂ r
name_next {at} {p} {r} {o₀} {o₁} {o₂} name i h a b =
    let e : take (i + 1) name ≡ take i name ++ (get_or name i 0 ∷ []) = rw add-one (take-suc name i 0 h) in
    subst (λ (t : List ℕ). Written at t (i + 1) o₀ o₂ r) (sym (ap name_text e ∙ name_append (take i name) (get_or name i 0 ∷ []))) (then a b)
