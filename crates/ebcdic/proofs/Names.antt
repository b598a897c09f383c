-- The name rule, part by part, and the sets of bits that tell its characters. Assumes nothing.
use mathlib.Core.Path.{◌≡◌, refl, ap, ◌∙◌}
use mathlib.Core.Bool.{Bool, true, false, not, ◌&&◌, ◌||◌}
use mathlib.Core.List.{List, ◌∷◌}
use Prim.Native.Nat.{ℕ, zero, suc, ◌+◌, ◌-◌, ◌≤◌, ◌<◌}
use native.Mathlib.Omega.{arith}
use borrow.Author.Tests.{ne_eqb, lt-ltb}
use lib.Dec.{T, eqb, ltb}
use lib.ListN.{length, get_or, drop, drop_of_length-le}
use Rattle.model.specs.Basics.{all, up_from}
use Rattle.model.proofs.Lists.{and_l, and_r, by, clash}
use Rattle.rules.specs.Table.{in_part, name_from, starts_part}
use Rattle.ebcdic.specs.Letters.{PartEnd, in_low, in_set}
use Rattle.rows.specs.Words.{all_are}
use Rattle.rows.proofs.Rows.{rest}

pub or_false : (t : Bool) → t || false ≡ t
or_false true = refl
or_false false = refl

pub or_none_set : (t : Bool) → ((t || false) || false) ≡ t
or_none_set true = refl
or_none_set false = refl

-- ---- the sets: one test for all bytes, computed

abbrev pub agree : Bool → Bool → Bool
agree true b = b
agree false b = not b

pub agree_is : (a b : Bool) → T (agree a b) → a ≡ b
agree_is true true t = refl
agree_is true false t = absurd t
agree_is false true t = absurd t
agree_is false false t = refl

pub for_all : (f : ℕ → Bool) (a n : ℕ) → T (all f (up_from a n)) → (c : ℕ) → a ≤ c → c < a + n → T (f c)
for_all f a zero t c u v = absurd (omega arith)
for_all f a (suc n) t c u v =
    elim (native.Mathlib.Decide.ℕ_discrete a c) [
      | yes q ↦ mathlib.Core.Path.subst (λ (x : ℕ). T (f x)) q (and_l (f a) _ t)
      | no q ↦ for_all f (suc a) n (and_r (f a) _ t) c (omega arith) (omega arith)
    ]

pub starts_high : (c : ℕ) → 0xC0 ≤ c → c < 256 → in_set 0x0000_03fc_03fe_03fe c ≡ starts_part c
starts_high c u v = agree_is _ _ (for_all (λ x. agree (in_set 0x0000_03fc_03fe_03fe x) (starts_part x)) 0xC0 64 tt c u (omega arith))

pub starts_low : (c : ℕ) → c < 0xC0 → in_low 0x1800_0000_0800_0000 c ≡ starts_part c
starts_low c v = agree_is _ _ (for_all (λ x. agree (in_low 0x1800_0000_0800_0000 x) (starts_part x)) 0 0xC0 tt c (omega arith) (omega arith))

pub parts_high : (c : ℕ) → 0xC0 ≤ c → c < 256 → in_set 0x03ff_03fc_03fe_03fe c ≡ in_part c
parts_high c u v = agree_is _ _ (for_all (λ x. agree (in_set 0x03ff_03fc_03fe_03fe x) (in_part x)) 0xC0 64 tt c u (omega arith))

pub parts_low : (c : ℕ) → c < 0xC0 → in_low 0x1800_0001_0800_0000 c ≡ in_part c
parts_low c v = agree_is _ _ (for_all (λ x. agree (in_low 0x1800_0001_0800_0000 x) (in_part x)) 0 0xC0 tt c (omega arith) (omega arith))

-- ---- one part: so many characters more

pub grow : (n c : ℕ) (cs : List ℕ) → in_part c ≡ true → name_from (suc n) (c ∷ cs) ≡ (ltb (suc n) 8 && name_from (suc (suc n)) cs)
grow n c cs i =
    let p : eqb c 0x4B ≡ false = ne_eqb c 0x4B (λ e. clash i (ap in_part e)) in
    let b : eqb c 0x40 ≡ false = ne_eqb c 0x40 (λ e. clash i (ap in_part e)) in
    rw (p, b, i)

abbrev pub AllIn : List ℕ → ℕ → ℕ → Type 0
AllIn s j e = (i : ℕ) → j ≤ i → i < e → in_part (get_or s i 0) ≡ true

-- m characters: they go on with a part of 8 at most, or make it too long
walk : (s : List ℕ) (m n j : ℕ) → AllIn s j (j + m) → j + m ≤ length s → suc n + m ≤ 8 → name_from (suc n) (drop j s) ≡ name_from (suc n + m) (drop (j + m) s)
walk s zero n j a l h =
    let e : suc n ≡ suc n + 0 = omega arith in
    let f : j ≡ j + 0 = omega arith in
    ap (λ (x : ℕ). name_from x (drop j s)) e ∙ ap (λ (x : ℕ). name_from (suc n + 0) (drop x s)) f
walk s (suc m) n j a l h =
    let e : j + 1 + m ≡ j + suc m = omega arith in
    let f : suc (suc n) + m ≡ suc n + suc m = omega arith in
    rw (rest s j (omega arith), grow n (get_or s j 0) (drop (j + 1) s) (a j (omega arith) (omega arith)), lt-ltb (suc n) 8 (omega arith))
    (walk s m (suc n) (j + 1) (λ i u v. a i (omega arith) (omega arith)) (omega arith) (omega arith)
    ∙ ap (λ (x : ℕ). name_from x (drop (j + 1 + m) s)) f ∙ ap (λ (x : ℕ). name_from (suc n + suc m) (drop x s)) e)

walk_long : (s : List ℕ) (m n j : ℕ) → AllIn s j (j + m) → j + m ≤ length s → suc n ≤ 8 → 8 < suc n + m → name_from (suc n) (drop j s) ≡ false
walk_long s zero n j a l k h = absurd (omega arith)
walk_long s (suc m) n j a l k h =
    by (ltb (suc n) 8)
    (λ q.
    let w : suc n < 8 = borrow.Author.Tests.ltb-true _ _ q in
    rw (rest s j (omega arith), grow n (get_or s j 0) (drop (j + 1) s) (a j (omega arith) (omega arith)), q)
    (walk_long s m (suc n) (j + 1) (λ i u v. a i (omega arith) (omega arith)) (omega arith) (omega arith) (omega arith)))
    (λ q. rw (rest s j (omega arith), grow n (get_or s j 0) (drop (j + 1) s) (a j (omega arith) (omega arith)), q))

-- a part that starts at place i and ends before place e
module _ (s : List ℕ) (i e : ℕ) (h : i < length s) where
  pub no_start : starts_part (get_or s i 0) ≡ false → name_from 0 (drop i s) ≡ false
  no_start x = rw (rest s i h, x)

  module _ (x : starts_part (get_or s i 0) ≡ true) (p : PartEnd s (i + 1) e) where
    started : name_from 0 (drop i s) ≡ name_from 1 (drop (i + 1) s)
    started = rw (rest s i h, x)

    all_in : AllIn s (i + 1) (i + 1 + (e - (i + 1)))
    all_in j u v = p.inside j u (omega (arith, p.low))

    pub too_long : 8 < e - i → name_from 0 (drop i s) ≡ false
    too_long q = started ∙ walk_long s (e - (i + 1)) 0 (i + 1) all_in (omega (arith, p.low, p.high)) (omega arith) (omega (arith, p.low))

    module _ (q : e - i ≤ 8) where
      part_done : name_from 0 (drop i s) ≡ name_from (suc (e - (i + 1))) (drop e s)
      part_done =
          let a : i + 1 + (e - (i + 1)) ≡ e = omega (arith, p.low) in
          let b : 1 + (e - (i + 1)) ≡ suc (e - (i + 1)) = omega arith in
          started ∙ walk s (e - (i + 1)) 0 (i + 1) all_in (omega (arith, p.low, p.high)) (omega (arith, p.low))
          ∙ ap (λ (x : ℕ). name_from x (drop (i + 1 + (e - (i + 1))) s)) b ∙ ap (λ (x : ℕ). name_from (suc (e - (i + 1))) (drop x s)) a

      pub at_end : e ≡ length s → name_from 0 (drop i s) ≡ true
      at_end z = part_done ∙ rw (drop_of_length-le s {i = e} (omega arith))

      pub at_period : e < length s → get_or s e 0 ≡ 0x4B → name_from 0 (drop i s) ≡ name_from 0 (drop (e + 1) s)
      at_period u z = part_done ∙ rw (rest s e u, z) (or_none_set (name_from 0 (drop (e + 1) s)))

      pub at_other : e < length s → (get_or s e 0 ≡ 0x4B → ⊥) → name_from 0 (drop i s) ≡ all_are 0x40 (drop e s)
      unfolding all_are
      at_other u z = part_done ∙ rw (rest s e u, ne_eqb (get_or s e 0) 0x4B z, p.stop u, or_false)

pub no_more : (s : List ℕ) (i : ℕ) → length s ≤ i → name_from 0 (drop i s) ≡ false
no_more s i h = rw (drop_of_length-le s {i = i} h)
