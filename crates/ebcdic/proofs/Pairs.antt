-- The name rule by pairs of neighbours and rows of nine: together they are `name_from`. Assumes nothing.
use mathlib.Core.Path.{◌≡◌, refl, sym, ap, ◌∙◌, subst}
use mathlib.Core.Bool.{Bool, true, false, cond, not, ◌&&◌, ◌||◌}
use mathlib.Core.List.{List}
use Prim.Native.Nat.{ℕ, zero, suc, ◌+◌, ◌-◌, ◌%◌, ◌≤◌, ◌<◌, min}
use native.Mathlib.Decide.{dec_le, ℕ_discrete}
use native.Mathlib.Nat.{lt_of_not-le}
use native.Mathlib.Numerals.{add-one}
use native.Mathlib.Omega.{arith}
use borrow.Author.Tests.{eq-eqb, eqb-false, eqb-true, lt-ltb, ltb-true, ne_eqb}
use lib.Bits.{and_le_l, and_le_r, bit_and, bit_or, bit_xor, or_add_and}
use lib.Dec.{eqb, leb, ltb}
use lib.ListN.{length, get_or, drop, drop_of_length-le, take}
use Rattle.model.specs.Basics.{all}
use Rattle.model.proofs.Lists.{and_l, and_r, by, clash, is_true, true_is}
use Rattle.rules.specs.Table.{good_name, in_part, name_from, starts_part}
use Rattle.ebcdic.specs.Pairs.{Tells, brief, class_of, fit, least_of_four, least_of_nine, sixteen_to, turns_to, wanted_after}
use Rattle.rows.specs.Words.{all_are}
use Rattle.ebcdic.proofs.Names.{agree, agree_is, for_all, grow, or_false, or_none_set}
use Rattle.rows.proofs.Rows.{and_assoc, from_place, rest}

-- ---- both of two

and_both : {a b : Bool} → (a && b) ≡ true → (a ≡ true) × (b ≡ true)
and_both {a} {b} e = (is_true (and_l a b (true_is e)), is_true (and_r a b (true_is e)))

both_and : {a b : Bool} → a ≡ true → b ≡ true → (a && b) ≡ true
both_and p q = rw (p, q)

-- ---- numbers that tell

pub tells_or : (x y : ℕ) (a b : Bool) → Tells x a → Tells y b → Tells (bit_or x y) (a && b)
tells_or x y a b p q =
    let s = or_add_and x y in
    let u = and_le_l x y in
    let v = and_le_r x y in
    elim (ℕ_discrete x 0) [
      | yes e ↦
          elim (ℕ_discrete y 0) [
            | yes f ↦ eq-eqb (bit_or x y) 0 (omega arith) ∙ sym (both_and (sym p ∙ eq-eqb x 0 e) (sym q ∙ eq-eqb y 0 f))
            | no f ↦
                let g : b ≡ false = sym q ∙ ne_eqb y 0 f in
                let h : a ≡ true = sym p ∙ eq-eqb x 0 e in
                ne_eqb (bit_or x y) 0 (λ z. f (omega arith)) ∙ sym (rw (h, g))
          ]
      | no e ↦
          let g : a ≡ false = sym p ∙ ne_eqb x 0 e in
          ne_eqb (bit_or x y) 0 (λ z. e (omega arith)) ∙ sym (rw g)
    ]

-- ---- characters

pub high_part : (c : ℕ) → in_part c ≡ true → 0x4B < c
high_part c e =
    by (ltb 0x4B c)
    (λ h. ltb-true 0x4B c h)
    (λ h. clash e (agree_is (in_part c) false (for_all (λ x. agree (in_part x) false) 0 0x4C tt c (omega arith) (omega (arith, borrow.Author.Tests.ltb-false 0x4B c h)))))

high_start : (c : ℕ) → starts_part c ≡ true → 0x4B < c
high_start c e = high_part c (rw e)

-- ---- pairs

module _ (s : List ℕ) (i : ℕ) where
  fit_period : get_or s i 0 ≡ 0x4B → fit s i ≡ starts_part (get_or s (i + 1) 0)
  unfolding fit
  fit_period e = rw (eq-eqb (get_or s i 0) 0x4B e)

  fit_blank : get_or s i 0 ≡ 0x40 → fit s i ≡ eqb (get_or s (i + 1) 0) 0x40
  unfolding fit
  fit_blank e = let n : eqb (get_or s i 0) 0x4B ≡ false = ne_eqb (get_or s i 0) 0x4B (λ z. absurd (omega arith)) in rw (n, eq-eqb (get_or s i 0) 0x40 e)

  fit_other : 0x4B < get_or s i 0 → fit s i ≡ (in_part (get_or s (i + 1) 0) || (eqb (get_or s (i + 1) 0) 0x4B || eqb (get_or s (i + 1) 0) 0x40))
  unfolding fit
  fit_other h =
      let n : eqb (get_or s i 0) 0x4B ≡ false = ne_eqb (get_or s i 0) 0x4B (λ z. absurd (omega arith)) in
      let m : eqb (get_or s i 0) 0x40 ≡ false = ne_eqb (get_or s i 0) 0x40 (λ z. absurd (omega arith)) in
      rw (n, m)

-- ---- rows of nine

-- none of the nine is a period or a blank
abbrev pub Nine : List ℕ → ℕ → Type 0
Nine s i = (k : ℕ) → i ≤ k → k < i + 9 → 0x4B < get_or s k 0

min_both : (x a b : ℕ) → x < min a b → (x < a) × (x < b)
min_both x a b h = (omega arith, omega arith)

both_min : (x a b : ℕ) → x < a → x < b → x < min a b
both_min x a b h l = omega arith

place : (P : ℕ → Type 0) (i e : ℕ) → P i → ((k : ℕ) → i + 1 ≤ k → k < e → P k) → (k : ℕ) → i ≤ k → k < e → P k
place P i e p f k u v = elim (ℕ_discrete k i) [ yes q ↦ subst P (sym q) p | no q ↦ f k (omega arith) v ]

four_high : (s : List ℕ) (i : ℕ) → 0x4B < least_of_four s i → (k : ℕ) → i ≤ k → k < i + 4 → 0x4B < get_or s k 0
unfolding least_of_four
four_high s i h =
    let a = min_both 0x4B _ _ h in
    let b = min_both 0x4B _ _ a.0 in
    let c = min_both 0x4B _ _ a.1 in
    let P : ℕ → Type 0 = λ k. 0x4B < get_or s k 0 in
    place P i (i + 4) b.0
    (place P (i + 1) (i + 4) b.1 (λ k u v. place P (i + 2) (i + 4) c.0 (λ k u v. place P (i + 3) (i + 4) c.1 (λ k u v. absurd (omega arith)) k (omega arith) v) k (omega arith) v))

high_four : (s : List ℕ) (i : ℕ) → 0x4B < get_or s i 0 → 0x4B < get_or s (i + 1) 0 → 0x4B < get_or s (i + 2) 0 → 0x4B < get_or s (i + 3) 0 → 0x4B < least_of_four s i
unfolding least_of_four
high_four s i a b c d = both_min 0x4B _ _ (both_min 0x4B _ _ a b) (both_min 0x4B _ _ c d)

long_nine : (s : List ℕ) (i : ℕ) → brief s i ≡ false → Nine s i
unfolding brief least_of_nine
long_nine s i e =
    let h : 0x4B < least_of_nine s i = by (ltb 0x4B (least_of_nine s i)) (λ z. ltb-true 0x4B (least_of_nine s i) z) (λ z. clash (subst (λ (b : Bool). cond b false true ≡ true) (sym z) refl) e) in
    let a = min_both 0x4B _ _ h in
    let b = min_both 0x4B _ _ a.0 in
    λ k u v.
    elim (dec_le (i + 4) k) [
      | no q ↦ four_high s i b.0 k u (lt_of_not-le q)
      | yes q ↦
          elim (dec_le (i + 8) k) [
            | no r ↦ (let y = lt_of_not-le r in four_high s (i + 4) b.1 k q (omega arith))
            | yes r ↦ (let e : i + 8 ≡ k = omega arith in subst (λ (x : ℕ). 0x4B < get_or s x 0) e a.1)
          ]
    ]

nine_long : (s : List ℕ) (i : ℕ) → Nine s i → brief s i ≡ false
unfolding brief least_of_nine
nine_long s i n =
    let g : (k : ℕ) → i ≤ k → k < i + 9 → 0x4B < get_or s k 0 = n in
    let a = high_four s i (g i (omega arith) (omega arith)) (g (i + 1) (omega arith) (omega arith)) (g (i + 2) (omega arith) (omega arith)) (g (i + 3) (omega arith) (omega arith)) in
    let b = high_four s (i + 4) (g (i + 4) (omega arith) (omega arith)) (g (i + 4 + 1) (omega arith) (omega arith)) (g (i + 4 + 2) (omega arith) (omega arith)) (g (i + 4 + 3) (omega arith) (omega arith)) in
    let h : 0x4B < least_of_nine s i = both_min 0x4B _ _ (both_min 0x4B _ _ a b) (g (i + 8) (omega arith) (omega arith)) in
    rw (lt-ltb 0x4B (least_of_nine s i) h)

brief_at : (s : List ℕ) (i : ℕ) → get_or s i 0 ≤ 0x4B → brief s i ≡ true
brief_at s i h = by (brief s i) (λ e. e) (λ e. absurd (let x = long_nine s i e i (omega arith) (omega arith) in omega arith))

-- ---- a character more

module _ (s : List ℕ) (n j : ℕ) (h : j < length s) where
  on_period : get_or s j 0 ≡ 0x4B → name_from (suc n) (drop j s) ≡ name_from 0 (drop (j + 1) s)
  on_period e = rw (rest s j h, e) (or_none_set (name_from 0 (drop (j + 1) s)))

  on_blank : get_or s j 0 ≡ 0x40 → name_from (suc n) (drop j s) ≡ all (λ b. eqb b 0x40) (drop (j + 1) s)
  on_blank e = rw (rest s j h, e) (or_false (all (λ b. eqb b 0x40) (drop (j + 1) s)))

  on_part : in_part (get_or s j 0) ≡ true → name_from (suc n) (drop j s) ≡ (ltb (suc n) 8 && name_from (suc (suc n)) (drop (j + 1) s))
  on_part e = rw (rest s j h) (grow n (get_or s j 0) (drop (j + 1) s) e)

  on_other : in_part (get_or s j 0) ≡ false → (get_or s j 0 ≡ 0x4B → ⊥) → (get_or s j 0 ≡ 0x40 → ⊥) → name_from (suc n) (drop j s) ≡ false
  on_other e p b = rw (rest s j h, ne_eqb (get_or s j 0) 0x4B p, ne_eqb (get_or s j 0) 0x40 b, e)

  on_start : name_from 0 (drop j s) ≡ (starts_part (get_or s j 0) && name_from 1 (drop (j + 1) s))
  on_start = rw (rest s j h)

-- blanks to the end
pub all_blank : (s : List ℕ) (m j : ℕ) → j + m ≡ length s → ((k : ℕ) → j ≤ k → k < length s → get_or s k 0 ≡ 0x40) → all (λ b. eqb b 0x40) (drop j s) ≡ true
all_blank s zero j l h = rw (drop_of_length-le s {i = j} (omega arith))
all_blank s (suc m) j l h =
    rw (rest s j (omega arith), eq-eqb (get_or s j 0) 0x40 (h j (omega arith) (omega arith))) (all_blank s m (j + 1) (omega arith) (λ k u v. h k (omega arith) v))

pub blank_all : (s : List ℕ) (m j : ℕ) → j + m ≡ length s → all (λ b. eqb b 0x40) (drop j s) ≡ true → (k : ℕ) → j ≤ k → k < length s → get_or s k 0 ≡ 0x40
blank_all s zero j l e k u v = absurd (omega arith)
blank_all s (suc m) j l e k u v =
    let b = and_both (rw (rest s j (omega arith)) at e) in
    elim (ℕ_discrete k j) [
      | yes q ↦ rw q (eqb-true (get_or s j 0) 0x40 b.0)
      | no q ↦ blank_all s m (j + 1) (omega arith) b.1 k (omega arith) v
    ]

-- ---- the rest of a name, behind place i, where the n + 1 characters up to it are of one part

-- they are no periods and no blanks
abbrev Solid : List ℕ → ℕ → ℕ → Type 0
Solid s i n = (k : ℕ) → i ≤ k + n → k ≤ i → 0x4B < get_or s k 0

-- what pairs and rows say of the rest
record Ahead (s : List ℕ) (i n : ℕ) : Type 0 where
  pub fits : (k : ℕ) → i ≤ k → k + 1 < length s → fit s k ≡ true
  pub rows : (k : ℕ) → i ≤ k + n → k + 9 ≤ length s → Nine s k → ⊥
  pub last : (e : ℕ) → i < e → e + 1 ≡ length s → get_or s e 0 ≡ 0x4B → ⊥

solid_more : (s : List ℕ) (i n : ℕ) → Solid s i n → 0x4B < get_or s (i + 1) 0 → Solid s (i + 1) (suc n)
solid_more s i n g h k u v = elim (ℕ_discrete k (i + 1)) [ yes q ↦ rw q h | no q ↦ g k (omega arith) (omega arith) ]

solid_new : (s : List ℕ) (i : ℕ) → 0x4B < get_or s i 0 → Solid s i 0
solid_new s i h k u v = let q : k ≡ i = omega arith in rw q h

-- the pair at i, whose first character is of a part
module _ (s : List ℕ) (i : ℕ) (g : 0x4B < get_or s i 0) where
  fit_part : in_part (get_or s (i + 1) 0) ≡ true → fit s i ≡ true
  fit_part e = fit_other s i g ∙ rw e

  fit_to_period : get_or s (i + 1) 0 ≡ 0x4B → fit s i ≡ true
  fit_to_period e = fit_other s i g ∙ rw e

  fit_to_blank : get_or s (i + 1) 0 ≡ 0x40 → fit s i ≡ true
  fit_to_blank e = fit_other s i g ∙ rw e

  unfit : in_part (get_or s (i + 1) 0) ≡ false → (get_or s (i + 1) 0 ≡ 0x4B → ⊥) → (get_or s (i + 1) 0 ≡ 0x40 → ⊥) → fit s i ≡ false
  unfit e p b = fit_other s i g ∙ rw (e, ne_eqb (get_or s (i + 1) 0) 0x4B p, ne_eqb (get_or s (i + 1) 0) 0x40 b)

-- from a blank on all is blank
blanks : (s : List ℕ) (i : ℕ) → ((k : ℕ) → i ≤ k → k + 1 < length s → fit s k ≡ true) → get_or s i 0 ≡ 0x40 → (m k : ℕ) → k ≡ i + m → k < length s → get_or s k 0 ≡ 0x40
blanks s i f e zero k q v = let z : k ≡ i = omega arith in rw z e
blanks s i f e (suc m) k q v =
    let b = blanks s i f e m (i + m) refl (omega arith) in
    let z : k ≡ i + m + 1 = omega arith in
    rw z (eqb-true (get_or s (i + m + 1) 0) 0x40 (sym (fit_blank s (i + m) b) ∙ f (i + m) (omega arith) (omega arith)))

less_ahead : (s : List ℕ) (i n j m : ℕ) → i ≤ j → i + m ≤ j + n → Ahead s i n → Ahead s j m
less_ahead s i n j m u v a =
    record { fits = λ k w x. a.fits k (omega arith) x; rows = λ k w x. a.rows k (omega arith) x; last = λ e w x. a.last e (omega arith) x }

good_rest : (s : List ℕ) (m i n : ℕ) → length s ≤ i + m → i < length s → n < 8 → n ≤ i → Solid s i n → Ahead s i n → name_from (suc n) (drop (i + 1) s) ≡ true
good_rest s zero i n l r t o g a = absurd (omega arith)
good_rest s (suc m) i n l r t o g a =
    elim (dec_le (i + 2) (length s)) [
      | no z ↦ (let y = lt_of_not-le z in rw (drop_of_length-le s {i = i + 1} (omega arith)))
      | yes z ↦
          elim (ℕ_discrete (get_or s (i + 1) 0) 0x4B) [
            | yes p ↦
                elim (dec_le (i + 3) (length s)) [
                  | no y ↦ absurd (a.last (i + 1) (omega arith) (let x = lt_of_not-le y in omega arith) p)
                  | yes y ↦
                      let st : starts_part (get_or s (i + 1 + 1) 0) ≡ true = sym (fit_period s (i + 1) p) ∙ a.fits (i + 1) (omega arith) (omega arith) in
                      on_period s n (i + 1) (omega arith) p
                      ∙ on_start s 0 (i + 1 + 1) (omega arith)
                      ∙ both_and st
                      (good_rest s m (i + 1 + 1) 0 (omega arith) (omega arith) (omega arith) (omega arith) (solid_new s (i + 1 + 1) (high_start _ st))
                      (less_ahead s i n (i + 1 + 1) 0 (omega arith) (omega arith) a))
                ]
            | no p ↦
                elim (ℕ_discrete (get_or s (i + 1) 0) 0x40) [
                  | yes b ↦
                      on_blank s n (i + 1) (omega arith) b
                      ∙ all_blank s (length s - (i + 1 + 1)) (i + 1 + 1) (omega arith)
                      (λ k u v. blanks s (i + 1) (λ j w x. a.fits j (omega arith) x) b (k - (i + 1)) k (omega arith) v)
                  | no b ↦
                      by (in_part (get_or s (i + 1) 0))
                      (λ e.
                      let h = solid_more s i n g (high_part _ e) in
                      elim (dec_le (suc (suc n)) 8) [
                        | yes q ↦
                            on_part s n (i + 1) (omega arith) e
                            ∙ both_and (lt-ltb (suc n) 8 q)
                            (good_rest s m (i + 1) (suc n) (omega arith) (omega arith) q (omega arith) h (less_ahead s i n (i + 1) (suc n) (omega arith) (omega arith) a))
                        | no q ↦
                            let y = lt_of_not-le q in
                            absurd (a.rows (i - n) (omega arith) (omega arith) (λ k u v. h k (omega arith) (omega arith)))
                      ])
                      (λ e. clash (a.fits i (omega arith) (omega arith)) (unfit s i (g i (omega arith) (omega arith)) e p b))
                ]
          ]
    ]

-- ---- and back

-- a case of the pair at i, and what is known of those behind it
cons_fit : (s : List ℕ) (i : ℕ) → fit s i ≡ true → ((k : ℕ) → i + 1 ≤ k → k + 1 < length s → fit s k ≡ true) → (k : ℕ) → i ≤ k → k + 1 < length s → fit s k ≡ true
cons_fit s i e f k u v = elim (ℕ_discrete k i) [ yes q ↦ rw q e | no q ↦ f k (omega arith) v ]

end_ahead : (s : List ℕ) (i n : ℕ) → length s ≤ i + 1 → n < 8 → Ahead s i n
end_ahead s i n l t = record { fits = λ k u v. absurd (omega arith); rows = λ k u v w. absurd (omega arith); last = λ e u v w. absurd (omega arith) }

module _ (s : List ℕ) (i n : ℕ) (t : n < 8) (g : 0x4B < get_or s i 0) where
  part_ahead : in_part (get_or s (i + 1) 0) ≡ true → Ahead s (i + 1) (suc n) → Ahead s i n
  part_ahead e a =
      record {
        fits = cons_fit s i (fit_part s i g e) a.fits;
        rows = λ k u v. a.rows k (omega arith) v;
        last = λ j u v w.
            elim (ℕ_discrete j (i + 1)) [
              | yes q ↦ (let x : 0x4B < get_or s j 0 = rw q (high_part _ e) in absurd (omega arith))
              | no q ↦ a.last j (omega arith) v w
            ];
      }

  blank_ahead : ((k : ℕ) → i + 1 ≤ k → k < length s → get_or s k 0 ≡ 0x40) → i + 1 < length s → Ahead s i n
  blank_ahead b l =
      record {
        fits = cons_fit s i (fit_to_blank s i g (b (i + 1) (omega arith) l))
            (λ k u v. fit_blank s k (b k u (omega arith)) ∙ eq-eqb (get_or s (k + 1) 0) 0x40 (b (k + 1) (omega arith) v));
        rows = λ k u v w.
            elim (dec_le k i) [
              | yes q ↦ (let x = w (i + 1) (omega arith) (omega arith) in let y = b (i + 1) (omega arith) l in absurd (omega arith))
              | no q ↦ (let r = lt_of_not-le q in let x = w k (omega arith) (omega arith) in let y = b k (omega arith) (omega arith) in absurd (omega arith))
            ];
        last = λ e u v w. let y = b e (omega arith) (omega arith) in absurd (omega arith);
      }

  period_ahead : get_or s (i + 1) 0 ≡ 0x4B → starts_part (get_or s (i + 1 + 1) 0) ≡ true → i + 1 + 1 < length s → Ahead s (i + 1 + 1) 0 → Ahead s i n
  period_ahead p st l a =
      record {
        fits = cons_fit s i (fit_to_period s i g p) (cons_fit s (i + 1) (fit_period s (i + 1) p ∙ st) a.fits);
        rows = λ k u v w.
            elim (dec_le k (i + 1)) [
              | yes q ↦ (let x = w (i + 1) q (omega arith) in absurd (omega arith))
              | no q ↦ (let r = lt_of_not-le q in a.rows k (omega arith) v w)
            ];
        last = λ e u v w.
            elim (ℕ_discrete e (i + 1 + 1)) [
              | yes q ↦ (let x : 0x4B < get_or s e 0 = rw q (high_start _ st) in absurd (omega arith))
              | no q ↦ a.last e (omega arith) v w
            ];
      }

rest_good : (s : List ℕ) (m i n : ℕ) → length s ≤ i + m → i < length s → n < 8 → 0x4B < get_or s i 0 → name_from (suc n) (drop (i + 1) s) ≡ true → Ahead s i n
rest_good s zero i n l r t g e = absurd (omega arith)
rest_good s (suc m) i n l r t g e =
    elim (dec_le (i + 2) (length s)) [
      | no z ↦ end_ahead s i n (let y = lt_of_not-le z in omega arith) t
      | yes z ↦
          elim (ℕ_discrete (get_or s (i + 1) 0) 0x4B) [
            | yes p ↦
                let f : name_from 0 (drop (i + 1 + 1) s) ≡ true = sym (on_period s n (i + 1) (omega arith) p) ∙ e in
                elim (dec_le (i + 3) (length s)) [
                  | no y ↦ clash f (let x = lt_of_not-le y in rw (drop_of_length-le s {i = i + 1 + 1} (omega arith)))
                  | yes y ↦
                      let b = and_both (sym (on_start s 0 (i + 1 + 1) (omega arith)) ∙ f) in
                      period_ahead s i n t g p b.0 (omega arith) (rest_good s m (i + 1 + 1) 0 (omega arith) (omega arith) (omega arith) (high_start _ b.0) b.1)
                ]
            | no p ↦
                elim (ℕ_discrete (get_or s (i + 1) 0) 0x40) [
                  | yes b ↦
                      let f = sym (on_blank s n (i + 1) (omega arith) b) ∙ e in
                      blank_ahead s i n t g
                      (λ k u v.
                      elim (ℕ_discrete k (i + 1)) [
                        | yes q ↦ rw q b
                        | no q ↦ blank_all s (length s - (i + 1 + 1)) (i + 1 + 1) (omega arith) f k (omega arith) v
                      ])
                      (omega arith)
                  | no b ↦
                      by (in_part (get_or s (i + 1) 0))
                      (λ c.
                      let f = and_both (sym (on_part s n (i + 1) (omega arith) c) ∙ e) in
                      part_ahead s i n t g c (rest_good s m (i + 1) (suc n) (omega arith) (omega arith) (ltb-true _ _ f.0) (high_part _ c) f.1))
                      (λ c. clash e (on_other s n (i + 1) (omega arith) c p b))
                ]
          ]
    ]

-- ---- the whole name

-- each pair fits, each row of nine has a period or a blank, and no period is the last
pub record SoundPairs (s : List ℕ) : Type 0 where
  pub fits : (k : ℕ) → k + 1 < length s → fit s k ≡ true
  pub rows : (k : ℕ) → k + 9 ≤ length s → brief s k ≡ true
  pub last : (e : ℕ) → 0 < e → e + 1 ≡ length s → get_or s e 0 ≡ 0x4B → ⊥

module _ (s : List ℕ) (l : 0 < length s) (st : starts_part (get_or s 0 0) ≡ true) where
  named : good_name s ≡ name_from 1 (drop (0 + 1) s)
  unfolding good_name
  named = on_start s 0 0 l ∙ rw st

  pub sound_good : SoundPairs s → good_name s ≡ true
  sound_good a =
      named
      ∙ good_rest s (length s) 0 0 (omega arith) l (omega arith) (omega arith) (solid_new s 0 (high_start _ st))
      (record { fits = λ k u v. a.fits k v; rows = λ k u v w. clash (a.rows k v) (nine_long s k w); last = λ e u v. a.last e u v })

  pub good_sound : good_name s ≡ true → SoundPairs s
  good_sound e =
      let a = rest_good s (length s) 0 0 (omega arith) l (omega arith) (high_start _ st) (sym named ∙ e) in
      record {
        fits = λ k v. a.fits k (omega arith) v;
        rows = λ k v. by (brief s k) (λ q. q) (λ q. absurd (a.rows k (omega arith) v (long_nine s k q)));
        last = λ e u v. a.last e u v;
      }

-- ---- the code's tests, over all bytes

-- what `class_of` computes
abbrev class_code : ℕ → ℕ → ℕ → ℕ → ℕ → ℕ → ℕ → ℕ → ℕ → ℕ
class_code a b e f n m h p q =
    bit_or
    (bit_or (bit_and (bit_or (bit_and (bit_and (bit_and a b) e) f) (bit_or n m)) 1) (bit_and (bit_or (bit_or (bit_and (bit_and a b) e) (bit_or n m)) (bit_or h p)) 4))
    (bit_and q 12)

abbrev ones : Bool → ℕ
ones b = cond b 255 0

abbrev class_all : ℕ → ℕ
class_all c =
    class_code (ones (leb 0xC1 (bit_and c 0xEF))) (ones (leb (c % 16) 9)) (ones (not (eqb (bit_or c 1) 0xE1))) (ones (ltb c 0xF0)) (ones (eqb (bit_or c 0x20) 0x7B))
    (ones (eqb c 0x7C)) (ones (eqb c 0x60)) (ones (eqb c 0x4B)) (ones (eqb c 0x40))

class_all_lem : (c : ℕ) → c < 256 → class_all c ≡ class_of c
unfolding class_of
class_all_lem c h = eqb-true _ _ (is_true (for_all (λ x. eqb (class_all x) (class_of x)) 0 256 tt c (omega arith) h))

module _ (c a b e f n m h p q : ℕ) (u : c < 256) (ea : a ≡ ones (leb 0xC1 (bit_and c 0xEF))) (eb : b ≡ ones (leb (c % 16) 9)) (ee : e ≡ ones (not (eqb (bit_or c 1) 0xE1)))
    (ef : f ≡ ones (ltb c 0xF0)) (en : n ≡ ones (eqb (bit_or c 0x20) 0x7B)) (em : m ≡ ones (eqb c 0x7C)) (eh : h ≡ ones (eqb c 0x60)) (ep : p ≡ ones (eqb c 0x4B))
    (eq : q ≡ ones (eqb c 0x40)) where
  pub class_is : class_code a b e f n m h p q ≡ class_of c
  class_is = rw (ea, eb, ee, ef, en, em, eh, ep, eq) (class_all_lem c u)

abbrev wanted_all : ℕ → ℕ → ℕ
wanted_all p q = bit_xor 4 (bit_or (bit_and p 5) (bit_and q 12))

pub wanted_is : (c p q : ℕ) → c < 256 → p ≡ ones (eqb c 0x4B) → q ≡ ones (eqb c 0x40) → wanted_all p q ≡ wanted_after c
unfolding wanted_after
wanted_is c p q h ep eq =
    ap (λ (x : ℕ). wanted_all x q) ep ∙ ap (wanted_all (ones (eqb c 0x4B))) eq
    ∙ eqb-true _ _ (is_true (for_all (λ x. eqb (wanted_all (ones (eqb x 0x4B)) (ones (eqb x 0x40))) (wanted_after x)) 0 256 tt c (omega arith) h))

-- 0 where the class has what is wanted
abbrev lacks : ℕ → ℕ → Bool
lacks a c = eqb (bit_and a (bit_xor (class_of c) 255)) 0

module _ (c : ℕ) (h : c < 256) where
  lacks_start : lacks 1 c ≡ starts_part c
  unfolding class_of
  lacks_start = agree_is _ _ (for_all (λ x. agree (lacks 1 x) (starts_part x)) 0 256 tt c (omega arith) h)

  lacks_blank : lacks 8 c ≡ eqb c 0x40
  unfolding class_of
  lacks_blank = agree_is _ _ (for_all (λ x. agree (lacks 8 x) (eqb x 0x40)) 0 256 tt c (omega arith) h)

  lacks_name : lacks 4 c ≡ (in_part c || (eqb c 0x4B || eqb c 0x40))
  unfolding class_of
  lacks_name = agree_is _ _ (for_all (λ x. agree (lacks 4 x) (in_part x || (eqb x 0x4B || eqb x 0x40))) 0 256 tt c (omega arith) h)

pub pair_is : (s : List ℕ) (i x y : ℕ) → get_or s (i + 1) 0 < 256 → x ≡ wanted_after (get_or s i 0) → y ≡ class_of (get_or s (i + 1) 0) → Tells (bit_and x (bit_xor y 255)) (fit s i)
unfolding fit wanted_after
pair_is s i x y h ex ey =
    rw (ex, ey)
    (by (eqb (get_or s i 0) 0x4B)
    (λ p. rw p (lacks_start _ h))
    (λ p. by (eqb (get_or s i 0) 0x40) (λ b. rw (p, b) (lacks_blank _ h)) (λ b. rw (p, b) (lacks_name _ h))))

module _ (s : List ℕ) (i : ℕ) where
  pub four_is : (a b : ℕ) → a ≡ min (get_or s i 0) (get_or s (i + 1) 0) → b ≡ min (get_or s (i + 2) 0) (get_or s (i + 3) 0) → min a b ≡ least_of_four s i
  unfolding least_of_four
  four_is a b ea eb = rw (ea, eb)

  pub row_is : (a b c d r : ℕ) → a ≡ least_of_four s i → b ≡ least_of_four s (i + 4) → c ≡ min a b → d ≡ min c (get_or s (i + 8) 0) → r ≡ ones (ltb 0x4B d) → Tells r (brief s i)
  unfolding brief least_of_nine
  row_is a b c d r ea eb ec ed er =
      let q : d ≡ least_of_nine s i = rw (ed, ec, ea, eb) in
      rw (er, q) (by (ltb 0x4B (least_of_nine s i)) (λ h. rw h) (λ h. rw h))

-- ---- the loops

module _ (f g : ℕ → Bool) (bad x y i : ℕ) (eb : Tells bad (turns_to f g i)) (ex : Tells x (f i)) (ey : Tells y (g i)) where
  pub turn : Tells (bit_or bad (bit_or x y)) (turns_to f g (i + 1))
  unfolding turns_to
  turn = rw (add-one, and_assoc) (tells_or bad (bit_or x y) (turns_to f g i) (f i && g i) eb (tells_or x y (f i) (g i) ex ey))

pub no_turn : (f g : ℕ → Bool) → Tells 0 (turns_to f g 0)
unfolding turns_to
no_turn f g = refl

pub turns_end : (f g : ℕ → Bool) (bad i : ℕ) → Tells bad (turns_to f g i) → i ≡ 16 → eqb bad 0 ≡ turns_to f g 16
turns_end f g bad i e q = e ∙ ap (turns_to f g) q

module _ (f g : ℕ → Bool) where
  turns_take : (n : ℕ) → turns_to f g n ≡ true → (k : ℕ) → k < n → (f k ≡ true) × (g k ≡ true)
  unfolding turns_to
  turns_take zero e k h = absurd (omega arith)
  turns_take (suc n) e k h =
      let a = and_both e in
      let b = and_both a.0 in
      elim (ℕ_discrete k n) [ yes q ↦ (rw q b.1, rw q a.1) | no q ↦ turns_take n b.0 k (omega arith) ]

  turns_all : (n : ℕ) → ((k : ℕ) → k < n → (f k ≡ true) × (g k ≡ true)) → turns_to f g n ≡ true
  unfolding turns_to
  turns_all zero h = refl
  turns_all (suc n) h = both_and (both_and (turns_all n (λ k u. h k (omega arith))) (h n (omega arith)).0) (h n (omega arith)).1

pub no_name : (s : List ℕ) → 0 < length s → starts_part (get_or s 0 0) ≡ false → good_name s ≡ false
unfolding good_name
no_name s l e = on_start s 0 0 l ∙ rw e

-- ---- names of 44 characters

-- all tests before place w: there are 43 pairs of neighbours and 36 rows of nine
abbrev pub PairsUpto : List ℕ → ℕ → Type 0
PairsUpto s w = (k : ℕ) → k < w → (k < 43 → fit s k ≡ true) × (k < 36 → brief s k ≡ true)

module _ (s : List ℕ) (l : length s ≡ 44) (st : starts_part (get_or s 0 0) ≡ true) where
  sound_of : good_name s ≡ true → SoundPairs s
  sound_of e = good_sound s (omega arith) st e

  last_period : get_or s 43 0 ≡ 0x4B → good_name s ≡ false
  last_period p = by (good_name s) (λ e. absurd ((sound_of e).last 43 (omega arith) (omega arith) p)) (λ e. e)

  -- the tests of one turn, at places p and q, which the code takes on the whole name as a part of itself
  module _ (at p q : ℕ) (ep : p ≡ min at 27) (eq : q ≡ min at 20) where
    abbrev tests : Bool
    tests = sixteen_to (take (length s - 0) s) p q 16

    whole : tests ≡ sixteen_to s p q 16
    whole = ap (λ (x : List ℕ). sixteen_to x p q 16) (from_place s 0)

    passed : tests ≡ true → (k : ℕ) → k < 16 → (fit s (p + k) ≡ true) × (brief s (q + k) ≡ true)
    passed h = turns_take _ _ 16 (sym whole ∙ h)

    pub sixteen_no : tests ≡ false → good_name s ≡ false
    sixteen_no h =
        by (good_name s)
        (λ e. let a = sound_of e in clash (turns_all _ _ 16 (λ k w. (a.fits (p + k) (omega arith), a.rows (q + k) (omega arith)))) (sym whole ∙ h))
        (λ e. e)

    pub sixteen_more : tests ≡ true → PairsUpto s at → PairsUpto s (at + 16)
    sixteen_more h t k u =
        elim (dec_le at k) [
          | no z ↦ t k (lt_of_not-le z)
          | yes z ↦ (
            λ v. let e : p + (k - p) ≡ k = omega arith in subst (λ (j : ℕ). fit s j ≡ true) e (passed h (k - p) (omega arith)).0,
            λ v. let e : q + (k - q) ≡ k = omega arith in subst (λ (j : ℕ). brief s j ≡ true) e (passed h (k - q) (omega arith)).1,
          )
        ]

  -- all tests are passed
  module _ (w : ℕ) (r : 43 ≤ w) (t : PairsUpto s w) where
    sound_full : (get_or s 43 0 ≡ 0x4B → ⊥) → SoundPairs s
    sound_full n = record {
      fits = λ k u. (t k (omega arith)).0 (omega arith);
      rows = λ k u. (t k (omega arith)).1 (omega arith);
      last = λ e u v z. let y : 43 ≡ e = omega arith in n (rw y z);
    }

    pub at_last : not (eqb (get_or s 43 0) 0x4B) ≡ good_name s
    at_last =
        by (eqb (get_or s 43 0) 0x4B)
        (λ e. rw e (sym (last_period (eqb-true _ _ e))))
        (λ e. rw e (sym (sound_good s (omega arith) st (sound_full (eqb-false _ _ e)))))

  -- a blank at place w, and all tests before it
  module _ (w : ℕ) (r : w < 44) (b : get_or s w 0 ≡ 0x40) (t : PairsUpto s w) where
    sound_upto : ((k : ℕ) → w ≤ k → k < length s → get_or s k 0 ≡ 0x40) → SoundPairs s
    sound_upto z =
        record {
          fits = λ k u.
              elim (dec_le w k) [
                | yes q ↦ fit_blank s k (z k q (omega arith)) ∙ eq-eqb (get_or s (k + 1) 0) 0x40 (z (k + 1) (omega arith) u)
                | no q ↦ (t k (lt_of_not-le q)).0 (omega arith)
              ];
          rows = λ k u. elim (dec_le w k) [ yes q ↦ (let y = z k q (omega arith) in brief_at s k (omega arith)) | no q ↦ (t k (lt_of_not-le q)).1 (omega arith) ];
          last = λ e u v p. let y = z e (omega arith) (omega arith) in absurd (omega arith);
        }

    pub upto_blank : all_are 0x40 (drop w s) ≡ good_name s
    unfolding all_are
    upto_blank =
        by (all_are 0x40 (drop w s))
        (λ a. a ∙ sym (sound_good s (omega arith) st (sound_upto (blank_all s (44 - w) w (omega arith) a))))
        (λ a.
        a
        ∙ sym
        (by (good_name s)
        (λ e.
        let c = sound_of e in
        clash (all_blank s (44 - w) w (omega arith) (λ k u v. blanks s w (λ j x y. c.fits j y) b (k - w) k (omega arith) v)) a)
        (λ e. e)))
