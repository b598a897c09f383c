-- What document 02 promises of dates, [5]; the statements are in specs/Dates. Assumes nothing.
use mathlib.Core.Path.{◌≡◌, refl, sym, ap, ap₂, ◌∙◌, subst}
use mathlib.Core.Bool.{Bool, true, false, ◌&&◌, ◌||◌}
use mathlib.Core.Option.{Option, none, some}
use mathlib.Core.List.{List, [], ◌∷◌, ◌++◌, append_assoc, append-nil}
use Prim.Native.Nat.{ℕ, zero, suc, ◌+◌, ◌-◌, ◌*◌, ◌/◌, ◌%◌, ◌≤◌, ◌<◌}
use native.Mathlib.Omega.{arith}
use borrow.Author.Tests.{eq-eqb, eqb-false, eqb-true, le-ltb, lt-ltb, ltb-false, ltb-true, ne_eqb}
use lib.Dec.{T, leb, ltb, eqb, leb→le}
use lib.ListN.{drop, length, length-append, length-drop, length-take, take}
use lib.Seq.{drop-append_seam, take-append_seam}
use Rattle.model.specs.Basics.{be2, bit, map_option, part, same, sum_of, up_from, zeros}
use Rattle.model.proofs.Lists.{and_l, and_r, by, is_true, same_refl, same→eq, some_is, true_is}
use Rattle.rules.specs.Dates.{AnyToday, BesideDates, CalendarOrder, Date, EachConverts, EachStored, Inverse, NoneIsNoDate, date, date_in, day_number, days_in, expiry_from, from_packed, from_stored, good_date, later, leap, packed_form, stored_form, to_packed, to_stored, with_expiry}
use Rattle.rules.proofs.Bytes.{be2_back}

-- ---- what a date is

bit_most : (b : Bool) → bit b ≤ 1
bit_most true = omega arith
bit_most false = omega arith

pub record Good (d : Date) : Type 0 where
  pub first : 1900 ≤ d.year
  pub last : d.year ≤ 2099
  pub low : 1 ≤ d.day
  pub high : d.day ≤ days_in d.year
  pub most : d.day ≤ 366

pub good : (d : Date) → T (good_date d) → Good d
good d t =
    let a : T (leb 1900 d.year) = search (and_l, and_r) depth 5 in
    let b : T (leb d.year 2099) = search (and_l, and_r) depth 5 in
    let c : T (leb 1 d.day) = search (and_l, and_r) depth 5 in
    let e : T (leb d.day (days_in d.year)) = search (and_l, and_r) depth 5 in
    let most : d.day ≤ days_in d.year = leb→le d.day (days_in d.year) e in
    let one = bit_most (leap d.year) in
    record { first = leb→le 1900 _ a; last = leb→le _ 2099 b; low = leb→le 1 _ c; high = most; most = omega arith }

-- ---- the digits of a number below 1,000, and two of them in a byte

pub hundreds : (n : ℕ) → 100 * (n / 100) + 10 * (n / 10 % 10) + n % 10 ≡ n
hundreds n = omega arith

high_half : (h l : ℕ) → l < 16 → (h * 16 + l) / 16 ≡ h
high_half h l e = omega arith

low_half : (h l : ℕ) → l < 16 → (h * 16 + l) % 16 ≡ l
low_half h l e = omega arith

digit : (n : ℕ) → n % 10 < 16
digit n = omega arith

century : (y : ℕ) → y ≤ 2099 → (y - 1900) / 100 < 16
century y h = omega arith

-- ---- each form tells the date that it is of

from_packed_lem : (d : Date) → Good d → from_packed (packed_form d) ≡ d
from_packed_lem d g = ap₂ date year day
  where
    y : ℕ
    y = d.year - 1900

    year : 1900 + 100 * ((0 * 16 + y / 100) % 16) + 10 * ((y / 10 % 10 * 16 + y % 10) / 16) + (y / 10 % 10 * 16 + y % 10) % 16 ≡ d.year
    year =
        rw (low_half 0 (y / 100) (century d.year g.last), high_half (y / 10 % 10) (y % 10) (digit y), low_half (y / 10 % 10) (y % 10) (digit y))
        (let a = g.first in let e = hundreds y in omega arith)

    day : 100 * ((d.day / 100 * 16 + d.day / 10 % 10) / 16) + 10 * ((d.day / 100 * 16 + d.day / 10 % 10) % 16) + (d.day % 10 * 16 + 15) / 16 ≡ d.day
    day =
        let tens = digit (d.day / 10) in
        rw (high_half (d.day / 100) (d.day / 10 % 10) tens, low_half (d.day / 100) (d.day / 10 % 10) tens, high_half (d.day % 10) 15 (omega arith))
        (hundreds d.day)

from_stored_lem : (d : Date) → Good d → from_stored (stored_form d) ≡ d
from_stored_lem d g = let a = g.first in ap₂ date (omega arith) (be2_back d.day)

-- ---- conversion, by either form: `from` reads what `form` writes

module _ (form : Date → List ℕ) where
  in_form : (from : List ℕ → Date) → ((d : Date) → Good d → from (form d) ≡ d) → (d : Date) → T (good_date d) → date_in form (from (form d)) (form d) ≡ some d
  in_form from back d t =
      let a : good_date d ≡ true = is_true t in
      let b : same (form d) (form d) ≡ true = is_true (same_refl (form d)) in
      rw (back d (good d t), a, b)

  of_form : (e : Date) (bs : List ℕ) (d : Date) → date_in form e bs ≡ some d → T (good_date d) × (form d ≡ bs)
  of_form e bs d q =
      by (good_date e && same (form e) bs)
      (λ k.
      let z : ◌≡◌ {A = Option Date} (some e) (some d) = rw k at q in
      let s : e ≡ d = some_is e d z in
      let t = true_is k in
      (subst (λ (x : Date). T (good_date x)) s (and_l (good_date e) _ t), ap form (sym s) ∙ same→eq (form e) bs (and_r (good_date e) _ t)))
      (λ k. absurd (let z : ◌≡◌ {A = Option Date} none (some d) = rw k at q in let y : ◌≡◌ {A = ℕ} 0 1 = cc in omega arith))

mapped_some : {A B : Type 0} (f : A → B) (o : Option A) (b : B) → map_option f o ≡ some b → (a : A) × (o ≡ some a) × (f a ≡ b)
mapped_some f none b e = absurd (let z : ◌≡◌ {A = ℕ} 0 1 = cc in omega arith)
mapped_some f (some a) b e = (a, refl, some_is (f a) b e)

pub each_converts : EachConverts
unfolding to_stored to_packed
each_converts p s =
    record {
      stored_right = λ e.
          let x = mapped_some stored_form (date_in packed_form (from_packed p) p) s e in
          let y = of_form packed_form (from_packed p) p x.0 x.1 in
          (x.0, y.0, y.1, x.2);
      stored_always = λ x.
          ap (λ (z : List ℕ). map_option stored_form (date_in packed_form (from_packed z) z)) (sym x.2)
          ∙ ap (map_option stored_form) (in_form packed_form from_packed from_packed_lem x.0 x.1)
          ∙ ap some x.3;
      packed_right = λ e.
          let x = mapped_some packed_form (date_in stored_form (from_stored s) s) p e in
          let y = of_form stored_form (from_stored s) s x.0 x.1 in
          (x.0, y.0, x.2, y.1);
      packed_always = λ x.
          ap (λ (z : List ℕ). map_option packed_form (date_in stored_form (from_stored z) z)) (sym x.3)
          ∙ ap (map_option packed_form) (in_form stored_form from_stored from_stored_lem x.0 x.1)
          ∙ ap some x.2;
    }

pub inverse : Inverse
inverse p s = let c = each_converts p s in (λ e. c.packed_always (c.stored_right e), λ e. c.stored_always (c.packed_right e))

-- ---- the order

-- the days of n years from year a on
abbrev days : ℕ → ℕ → ℕ
days a n = sum_of days_in (up_from a n)

-- some years, and then more: at least the days of the first of these, y
days_more : (a n k y : ℕ) → n < k → y ≡ a + n → days a n + days_in y ≤ days a k
days_more a n zero y h e = absurd (omega arith)
days_more a zero (suc k) y h e = let s : y ≡ a = omega arith in rw s (omega arith)
days_more a (suc n) (suc k) y h e = let i = days_more (suc a) n k y (omega arith) (omega arith) in omega arith

earlier_year : (a b : Date) → Good a → Good b → a.year < b.year → day_number a < day_number b
earlier_year a b g h l =
    let f = g.first in
    let i = days_more 1900 (a.year - 1900) (b.year - 1900) a.year (omega arith) (omega arith) in
    let u = g.high in
    let w = h.low in
    omega arith

-- of any year bytes and days
pub later_is : (y d z e : ℕ) → later (y ∷ be2 d) (z ∷ be2 e) ≡ (ltb z y || (eqb y z && ltb e d))
later_is y d z e = ap₂ (λ (i j : ℕ). ltb z y || (eqb y z && ltb i j)) (be2_back e) (be2_back d)

pub calendar_order : CalendarOrder
calendar_order a b ta tb =
    let g = good a ta in
    let h = good b tb in
    let fa = g.first in
    let fb = h.first in
    later_is (a.year - 1900) a.day (b.year - 1900) b.day
    ∙ by (ltb b.year a.year)
    (λ k.
    let l = ltb-true b.year a.year k in
    rw (lt-ltb (b.year - 1900) (a.year - 1900) (omega arith)) (sym (lt-ltb (day_number b) (day_number a) (earlier_year b a h g l))))
    (λ k.
    let l = ltb-false b.year a.year k in
    by (eqb a.year b.year)
    (λ i.
    let e : a.year ≡ b.year = eqb-true a.year b.year i in
    let s : days 1900 (a.year - 1900) ≡ days 1900 (b.year - 1900) = ap (λ (y : ℕ). days 1900 (y - 1900)) e in
    rw (le-ltb (b.year - 1900) (a.year - 1900) (omega arith), eq-eqb (a.year - 1900) (b.year - 1900) (omega arith))
    (by (ltb b.day a.day)
    (λ j. let m = ltb-true b.day a.day j in rw j (sym (lt-ltb (day_number b) (day_number a) (omega arith))))
    (λ j. let m = ltb-false b.day a.day j in rw j (sym (le-ltb (day_number b) (day_number a) (omega arith))))))
    (λ i.
    let n : a.year ≡ b.year → ⊥ = eqb-false a.year b.year i in
    let m : a.year < b.year = le_ne a.year b.year l n in
    let o = earlier_year a b g h m in
    rw (le-ltb (b.year - 1900) (a.year - 1900) (omega arith), ne_eqb (a.year - 1900) (b.year - 1900) (λ e. n (omega arith)))
    (sym (le-ltb (day_number b) (day_number a) (omega arith)))))
  where
    le_ne : (m n : ℕ) → m ≤ n → (m ≡ n → ⊥) → m < n
    le_ne m n l h = by (ltb m n) (λ k. ltb-true m n k) (λ k. absurd (let j = ltb-false m n k in h (omega arith)))

pub any_today : AnyToday
any_today p t e =
    let x = (each_converts p t).stored_right e in
    let d = x.0 in
    let g = good d x.1 in
    let f = g.first in
    let l = g.last in
    subst BesideDates x.3
    (record {
      none = later_is 0 0 (d.year - 1900) d.day ∙ no_later (d.year - 1900) d.day;
      itself = later_is (d.year - 1900) d.day (d.year - 1900) d.day ∙ rw (le-ltb (d.year - 1900) (d.year - 1900) (omega arith), eq-eqb (d.year - 1900) (d.year - 1900) refl, le-ltb d.day d.day (omega arith));
      never = later_is 255 65535 (d.year - 1900) d.day ∙ rw (lt-ltb (d.year - 1900) 255 (omega arith));
    })
  where
    no_later : (z e : ℕ) → (ltb z 0 || (eqb 0 z && ltb e 0)) ≡ false
    no_later z e = rw (le-ltb z 0 (omega arith), le-ltb e 0 (omega arith)) (by (eqb 0 z) (λ k. rw k) (λ k. rw k))

pub none_is_no_date : NoneIsNoDate
unfolding to_stored to_packed
none_is_no_date = (refl, refl)

-- ---- the expiry date among the attributes

pub stored_three : (p s : List ℕ) → to_stored p ≡ some s → length s ≡ 3
stored_three p s e = ap length (sym ((each_converts p s).stored_right e).3)

pub packed_four : (p s : List ℕ) → to_packed s ≡ some p → length p ≡ 4
packed_four p s e = ap length (sym ((each_converts p s).packed_right e).2)

pub expiry_three : (e s : List ℕ) → expiry_from e ≡ some s → length s ≡ 3
unfolding expiry_from
expiry_three e s q =
    by (same e (zeros 4))
    (λ k. sym (ap length (some_is (zeros 3) s (rw k at q))))
    (λ k. stored_three e s (rw k at q))

pub with_long : (s at : List ℕ) → length s ≡ 3 → length at ≡ 52 → length (with_expiry s at) ≡ 52
unfolding with_expiry
with_long s at n l =
    let a = length-take 11 at in
    let b = length-drop 14 at in
    let c = length-take 38 (drop 14 at) in
    let d = length-append (part 0 11 at) (s ++ part 14 38 at) in
    let f = length-append s (part 14 38 at) in
    omega arith

pub expiry_long : (e s at : List ℕ) → expiry_from e ≡ some s → length at ≡ 52 → length (with_expiry s at) ≡ 52
expiry_long e s at q l = with_long s at (expiry_three e s q) l

-- n bytes that stand behind i others
part_between : (i n : ℕ) (xs ys zs : List ℕ) → length xs ≡ i → length ys ≡ n → part i n (xs ++ (ys ++ zs)) ≡ ys
part_between i n xs ys zs a b = ap₂ (λ (i n : ℕ). part i n (xs ++ (ys ++ zs))) (sym a) (sym b) ∙ ap (take (length ys)) (drop-append_seam xs (ys ++ zs)) ∙ take-append_seam ys zs

pub each_stored : EachStored
unfolding with_expiry
each_stored e s at q l =
    let n = expiry_three e s q in
    let a : length (part 0 11 at) ≡ 11 = length-take 11 at ∙ rw l in
    let b : length (part 14 38 at) ≡ 38 = length-take 38 (drop 14 at) ∙ rw (length-drop 14 at, l) in
    record {
      long = expiry_long e s at q l;
      expiry = part_between 11 3 (part 0 11 at) s (part 14 38 at) a n;
      before = part_between 0 11 [] (part 0 11 at) (s ++ part 14 38 at) refl a;
      behind =
          ap (part 14 38) (sym (append_assoc (part 0 11 at) s (part 14 38 at)) ∙ ap (λ (z : List ℕ). (part 0 11 at ++ s) ++ z) (sym (append-nil (part 14 38 at))))
          ∙ part_between 14 38 (part 0 11 at ++ s) (part 14 38 at) [] (length-append (part 0 11 at) s ∙ omega arith) b;
    }
