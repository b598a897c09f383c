-- Dates: the definitions, as the code goes. Laws take a result with what it ensures. Assumes nothing.
use mathlib.Core.Path.{◌≡◌, refl, sym, ap, ap₂, ◌∙◌, subst}
use mathlib.Core.Bool.{Bool, true, false, cond, ◌&&◌}
use mathlib.Core.Option.{none, some}
use mathlib.Core.List.{List, [], ◌∷◌, ◌++◌}
use Prim.Native.Nat.{ℕ, ◌+◌, ◌-◌, ◌*◌, ◌/◌, ◌%◌, ◌≤◌, ◌<◌}
use native.Mathlib.Omega.{arith}
use borrow.Author.Tests.{eq-eqb, le-leb}
use lib.Dec.{T, eqb, leb, eqb→eq, leb→le}
use lib.ListN.{drop, get_or, length, length-drop, take}
use lib.Seq.{drop-drop, take_all}
use borrow.Rule.Slice.PartMut.{put_mid}
use Rattle.model.specs.Basics.{get2, map_option, same, zeros}
use Rattle.model.proofs.Lists.{and_l, and_r, both, by, clash, is_true, same_refl, same→eq, true_is}
use Rattle.rules.specs.Dates.{Date, date, date_in, expiry_from, from_packed, from_stored, good_date, packed_form, stored_form, to_packed, to_stored, with_expiry}
use Rattle.rules.proofs.Dates.{Good, good}
use Rattle.dates.specs.Digits.{day_in, digits_in, two_digits, year_in}

-- ---- a day that there is

module _ (y d : ℕ) where
  abbrev e : Date
  e = date (1900 + y) d

  pub bounds : (ok : Bool) → ok ≡ good_date e → ok ≡ true → (y < 200) × (d < 400)
  bounds ok h k = let g = good e (true_is (sym h ∙ k)) in let a = g.last in let b = g.most in (omega arith, omega arith)

-- ---- lists of three and of four

by_three : (P : List ℕ → Type 0) → ((a b c : ℕ) → P (a ∷ b ∷ c ∷ [])) → (s : List ℕ) → length s ≡ 3 → P s
by_three P f [] e = absurd (omega arith)
by_three P f (a ∷ []) e = absurd (omega arith)
by_three P f (a ∷ b ∷ []) e = absurd (omega arith)
by_three P f (a ∷ b ∷ c ∷ []) e = f a b c
by_three P f (a ∷ b ∷ c ∷ d ∷ s) e = absurd (omega arith)

by_four : (P : List ℕ → Type 0) → ((a b c d : ℕ) → P (a ∷ b ∷ c ∷ d ∷ [])) → (s : List ℕ) → length s ≡ 4 → P s
by_four P f [] e = absurd (omega arith)
by_four P f (a ∷ s) e = by_three (λ s. P (a ∷ s)) (f a) s (omega arith)

other_length : (xs ys : List ℕ) → (length ys ≡ length xs → ⊥) → same xs ys ≡ false
other_length xs ys h = by (same xs ys) (λ e. absurd (h (sym (ap length (same→eq xs ys (true_is e)))))) (λ e. e)

and_false : (a b : Bool) → b ≡ false → (a && b) ≡ false
and_false true b e = e
and_false false b e = refl

-- ---- the forms

packed_as : (y d : ℕ) → y / 100 ∷ (y / 10 % 10 * 16 + y % 10) ∷ (d / 100 * 16 + d / 10 % 10) ∷ (d % 10 * 16 + 15) ∷ [] ≡ packed_form (date (1900 + y) d)
packed_as y d =
    ap₂ (λ (c z : ℕ). c ∷ (z / 10 % 10 * 16 + z % 10) ∷ (d / 100 * 16 + d / 10 % 10) ∷ (d % 10 * 16 + 15) ∷ [])
    (ap (λ (z : ℕ). z / 100) (sym (less y)) ∙ omega arith) (sym (less y))
  where
    less : (y : ℕ) → 1900 + y - 1900 ≡ y
    less y = omega arith

pub stored_is : (y d : ℕ) → y ∷ d / 256 ∷ d % 256 ∷ [] ≡ stored_form (date (1900 + y) d)
stored_is y d = ap (λ (z : ℕ). z ∷ d / 256 ∷ d % 256 ∷ []) (omega arith)

-- ---- conversion: `e` is the date that the bytes tell

module _ (form other : Date → List ℕ) (e : Date) (bs : List ℕ) where
  converts : (b : Bool) → (good_date e && same (form e) bs) ≡ b → map_option other (date_in form e bs) ≡ cond b (some (other e)) none
  converts true h = rw h
  converts false h = rw h

  pub converts_bad : (ok : Bool) → ok ≡ good_date e → ok ≡ false → map_option other (date_in form e bs) ≡ none
  converts_bad ok h k = converts false (ap (λ (b : Bool). b && same (form e) bs) (sym h ∙ k))

  converts_other : same (form e) bs ≡ false → map_option other (date_in form e bs) ≡ none
  converts_other k = converts false (and_false (good_date e) (same (form e) bs) k)

  converts_good : (ok : Bool) → ok ≡ good_date e → ok ≡ true → same (form e) bs ≡ true → map_option other (date_in form e bs) ≡ some (other e)
  converts_good ok h k s = converts true (ap₂ ◌&&◌ (sym h ∙ k) s)

-- packed to stored

pub stored_short : (p : List ℕ) → (length p ≡ 4 → ⊥) → to_stored p ≡ none
unfolding to_stored
stored_short p h = converts_other packed_form stored_form (from_packed p) p (other_length (packed_form (from_packed p)) p h)

told_four : (p : List ℕ) → length p ≡ 4 → date (1900 + year_in p) (day_in p) ≡ from_packed p
unfolding year_in day_in
told_four p l = by_four (λ p. date (1900 + year_in p) (day_in p) ≡ from_packed p) (λ a b c d. ap (λ (y : ℕ). date y (100 * (c / 16) + 10 * (c % 16) + d / 16)) (omega arith)) p l

-- ---- digits: those of a packed date are, and what has them is the packed form of what it tells

module _ (c h l : ℕ) (uh : h ≤ 9) (ul : l ≤ 9) where
  hundreds_of : (100 * c + 10 * h + l) / 100 ≡ c
  hundreds_of = omega arith

  tens_of : (100 * c + 10 * h + l) / 10 % 10 ≡ h
  tens_of = let e : (100 * c + 10 * h + l) / 10 ≡ 10 * c + h = omega arith in ap (λ (n : ℕ). n % 10) e ∙ last
    where
      last : (10 * c + h) % 10 ≡ h
      last = omega arith

  ones_of : (100 * c + 10 * h + l) % 10 ≡ l
  ones_of = omega arith

halves_back : (b : ℕ) → b / 16 * 16 + b % 16 ≡ b
halves_back b = omega arith

high_digit : (b n : ℕ) → b ≤ 16 * n + 15 → b / 16 ≤ n
high_digit b n h = omega arith

record Digits (a b c d : ℕ) : Type 0 where
  first : a ≤ 1
  second : (b / 16 ≤ 9) × (b % 16 ≤ 9)
  third : (c / 16 ≤ 9) × (c % 16 ≤ 9)
  fourth : (d / 16 ≤ 9) × (d % 16 ≡ 15)

pair : (b : ℕ) → T (two_digits b) → (b / 16 ≤ 9) × (b % 16 ≤ 9)
pair b t =
    let h = leb→le b 0x99 (and_l (leb b 0x99) (leb (b % 16) 9) t) in
    (high_digit b 9 (omega arith), leb→le (b % 16) 9 (and_r (leb b 0x99) (leb (b % 16) 9) t))

digits : (a b c d : ℕ) → T (digits_in (a ∷ b ∷ c ∷ d ∷ [])) → Digits a b c d
unfolding digits_in
digits a b c d t =
    let x : T (leb a 1) = search (and_l, and_r) depth 7 in
    let y : T (two_digits b) = search (and_l, and_r) depth 7 in
    let z : T (two_digits c) = search (and_l, and_r) depth 7 in
    let u : T (leb d 0x9F) = search (and_l, and_r) depth 7 in
    let v : T (eqb (d % 16) 15) = search (and_l, and_r) depth 7 in
    record {
      first = leb→le a 1 x;
      second = pair b y;
      third = pair c z;
      fourth = (high_digit d 9 (leb→le d 0x9F u), eqb→eq (d % 16) 15 v);
    }

-- read and packed again
again : (a b c d : ℕ) → Digits a b c d → packed_form (date (1900 + (100 * (a % 16) + 10 * (b / 16) + b % 16)) (100 * (c / 16) + 10 * (c % 16) + d / 16)) ≡ a ∷ b ∷ c ∷ d ∷ []
again a b c d g =
    let i = g.first in
    let s : a % 16 ≡ a = small a i in
    sym (packed_as (100 * (a % 16) + 10 * (b / 16) + b % 16) (100 * (c / 16) + 10 * (c % 16) + d / 16))
    ∙ rw (
      hundreds_of (a % 16) (b / 16) (b % 16) g.second.0 g.second.1,
      tens_of (a % 16) (b / 16) (b % 16) g.second.0 g.second.1,
      ones_of (a % 16) (b / 16) (b % 16) g.second.0 g.second.1,
      hundreds_of (c / 16) (c % 16) (d / 16) g.third.1 g.fourth.0,
      tens_of (c / 16) (c % 16) (d / 16) g.third.1 g.fourth.0,
      ones_of (c / 16) (c % 16) (d / 16) g.third.1 g.fourth.0,
      s,
      halves_back b,
      halves_back c,
    )
    (ap (λ (x : ℕ). a ∷ b ∷ c ∷ x ∷ []) (ap (λ (x : ℕ). d / 16 * 16 + x) (sym g.fourth.1) ∙ halves_back d))
  where
    small : (a : ℕ) → a ≤ 1 → a % 16 ≡ a
    small a h = omega arith

packed_again : (p : List ℕ) → length p ≡ 4 → T (digits_in p) → packed_form (date (1900 + year_in p) (day_in p)) ≡ p
unfolding year_in day_in
packed_again p l t =
    by_four (λ p. T (digits_in p) → packed_form (date (1900 + year_in p) (day_in p)) ≡ p) (λ a b c d t. again a b c d (digits a b c d t)) p l t

two_good : (h l : ℕ) → h ≤ 9 → l ≤ 9 → T (two_digits (h * 16 + l))
two_good h l uh ul = both (leb (h * 16 + l) 0x99) (leb ((h * 16 + l) % 16) 9) (true_is (le-leb (h * 16 + l) 0x99 (omega arith))) (true_is (le-leb ((h * 16 + l) % 16) 9 (low h l ul)))
  where
    low : (h l : ℕ) → l ≤ 9 → (h * 16 + l) % 16 ≤ 9
    low h l u = omega arith

all_five : (a b c d e : Bool) → T a → T b → T c → T d → T e → T (a && (b && (c && (d && e))))
all_five a b c d e ta tb tc td te = both a (b && (c && (d && e))) ta (both b (c && (d && e)) tb (both c (d && e) tc (both d e td te)))

date_digits : (d : Date) → Good d → T (digits_in (packed_form d))
unfolding digits_in
date_digits d g =
    let f = g.first in
    let la = g.last in
    let m = g.most in
    let y : ℕ = d.year - 1900 in
    all_five (leb (0 * 16 + y / 100) 1) (two_digits (y / 10 % 10 * 16 + y % 10)) (two_digits (d.day / 100 * 16 + d.day / 10 % 10)) (leb (d.day % 10 * 16 + 15) 0x9F) (eqb ((d.day % 10 * 16 + 15) % 16) 15)
    (true_is (le-leb (0 * 16 + y / 100) 1 (century d.year la)))
    (two_good (y / 10 % 10) (y % 10) (digit (y / 10)) (digit y))
    (two_good (d.day / 100) (d.day / 10 % 10) (hundred d.day m) (digit (d.day / 10)))
    (true_is (le-leb (d.day % 10 * 16 + 15) 0x9F (ending d.day)))
    (true_is (eq-eqb ((d.day % 10 * 16 + 15) % 16) 15 (sign (d.day % 10))))
  where
    digit : (n : ℕ) → n % 10 ≤ 9
    digit n = omega arith

    century : (y : ℕ) → y ≤ 2099 → 0 * 16 + (y - 1900) / 100 ≤ 1
    century y h = omega arith

    hundred : (n : ℕ) → n ≤ 366 → n / 100 ≤ 9
    hundred n h = omega arith

    ending : (n : ℕ) → n % 10 * 16 + 15 ≤ 0x9F
    ending n = omega arith

    sign : (n : ℕ) → (n * 16 + 15) % 16 ≡ 15
    sign n = omega arith

module _ (p : List ℕ) (l : length p ≡ 4) (ds : Bool) (hd : ds ≡ digits_in p) where
  pub no_digits : ds ≡ false → to_stored p ≡ none
  unfolding to_stored
  no_digits k =
      by (good_date (from_packed p))
      (λ g.
      converts_other packed_form stored_form (from_packed p) p
      (by {X = same (packed_form (from_packed p)) p ≡ false} (same (packed_form (from_packed p)) p)
      (λ s.
      let q : packed_form (from_packed p) ≡ p = same→eq (packed_form (from_packed p)) p (true_is s) in
      clash (is_true (subst (λ (x : List ℕ). T (digits_in x)) q (date_digits (from_packed p) (good (from_packed p) (true_is g))))) (sym hd ∙ k))
      (λ s. s)))
      (λ g. converts_bad packed_form stored_form (from_packed p) p false (sym g) refl)

  module _ (y d : ℕ) (ey : y ≡ year_in p) (ed : d ≡ day_in p) where
    abbrev told : Date
    told = date (1900 + y) d

    told_is : told ≡ date (1900 + year_in p) (day_in p)
    told_is = ap₂ (λ (y d : ℕ). date (1900 + y) d) ey ed

    to_stored_is : to_stored p ≡ map_option stored_form (date_in packed_form told p)
    unfolding to_stored
    to_stored_is = ap (λ (e : Date). map_option stored_form (date_in packed_form e p)) (sym (told_is ∙ told_four p l))

    module _ (ok : Bool) (h : ok ≡ good_date told) where
      pub stored_bad : ok ≡ false → to_stored p ≡ none
      stored_bad k = to_stored_is ∙ converts_bad packed_form stored_form told p ok h k

      pub stored_good : ds ≡ true → ok ≡ true → (r : List ℕ) → r ≡ stored_form told → to_stored p ≡ some r
      stored_good m k r er =
          let q : packed_form told ≡ p = ap packed_form told_is ∙ packed_again p l (true_is (sym hd ∙ m)) in
          to_stored_is
          ∙ converts_good packed_form stored_form told p ok h k (ap (same (packed_form told)) (sym q) ∙ is_true (same_refl (packed_form told)))
          ∙ ap some (sym er)

-- stored to packed

pub day_from : (s : List ℕ) {high low : ℕ} → high ≡ get_or s 1 0 → low ≡ get_or s 2 0 → high * 256 + low ≡ get2 s 1
day_from s e f = ap₂ (λ (h l : ℕ). h * 256 + l) e f

pub packed_short : (s : List ℕ) → (length s ≡ 3 → ⊥) → to_packed s ≡ none
unfolding to_packed
packed_short s h = converts_other stored_form packed_form (from_stored s) s (other_length (stored_form (from_stored s)) s h)

module _ (s : List ℕ) (l : length s ≡ 3) (y d : ℕ) (ey : y ≡ get_or s 0 0) (ed : d ≡ get2 s 1) where
  abbrev kept : Date
  kept = date (1900 + y) d

  to_packed_is : to_packed s ≡ map_option packed_form (date_in stored_form kept s)
  unfolding to_packed
  to_packed_is = ap (λ (e : Date). map_option packed_form (date_in stored_form e s)) (ap₂ (λ (y d : ℕ). date (1900 + y) d) (sym ey) (sym ed))

  module _ (ok : Bool) (h : ok ≡ good_date kept) where
    pub packed_bad : ok ≡ false → to_packed s ≡ none
    packed_bad k = to_packed_is ∙ converts_bad stored_form packed_form kept s ok h k

    -- any three bytes are the form of what they tell
    stored_back : get_or s 2 0 < 256 → stored_form kept ≡ s
    stored_back u = sym (stored_is y d) ∙ ap₂ (λ (y d : ℕ). y ∷ d / 256 ∷ d % 256 ∷ []) ey ed ∙ by_three (λ s. get_or s 2 0 < 256 → get_or s 0 0 ∷ get2 s 1 / 256 ∷ get2 s 1 % 256 ∷ [] ≡ s) (λ a b c u. ap₂ (λ (x y : ℕ). a ∷ x ∷ y ∷ []) (omega arith) (omega arith)) s l u

    pub packed_good : get_or s 2 0 < 256 → ok ≡ true → (q : List ℕ) → q ≡ packed_form kept → to_packed s ≡ some q
    packed_good u k q eq =
        to_packed_is
        ∙ converts_good stored_form packed_form kept s ok h k (ap (same (stored_form kept)) (sym (stored_back u)) ∙ is_true (same_refl (stored_form kept)))
        ∙ ap some (sym eq)

-- ---- allocate's expiry date

pub expiry_none : (e : List ℕ) (s : Bool) → s ≡ same e (zeros 4) → s ≡ true → expiry_from e ≡ some (zeros 3)
unfolding expiry_from
expiry_none e s h k = rw (sym h ∙ k)

pub expiry_some : (e : List ℕ) (s : Bool) → s ≡ same e (zeros 4) → s ≡ false → expiry_from e ≡ to_stored e
unfolding expiry_from
expiry_some e s h k = rw (sym h ∙ k)

-- the attributes copied, three of them written over
pub expiry_put : (s at : List ℕ) → length at ≡ 52 → put_mid 11 3 at s ≡ with_expiry s at
unfolding with_expiry
expiry_put s at la = ap (λ (x : List ℕ). take 11 at ++ (s ++ x)) (drop-drop 3 11 at ∙ sym (take_all 38 (drop 14 at) (omega (arith, length-drop 14 at))))
