-- How the searches and the comparison of names go on from slot to slot. Assumes nothing.
use mathlib.Core.Path.{◌≡◌, refl, ap, ◌∙◌, subst, sym}
use mathlib.Core.Bool.{true, false, cond, ◌&&◌, ◌||◌, Bool}
use mathlib.Core.Logic.{⊎_elim}
use mathlib.Core.List.{List, [], ◌∷◌}
use Prim.Native.Nat.{ℕ, zero, suc, ◌+◌, ◌-◌, ◌≤◌, ◌<◌, ◌*◌, ◌/◌, ◌%◌}
use native.Mathlib.Nat.{lt_of_not-le, mul-le-mul, sub-zero}
use native.Mathlib.Decide.{dec_le, ℕ_discrete}
use native.Mathlib.Omega.{arith}
use native.Mathlib.Numerals.{add-one}
use lib.Dec.{eqb}
use lib.ListN.{length, get_or, take, set, drop, drop_of_length-le, length-set}
use Rattle.std.specs.Prelude.{Option, Some, None}
use lib.Seq.{get_or-set_other, get_or-take, get_or-set_same, drop-cons}
use borrow.Author.Tests.{eq-eqb, ne_eqb}
use Rattle.model.specs.Basics.{same}
use Rattle.model.proofs.Lists.{and_l, and_r, by, clash, is_true, same→eq, true_is}
use Rattle.bitmap.specs.Map.{Given, free_bit, is_free}
use Rattle.bitmap.proofs.Bits.{le_or_lt}
use Rattle.bitmap.proofs.Walk.{is_free_lem}
use Rattle.dscb.specs.Records.{slot_bytes}
use Rattle.rows.proofs.Rows.{and_false, and_true}
use Rattle.names.specs.Find.{Answer, Entered, Seen, Tagged, answer_of, distinct, distinct_from, find_slot, first_named, has_tag, is_label, is_named, in_slot, is_nothing, name_of, new_at, not_found, tag_of}

-- ---- a record: its name first

pub other_name : (r name : List ℕ) → same (name_of r) name ≡ false → is_named r name ≡ false
unfolding is_named
other_name r name e = rw (e, and_false)

pub its_name : (r name : List ℕ) → same (name_of r) name ≡ true → is_named r name ≡ is_label r
unfolding is_named
its_name r name e = rw (e, and_true)

-- ---- the search

module _ (t name : List ℕ) (k n : ℕ) (h : k < n) where
  step : first_named t name k (n - k) ≡ cond (is_named (slot_bytes t k) name) (in_slot k) (first_named t name (k + 1) (n - (k + 1)))
  unfolding first_named
  step = let e : n - k ≡ suc (n - suc k) = omega arith in rw (e, add-one)

  pub hit : is_named (slot_bytes t k) name ≡ true → first_named t name k (n - k) ≡ in_slot k
  hit e = rw (step, e)

  pub miss : is_named (slot_bytes t k) name ≡ false → first_named t name k (n - k) ≡ first_named t name (k + 1) (n - (k + 1))
  miss e = rw (step, e)

pub entered_done : (t name : List ℕ) (k n : ℕ) → n ≤ k → first_named t name k (n - k) ≡ not_found
unfolding first_named
entered_done t name k n h = let e : n - k ≡ 0 = omega arith in rw e

none_there : {k : ℕ} → not_found ≡ in_slot k → ⊥
none_there e = let z : ◌≡◌ {A = ℕ} 5 0 = ap (λ (x : Answer). x.number) e in omega arith

-- a search that ends at slot k: it has the name, and no slot before it has
pub record FirstAt (t name : List ℕ) (from n k : ℕ) : Type 0 where
  pub low : from ≤ k
  pub high : k < from + n
  pub here : is_named (slot_bytes t k) name ≡ true
  pub before : (j : ℕ) → from ≤ j → j < k → is_named (slot_bytes t j) name ≡ false

pub first_at : (t name : List ℕ) (from n k : ℕ) → first_named t name from n ≡ in_slot k → FirstAt t name from n k
unfolding first_named
first_at t name from zero k e = absurd (none_there e)
first_at t name from (suc n) k e =
    by (is_named (slot_bytes t from) name)
    (λ p.
    let s : in_slot from ≡ in_slot k = rw p at e in
    let q : from ≡ k = ap (λ (x : Answer). x.slot) s in
    record { low = omega arith; high = omega arith; here = rw (← q) p; before = λ j u w. absurd (omega arith) })
    (λ p.
    let r = first_at t name (suc from) n k (rw p at e) in
    record {
      low = let x = r.low in omega arith;
      high = let x = r.high in omega arith;
      here = r.here;
      before = λ j u w. elim (dec_le (suc from) j) [ yes x ↦ r.before j x w | no x ↦ (let y : j ≡ from = let z = lt_of_not-le x in omega arith in rw y p) ];
    })

pub found_at : (t name : List ℕ) (n k : ℕ) → find_slot t name n ≡ in_slot k → FirstAt t name 0 n k
unfolding find_slot
found_at t name n k e = first_at t name 0 n k e

-- a search that finds nothing
pub none_named : (t name : List ℕ) (from n : ℕ) → first_named t name from n ≡ not_found → (j : ℕ) → from ≤ j → j < from + n → is_named (slot_bytes t j) name ≡ false
unfolding first_named
none_named t name from zero e j u w = absurd (omega arith)
none_named t name from (suc n) e j u w =
    by (is_named (slot_bytes t from) name)
    (λ p. absurd (let s : in_slot from ≡ not_found = rw p at e in none_there (sym s)))
    (λ p.
    elim (dec_le (suc from) j) [
      | yes x ↦ none_named t name (suc from) n (rw p at e) j x (omega arith)
      | no x ↦ let y : j ≡ from = let z = lt_of_not-le x in omega arith in rw y p
    ])

pub nothing_at : (t name : List ℕ) (n : ℕ) → find_slot t name n ≡ not_found → (j : ℕ) → j < n → is_named (slot_bytes t j) name ≡ false
unfolding find_slot
nothing_at t name n e j u = none_named t name 0 n e j (omega arith) (omega arith)

-- one of the two
some_answer : (t name : List ℕ) (k n : ℕ) → (f : Option ℕ) × (answer_of f ≡ first_named t name k n)
unfolding first_named
some_answer t name k zero = (None, refl)
some_answer t name k (suc n) = by (is_named (slot_bytes t k) name) (λ p. (Some k, rw p)) (λ p. let i = some_answer t name (suc k) n in (i.0, rw p i.1))

pub answered : (t name : List ℕ) (n : ℕ) → (f : Option ℕ) × (answer_of f ≡ find_slot t name n)
unfolding find_slot
answered t name n = some_answer t name 0 n

-- ---- names that differ

module _ (t : List ℕ) (k n : ℕ) (h : k < n) where
  distinct_step : distinct_from t k (n - k) ≡ (new_at t k && distinct_from t (k + 1) (n - (k + 1)))
  unfolding distinct_from
  distinct_step = let e : n - k ≡ suc (n - suc k) = omega arith in rw (e, add-one)

  distinct_next : new_at t k ≡ true → distinct_from t k (n - k) ≡ distinct_from t (k + 1) (n - (k + 1))
  distinct_next e = rw (distinct_step, e)

  distinct_stop : new_at t k ≡ false → distinct_from t k (n - k) ≡ false
  distinct_stop e = rw (distinct_step, e)

distinct_end : (t : List ℕ) (k n : ℕ) → n ≤ k → distinct_from t k (n - k) ≡ true
unfolding distinct_from
distinct_end t k n h = let e : n - k ≡ 0 = omega arith in rw e

-- ---- tags

pub tag_there : (tags : List ℕ) (x j : ℕ) → j < length tags → get_or tags j 0 ≡ x → has_tag tags x ≡ true
unfolding has_tag
tag_there [] x j u e = absurd (omega arith)
tag_there (y ∷ ys) x zero u e = rw (eq-eqb y x e)
tag_there (y ∷ ys) x (suc j) u e = by (eqb y x) (λ h. rw h) (λ h. rw h (tag_there ys x j (omega arith) e))

named_label : (r name : List ℕ) → is_named r name ≡ true → (is_label r ≡ true) × (name_of r ≡ name)
unfolding is_named
named_label r name e =
    let x = true_is e in (is_true (and_l (is_label r) (same (name_of r) name) x), same→eq (name_of r) name (and_r (is_label r) (same (name_of r) name) x))

-- no such tag before slot k, so no such name
pub no_tag : (t tags : List ℕ) (k : ℕ) → length tags ≡ k → Tagged t k tags → (name : List ℕ) → has_tag tags (tag_of name) ≡ false → find_slot t name k ≡ not_found
no_tag t tags k l g name e = go (answered t name k).0 (answered t name k).1
  where
    go : (f : Option ℕ) → answer_of f ≡ find_slot t name k → find_slot t name k ≡ not_found
    go None q = sym q
    go (Some j) q =
        let a = found_at t name k j (sym q) in
        let b = named_label (slot_bytes t j) name a.here in
        let u = a.high in
        let c : get_or tags j 0 ≡ tag_of name = g j (omega arith) b.0 ∙ ap tag_of b.1 in
        clash (tag_there tags (tag_of name) j (omega arith) c) e

-- a slot with another tag has another name
pub other_tag : (t tags : List ℕ) (k j x : ℕ) (name : List ℕ) → Tagged t k tags → j < k → x ≡ tag_of name → (get_or tags j 0 ≡ x → ⊥) → is_named (slot_bytes t j) name ≡ false
other_tag t tags k j x name g u q n =
    by (is_named (slot_bytes t j) name)
    (λ h. let b = named_label (slot_bytes t j) name h in absurd (n (g j u b.0 ∙ ap tag_of b.1 ∙ sym q)))
    (λ h. h)

pub tag_next : (t tags : List ℕ) (k : ℕ) → k < length tags → Tagged t k tags → Tagged t (k + 1) (set tags k (tag_of (name_of (slot_bytes t k))))
tag_next t tags k l g j u e =
    elim (ℕ_discrete j k) [
      | yes q ↦ rw q (get_or-set_same tags k (tag_of (name_of (slot_bytes t k))) 0 l)
      | no q ↦ get_or-set_other tags k j (tag_of (name_of (slot_bytes t k))) 0 q ∙ g j (omega arith) e
    ]

pub tag_skip : (t tags : List ℕ) (k : ℕ) → is_label (slot_bytes t k) ≡ false → Tagged t k tags → Tagged t (k + 1) tags
tag_skip t tags k f g j u e =
    elim (ℕ_discrete j k) [
      | yes q ↦ clash (subst (λ (x : ℕ). is_label (slot_bytes t x) ≡ true) q e) f
      | no q ↦ g j (omega arith) e
    ]

pub label_at : (t : List ℕ) (k : ℕ) → is_label (slot_bytes t k) ≡ true → new_at t k ≡ is_nothing (find_slot t (name_of (slot_bytes t k)) k)
unfolding new_at
label_at t k e = rw e

pub no_label_in : (t : List ℕ) (k : ℕ) → is_label (slot_bytes t k) ≡ false → new_at t k ≡ true
unfolding new_at
no_label_in t k e = rw e

-- ---- the loops over tags and characters

or_true : (a : Bool) → (a || true) ≡ true
or_true true = refl
or_true false = refl

or_false : (a : Bool) → (a || false) ≡ a
or_false true = refl
or_false false = refl

module _ (tags : List ℕ) (x i : ℕ) (h : i < length tags) where
  pub tag_hit : (b : Bool) → get_or tags i 0 ≡ x → (b || has_tag (drop i tags) x) ≡ (true || has_tag (drop (i + 1) tags) x)
  unfolding has_tag
  tag_hit b e = rw (drop-cons tags i 0 h, eq-eqb _ _ e) (or_true b)

  pub tag_miss : (b : Bool) → (get_or tags i 0 ≡ x → ⊥) → (b || has_tag (drop i tags) x) ≡ (b || has_tag (drop (i + 1) tags) x)
  unfolding has_tag
  tag_miss b e = rw (add-one, drop-cons tags i 0 h, ne_eqb _ _ e)

pub tag_end : (tags : List ℕ) (x i : ℕ) (b : Bool) → length tags ≤ i → (b || has_tag (drop i tags) x) ≡ b
unfolding has_tag
tag_end tags x i b h = rw (drop_of_length-le tags {i = i} h) (or_false b)

-- ---- the tag

pub halves_fit : (x : ℕ) → x < 18446744073709551616 → (x % 4294967296) * (x / 4294967296) < 18446744073709551616
halves_fit x h =
    let a : (x % 4294967296) * (x / 4294967296) ≤ 4294967295 * 4294967295
    = mul-le-mul {n₁ = x % 4294967296} {n₂ = 4294967295} {m₂ = 4294967295} (omega arith) (omega arith) in
    omega arith

pub tag_first : (t tags : List ℕ) (k : ℕ) → Tagged t k tags → Tagged t k (take k tags)
tag_first t tags k g j u e = get_or-take k tags j 0 u ∙ g j u e

-- ---- marks

-- no mark for such a tag, so no such name before slot k
pub no_mark : (t seen : List ℕ) (k x : ℕ) → Seen t k seen → (name : List ℕ) → x ≡ tag_of name → is_free seen (x % 4096) ≡ false → find_slot t name k ≡ not_found
no_mark t seen k x g name q e = go (answered t name k).0 (answered t name k).1
  where
    go : (f : Option ℕ) → answer_of f ≡ find_slot t name k → find_slot t name k ≡ not_found
    go None p = sym p
    go (Some j) p =
        let a = found_at t name k j (sym p) in
        let b = named_label (slot_bytes t j) name a.here in
        let u = a.high in
        let r : tag_of (name_of (slot_bytes t j)) ≡ x = ap tag_of b.1 ∙ sym q in
        clash (is_free_lem seen (x % 4096) (ap (λ (y : ℕ). free_bit seen (y % 4096)) (sym r) ∙ g j (omega arith) b.0)) e

-- one more mark: the others stay
mark_kept : (m m' : List ℕ) (a b : ℕ) → Given m m' a (a + 1) → free_bit m b ≡ 1 → free_bit m' b ≡ 1
mark_kept m m' a b g e =
    ⊎_elim
    (λ u. ⊎_elim (λ v. g.after b v ∙ e) (λ v. g.inside b u v) (le_or_lt (a + 1) b))
    (λ u. g.before b u ∙ e)
    (le_or_lt a b)

pub mark_next : (t seen seen' : List ℕ) (k x : ℕ) → x ≡ tag_of (name_of (slot_bytes t k)) → Given seen seen' (x % 4096) (x % 4096 + 1) → Seen t k seen → Seen t (k + 1) seen'
mark_next t seen seen' k x q m g j u e =
    elim (ℕ_discrete j k) [
      | yes r ↦
          let p : x ≡ tag_of (name_of (slot_bytes t j)) = q ∙ ap (λ (y : ℕ). tag_of (name_of (slot_bytes t y))) (sym r) in
          ap (λ (y : ℕ). free_bit seen' (y % 4096)) (sym p) ∙ m.inside (x % 4096) (omega arith) (omega arith)
      | no r ↦ mark_kept seen seen' (x % 4096) (tag_of (name_of (slot_bytes t j)) % 4096) m (g j (omega arith) e)
    ]

pub mark_skip : (t seen : List ℕ) (k : ℕ) → is_label (slot_bytes t k) ≡ false → Seen t k seen → Seen t (k + 1) seen
mark_skip t seen k f g j u e =
    elim (ℕ_discrete j k) [
      | yes q ↦ clash (subst (λ (x : ℕ). is_label (slot_bytes t x) ≡ true) q e) f
      | no q ↦ g j (omega arith) e
    ]

-- ---- what `enter` leaves, by the record r in slot k

module _ (t tags seen r : List ℕ) (k : ℕ) (e : r ≡ slot_bytes t k) (g : Tagged t k tags) (h : Seen t k seen) where
  pub enter_skip : (get_or r 44 0 ≡ 0xF1 → ⊥) → Entered t k tags tags seen seen true
  enter_skip n =
      let f : is_label (slot_bytes t k) ≡ false = subst (λ (x : List ℕ). is_label x ≡ false) e (ne_eqb _ _ n) in
      record { new = sym (no_label_in t k f); long = refl; wide = refl; tagged = λ q. tag_skip t tags k f g; marked = λ q. mark_skip t seen k f h }

  module _ (m : get_or r 44 0 ≡ 0xF1) where
    label : is_label (slot_bytes t k) ≡ true
    label = subst (λ (x : List ℕ). is_label x ≡ true) e (eq-eqb _ _ m)

    pub enter_new : (x : ℕ) (seen' : List ℕ) → k < length tags → Given seen seen' (x % 4096) (x % 4096 + 1) → x ≡ tag_of (name_of r) → is_nothing (find_slot t (name_of r) k) ≡ true
        → Entered t k tags (set tags k x) seen seen' true
    enter_new x seen' l w q n =
        let a : x ≡ tag_of (name_of (slot_bytes t k)) = q ∙ ap (λ (y : List ℕ). tag_of (name_of y)) e in
        let b : is_nothing (find_slot t (name_of (slot_bytes t k)) k) ≡ true = subst (λ (y : List ℕ). is_nothing (find_slot t (name_of y) k) ≡ true) e n in
        record {
          new = sym (label_at t k label ∙ b);
          long = length-set tags k x;
          wide = w.long;
          tagged = λ _. subst (λ (y : ℕ). Tagged t (k + 1) (set tags k y)) (sym a) (tag_next t tags k l g);
          marked = λ _. mark_next t seen seen' k x a w h;
        }

    pub enter_old : is_nothing (find_slot t (name_of r) k) ≡ false → Entered t k tags tags seen seen false
    enter_old n =
        let b : is_nothing (find_slot t (name_of (slot_bytes t k)) k) ≡ false = subst (λ (y : List ℕ). is_nothing (find_slot t (name_of y) k) ≡ false) e n in
        record { new = sym (label_at t k label ∙ b); long = refl; wide = refl; tagged = λ q. clash {b = false} q refl; marked = λ q. clash {b = false} q refl }

-- ---- a pass that enters name after name

-- the names below slot k differ, their tags and marks are at hand, and the other slots decide
pub record NameEntering (t tags seen : List ℕ) (k n : ℕ) : Type 0 where
  pub rest : distinct t n ≡ distinct_from t k (n - k)
  pub long : length tags ≡ 468
  pub wide : length seen ≡ 64
  pub tagged : Tagged t k tags
  pub marked : Seen t k seen

-- it may begin behind slot 0, where that has no label
pub entering_start : (t tags seen : List ℕ) (n : ℕ) → is_label (slot_bytes t 0) ≡ false → 0 < n → length tags ≡ 468 → length seen ≡ 64 → NameEntering t tags seen 1 n
unfolding distinct
entering_start t tags seen n f h l w =
    record {
      rest = ap (distinct_from t 0) (sym (sub-zero n)) ∙ distinct_next t 0 n h (no_label_in t 0 f);
      long = l;
      wide = w;
      tagged = tag_skip t tags 0 f (λ j u e. absurd (omega arith));
      marked = mark_skip t seen 0 f (λ j u e. absurd (omega arith));
    }

module _ (t tags tags' seen seen' : List ℕ) (k n : ℕ) (x : NameEntering t tags seen k n) (h : k < n) (r : Bool) (y : Entered t k tags tags' seen seen' r) where
  pub entering_next : r ≡ true → NameEntering t tags' seen' (k + 1) n
  entering_next e =
      record {
        rest = x.rest ∙ distinct_next t k n h (sym y.new ∙ e);
        long = y.long ∙ x.long;
        wide = y.wide ∙ x.wide;
        tagged = y.tagged e;
        marked = y.marked e;
      }

  pub entering_stop : r ≡ false → distinct t n ≡ false
  entering_stop e = x.rest ∙ distinct_stop t k n h (sym y.new ∙ e)

pub entering_end : (t tags seen : List ℕ) (k n : ℕ) → NameEntering t tags seen k n → n ≤ k → distinct t n ≡ true
entering_end t tags seen k n x h = x.rest ∙ distinct_end t k n h
