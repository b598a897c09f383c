-- A label that passes the tests is as `LabelOk` says, and one that is so passes. Assumes nothing.
use mathlib.Core.Path.{◌≡◌, refl, sym, ap, ◌∙◌, subst}
use mathlib.Core.List.{List, []}
use Prim.Native.Nat.{ℕ, zero, suc, ◌+◌, ◌*◌, ◌≤◌, ◌<◌}
use native.Mathlib.Omega.{arith}
use lib.Dec.{T, leb}
use mathlib.Core.Logic.{◌⊎◌, ⊎_elim, inl, inr}
use native.Mathlib.Nat.{lt_of_not-le, le_refl, mul-le-mul_left}
use native.Mathlib.Decide.{dec_le}
use lib.ListN.{length, get_or, get_or-eq_default}
use mathlib.Core.Bool.{◌&&◌, true}
use borrow.Author.Tests.{le-leb, leb-true, leb-false}
use Rattle.model.specs.Basics.{part}
use Rattle.model.specs.Model.{Extent, Geometry, Label, slots, tracks}
use Rattle.model.proofs.Lists.{and_l, and_r, both, by, is_true, true_is}
use Rattle.rules.specs.Layout.{extent_part, format1, format3, link}
use Rattle.rules.specs.Reading.{chop, read_extents, read_label, record_at, slot_at}
use Rattle.rules.proofs.LabelBack.{length_3}
use Rattle.rules.specs.Predicates.{GoodLabel, Limits}
use Rattle.rules.specs.Sound.{LabelOk}
use Rattle.dscb.specs.Records.{slot_bytes}
use Rattle.rows.specs.Words.{Bytes, all_are}
use Rattle.dscb.proofs.Links.{none_is, none_passes, slot_found, slot_named_lem, slot_part, slot_read}
use Rattle.dscb.proofs.Records.{chop_slot, length_chop, length_part}
use Rattle.dscb.proofs.Tens.{in_format1}
use Rattle.dscb.specs.Forms.{extent_ok, one_ok, three_ok}
use Rattle.dscb.proofs.Blocks.{ten_for}
use Rattle.dscb.proofs.Cutting.{bytes_part}
use Rattle.dscb.proofs.Sound.{OneOk, ThreeOk, one→, three→, →one, →three}
use Rattle.dscb.proofs.Written.{all_good, count_back, extent_passes, good_label_lem, link1_back, one_back, stand1_back, stand3_back, stands, three_back, written1, written3}
use Rattle.std.specs.Prelude.{None, Some}
use Rattle.check_label.specs.Label.{extents_ok, few_ok, form_of, named_third, third_of}
use Rattle.check_label.proofs.Laws.{if_some}

-- ---- rows of tests

tests→ : (h t : ℕ) (f1 f3 : List ℕ) (n e k : ℕ) → T (extents_ok h t f1 f3 n e k) → (j : ℕ) → e ≤ j → j < e + k → T (extent_ok h t n j (extent_part f1 f3 j))
unfolding extents_ok
tests→ h t f1 f3 n e zero p j u w = absurd (omega arith)
tests→ h t f1 f3 n e (suc k) p j u w =
    let a = and_l (extent_ok h t n e (extent_part f1 f3 e)) (extents_ok h t f1 f3 n (suc e) k) p in
    let b = and_r (extent_ok h t n e (extent_part f1 f3 e)) (extents_ok h t f1 f3 n (suc e) k) p in
    elim (dec_le (suc e) j) [
      | yes x ↦ tests→ h t f1 f3 n (suc e) k b j x (omega arith)
      | no x ↦ let q : e ≡ j = let z = lt_of_not-le x in omega arith in subst (λ (y : ℕ). T (extent_ok h t n y (extent_part f1 f3 y))) q a
    ]

→tests : (h t : ℕ) (f1 f3 : List ℕ) (n e k : ℕ) → ((j : ℕ) → e ≤ j → j < e + k → T (extent_ok h t n j (extent_part f1 f3 j))) → T (extents_ok h t f1 f3 n e k)
unfolding extents_ok
→tests h t f1 f3 n e zero f = tt
→tests h t f1 f3 n e (suc k) f =
    both (extent_ok h t n e (extent_part f1 f3 e)) (extents_ok h t f1 f3 n (suc e) k) (f e (le_refl e) (omega arith)) (→tests h t f1 f3 n (suc e) k (λ j u w. f j (omega arith) (omega arith)))

-- the first three extents do not look at the format 3
same_first : (f1 a b : List ℕ) (e : ℕ) → length f1 ≡ 140 → length a ≡ 140 → length b ≡ 140 → e < 3 → extent_part f1 a e ≡ extent_part f1 b e
same_first f1 a b e l m n u = in_format1 f1 a e l m u ∙ sym (in_format1 f1 b e l n u)

-- ---- the table: n slots of bytes

module _ (g : Geometry) (limit : Limits g) (t : List ℕ) (bytes : Bytes t) (len : length t ≡ 140 * slots g) where
  abbrev N : ℕ
  N = slots g

  abbrev rs : List (List ℕ)
  rs = chop N t

  at_slot : (j : ℕ) → j < N → record_at rs j ≡ slot_bytes t j
  at_slot j u = chop_slot N t j u

  slot_long : (j : ℕ) → j < N → length (slot_bytes t j) ≡ 140
  slot_long j u = length_part (140 * j) 140 t (let m = mul-le-mul_left 140 u in omega arith)

  slot_bytes_lem : (j : ℕ) → Bytes (slot_bytes t j)
  slot_bytes_lem j = bytes_part (140 * j) 140 t bytes

  module _ (k : ℕ) (low : 1 ≤ k) (high : k < N) (id : get_or (slot_bytes t k) 44 0 ≡ 0xF1) where
    abbrev f1 : List ℕ
    f1 = slot_bytes t k

    abbrev l : Label
    l = read_label g rs k f1

    abbrev n : ℕ
    n = get_or f1 59 0

    l1 : length f1 ≡ 140
    l1 = slot_long k high

    -- what is known of the slot that is read as its format 3's
    record Third (q : ℕ) : Type 0 where
      read : slot_at g f1 135 ≡ q
      linked : link g (slot_at g f1 135) ≡ part 135 5 f1
      inside : q < N

    from_link : (q : ℕ) → link g q ≡ part 135 5 f1 → q < N → Third q
    from_link q e u =
        let r : slot_at g f1 135 ≡ q = sym (slot_part g f1 135) ∙ slot_read g q (part 135 5 f1) e in
        record { read = r; linked = ap (link g) r ∙ e; inside = u }

    pub slot3_is_lem : l.slot3 ≡ slot_at g f1 135
    unfolding read_label
    slot3_is_lem = refl

    pub label_slot : l.slot ≡ k
    unfolding read_label
    label_slot = refl

    -- the label, from the tests
    good_from : (q : ℕ) → Third q → T (one_ok f1) → ((e : ℕ) → e < 3 → T (extent_ok g.heads (tracks g) n e (extent_part f1 (slot_bytes t q) e)))
        → (3 < n → (1 ≤ q) × T (three_ok (slot_bytes t q)) × ((e : ℕ) → e < 16 → T (extent_ok g.heads (tracks g) n e (extent_part f1 (slot_bytes t q) e)))) → (n ≤ 3 → q ≡ 0)
        → LabelOk g rs l
    good_from q th one firsts many few = label_ok
      where
        r3 : List ℕ
        r3 = record_at rs (slot_at g f1 135)

        r3_is : record_at rs (slot_at g f1 135) ≡ slot_bytes t q
        r3_is = ap (record_at rs) th.read ∙ at_slot q th.inside

        r3_long : length (record_at rs (slot_at g f1 135)) ≡ 140
        r3_long = ap length r3_is ∙ slot_long q th.inside

        r3_bytes : Bytes (record_at rs (slot_at g f1 135))
        r3_bytes = subst Bytes (sym r3_is) (slot_bytes_lem q)

        ok : OneOk f1
        ok = one→ f1 one

        passes : (e : ℕ) → (e < 3) ⊎ ((3 < n) × (e < 16)) → T (extent_ok g.heads (tracks g) n e (extent_part f1 (record_at rs (slot_at g f1 135)) e))
        passes e d = subst (λ (x : List ℕ). T (extent_ok g.heads (tracks g) n e (extent_part f1 x e))) (sym r3_is) (⊎_elim (λ u. firsts e u) (λ u. (many u.0).2 e u.1) d)

        each : (e : ℕ) → e < n → T (extent_ok g.heads (tracks g) n e (extent_part f1 (record_at rs (slot_at g f1 135)) e))
        each e u =
            let m = ok.most in
            elim (dec_le 3 e) [ yes h ↦ passes e (inr (omega arith, omega arith)) | no h ↦ passes e (inl (lt_of_not-le h)) ]

        stand : (e : ℕ) → e < 3 → extent_part f1 (record_at rs (slot_at g f1 135)) e ≡ ten_for g (read_extents g.heads f1 (record_at rs (slot_at g f1 135)) n) e
        stand e u = stands g f1 (record_at rs (slot_at g f1 135)) n l1 r3_long (slot_bytes_lem k) r3_bytes e (omega arith) (passes e (inl u))

        good : GoodLabel g l
        good =
            good_label_lem g rs k f1 l1 low ok (all_good g f1 (record_at rs (slot_at g f1 135)) n l1 r3_long (slot_bytes_lem k) r3_bytes ok.most each)
            (λ u. th.read ∙ few u) (λ u. let x = (many u).0 in let y = th.read in omega arith)

        label_ok : LabelOk g rs l
        label_ok =
            record {
              good = good;
              one = written1 g rs k f1 l1 (slot_bytes_lem k) r3_long id (λ e u w. stand e w) th.linked ∙ sym (ap (record_at rs) label_slot ∙ at_slot k high);
              three = λ p.
                  let p' : 1 ≤ slot_at g f1 135 = subst (λ (x : ℕ). 1 ≤ x) slot3_is_lem p in
                  let u : 3 < n = elim (dec_le n 3) [ yes z ↦ absurd (let a = few z in let b = th.read in omega arith) | no z ↦ lt_of_not-le z ] in
                  written3 g rs k f1 l1 r3_long ok.most (subst ThreeOk (sym r3_is) (three→ (slot_bytes t q) (many u).1))
                  (λ e v w. stands g f1 (record_at rs (slot_at g f1 135)) n l1 r3_long (slot_bytes_lem k) r3_bytes e w (passes e (inr (u, w))))
                  ∙ ap (record_at rs) (sym slot3_is_lem);
            }

    -- ---- passed, so good

    five : length (part 135 5 f1) ≡ 5
    five = length_part 135 5 f1 (let a = l1 in omega arith)

    zero_slot : T (all_are 0 (part 135 5 f1)) → Third 0
    zero_slot z = from_link 0 (none_is g (part 135 5 f1) five z) (let m = limit.least in omega arith)

    abbrev pub Passed : ℕ → Type 0
    Passed q = LabelOk g rs l × (l.slot3 ≡ q) × (q < N)

    few_passed : T (one_ok f1) → n ≤ 3 → T (few_ok g.heads (tracks g) f1 n) → Passed 0
    unfolding few_ok
    few_passed one u p =
        let z = and_l (all_are 0 (part 135 5 f1)) (extents_ok g.heads (tracks g) f1 f1 n 0 3) p in
        let x = and_r (all_are 0 (part 135 5 f1)) (extents_ok g.heads (tracks g) f1 f1 n 0 3) p in
        let th = zero_slot z in
        let s0 = slot_long 0 th.inside in (
          good_from 0 th one
              (λ e v. subst (λ (y : List ℕ). T (extent_ok g.heads (tracks g) n e y)) (same_first f1 f1 (slot_bytes t 0) e l1 l1 s0 v) (tests→ g.heads (tracks g) f1 f1 n 0 3 x e (omega arith) (omega arith)))
              (λ v. absurd (omega arith)) (λ v. refl),
          slot3_is_lem ∙ th.read,
          th.inside,
        )

    many_passed : T (one_ok f1) → 3 < n → (q : ℕ) → third_of g t f1 n ≡ Some q → Passed q
    unfolding third_of
    many_passed one u q e =
        let p : ℕ = named_third g f1 in
        let a = if_some ((leb 1 p && three_ok (slot_bytes t p)) && extents_ok g.heads (tracks g) f1 (slot_bytes t p) n 0 16) p q e in
        let b = subst (λ (y : ℕ). T ((leb 1 y && three_ok (slot_bytes t y)) && extents_ok g.heads (tracks g) f1 (slot_bytes t y) n 0 16)) a.1 a.0 in
        let some = and_l (leb 1 q && three_ok (slot_bytes t q)) (extents_ok g.heads (tracks g) f1 (slot_bytes t q) n 0 16) b in
        let x = and_r (leb 1 q && three_ok (slot_bytes t q)) (extents_ok g.heads (tracks g) f1 (slot_bytes t q) n 0 16) b in
        let pos = leb-true 1 q (is_true (and_l (leb 1 q) (three_ok (slot_bytes t q)) some)) in
        let three = and_r (leb 1 q) (three_ok (slot_bytes t q)) some in
        let nm = slot_named_lem g N (part 135 5 f1) q five (bytes_part 135 5 f1 (slot_bytes_lem k)) pos a.1 in
        let th = from_link q nm.0 nm.1 in
        let each : (e : ℕ) → e < 16 → T (extent_ok g.heads (tracks g) n e (extent_part f1 (slot_bytes t q) e)) = λ e v. tests→ g.heads (tracks g) f1 (slot_bytes t q) n 0 16 x e (omega arith) (omega arith) in
        (good_from q th one (λ e v. each e (omega arith)) (λ v. (pos, three, each)) (λ v. absurd (omega arith)), slot3_is_lem ∙ th.read, th.inside)

    pub form_good : (q : ℕ) → form_of g t k ≡ Some q → Passed q
    unfolding form_of
    form_good q e =
        by (one_ok f1)
        (λ a.
        by (leb n 3)
        (λ b.
        let x = if_some (few_ok g.heads (tracks g) f1 n) 0 q (rw (a, b) at e) in
        subst Passed x.1 (few_passed (true_is a) (leb-true _ _ b) x.0))
        (λ b. many_passed (true_is a) (leb-false _ _ b) q (rw (a, b) at e)))
        (λ a. let y : None ≡ Some q = rw a at e in cc)

    -- ---- good, so passed

    module _ (ok : LabelOk g rs l) where
      es : List Extent
      es = l.extents

      written : f1 ≡ format1 g l
      written = sym (ok.one ∙ ap (record_at rs) label_slot ∙ at_slot k high)

      one_passes : T (one_ok f1)
      one_passes = subst (λ (x : List ℕ). T (one_ok x)) (sym written) (→one (format1 g l) (one_back g l ok.good))

      counted : n ≡ length l.extents
      counted = ap (λ (x : List ℕ). get_or x 59 0) written ∙ count_back g l ok.good

      linked : part 135 5 f1 ≡ link g l.slot3
      linked = ap (part 135 5) written ∙ link1_back g l ok.good

      -- an extent that stands where it is written passes its test
      passes_at : (f3 : List ℕ) (e : ℕ) → extent_part (format1 g l) f3 e ≡ ten_for g l.extents e → T (extent_ok g.heads (tracks g) n e (extent_part f1 f3 e))
      passes_at f3 e s =
          subst (λ (m : ℕ). T (extent_ok g.heads (tracks g) m e (extent_part f1 f3 e))) (sym counted)
          (extent_passes g limit.heads l.extents ok.good.extents e (extent_part f1 f3 e) (ap (λ (x : List ℕ). extent_part x f3 e) written ∙ s))

      few_passes : n ≤ 3 → T (few_ok g.heads (tracks g) f1 n)
      unfolding few_ok
      few_passes u =
          let c = counted in
          let z : part 135 5 f1 ≡ link g 0 = linked ∙ ap (link g) (ok.good.few (omega arith)) in
          both (all_are 0 (part 135 5 f1)) (extents_ok g.heads (tracks g) f1 f1 n 0 3) (subst (λ (x : List ℕ). T (all_are 0 x)) (sym z) (none_passes g))
          (→tests g.heads (tracks g) f1 f1 n 0 3 (λ e v w. passes_at f1 e (stand1_back g l ok.good f1 l1 e v w)))

      many_passes : 3 < n → third_of g t f1 n ≡ Some l.slot3
      unfolding third_of
      many_passes u =
          let c = counted in
          let pos : 1 ≤ l.slot3 = ok.good.many (omega arith) in
          let three : record_at rs l.slot3 ≡ format3 g l = sym (ok.three pos) in
          let inside : l.slot3 < N = third_inside (ap length three ∙ length_3 g l) in
          let at : slot_bytes t l.slot3 ≡ format3 g l = sym (at_slot l.slot3 inside) ∙ three in
          let named : named_third g f1 ≡ l.slot3 = slot_found g N (part 135 5 f1) limit.heads limit.records l.slot3 pos inside (sym linked) in
          let t3 : three_ok (slot_bytes t (named_third g f1)) ≡ true
          = is_true (subst (λ (x : List ℕ). T (three_ok x)) (sym (ap (slot_bytes t) named ∙ at)) (→three (format3 g l) (three_back g l ok.good))) in
          let ex : extents_ok g.heads (tracks g) f1 (slot_bytes t (named_third g f1)) n 0 16 ≡ true
          = is_true (subst (λ (x : List ℕ). T (extents_ok g.heads (tracks g) f1 x n 0 16)) (sym (ap (slot_bytes t) named ∙ at)) (→tests g.heads (tracks g) f1 (format3 g l) n 0 16 (λ e v w. passes_at (format3 g l) e (every e w)))) in
          let some : leb 1 (named_third g f1) ≡ true = le-leb 1 (named_third g f1) (omega arith) in
          rw (some, t3, ex) (ap Some named)
        where
          third_inside : length (record_at rs l.slot3) ≡ 140 → l.slot3 < N
          third_inside e =
              elim (dec_le N l.slot3) [
                | no w ↦ lt_of_not-le w
                | yes w ↦ let m = length_chop N t in let z = ap length (get_or-eq_default rs [] {n = l.slot3} (omega arith)) in absurd (omega arith)
              ]

          every : (e : ℕ) → e < 16 → extent_part (format1 g l) (format3 g l) e ≡ ten_for g l.extents e
          every e w =
              elim (dec_le 3 e) [
                | yes v ↦ stand3_back g l ok.good e v w
                | no v ↦ stand1_back g l ok.good (format3 g l) (length_3 g l) e (omega arith) (lt_of_not-le v)
              ]

    pub form_bad : form_of g t k ≡ None → LabelOk g rs l → ⊥
    unfolding form_of
    form_bad e ok =
        let a : one_ok f1 ≡ true = is_true (one_passes ok) in
        by (leb n 3)
        (λ b.
        let c : few_ok g.heads (tracks g) f1 n ≡ true = is_true (few_passes ok (leb-true _ _ b)) in
        let y : Some 0 ≡ None = rw (a, b, c) at e in
        cc)
        (λ b.
        let y : Some l.slot3 ≡ None = rw (a, b, many_passes ok (leb-false _ _ b)) at e in
        cc)
