-- A table is taken exactly when it shows what `Sound` says of the volume read from it. Assumes nothing.
use mathlib.Core.Path.{◌≡◌, refl, ap, sym, ◌∙◌, ap₂, subst}
use mathlib.Core.Option.{some, none, Option}
use mathlib.Core.List.{List, [], ◌∷◌, ◌++◌, map}
use Prim.Native.Nat.{ℕ, ◌/◌, ◌≤◌, zero, suc, ◌+◌, ◌-◌, ◌<◌, ◌*◌, ◌%◌}
use native.Mathlib.Omega.{arith}
use lib.ListN.{length, drop_of_length-le, drop, take-append-drop, get_or, take, length-drop}
use lib.Dec.{eqb, T}
use native.Mathlib.Nat.{le_refl}
use borrow.Author.Tests.{eq-eqb, eqb-true, ne_eqb}
use lib.Seq.{drop-cons}
use Rattle.model.specs.Basics.{bit, find, sum_of, up_from, zeros}
use Rattle.model.specs.Model.{Geometry, Label, Volume, format0s, free, one_slot, slots, slots_of, tally, used}
use Rattle.model.proofs.Lists.{All_both, All_map, by, find_All, sum_append}
use Rattle.model.specs.Predicates.{All}
use Rattle.rules.specs.Layout.{Five, encode, fives, format1, format3, format4, highest, later_slot, or_five, or_format1, or_format3, records, whole}
use Rattle.rules.specs.Reading.{chop, read, read_geometry, read_label, read_labels, read_records, record_at}
use Rattle.rules.specs.Table.{taken}
use Rattle.rules.proofs.Keyed.{count_none, find_each, find_pass, self_count}
use Rattle.rules.specs.Predicates.{Ascending, GoodLabel, Valid}
use Rattle.rules.proofs.Settle.{used_tally}
use Rattle.rules.proofs.TableBack.{InFive, chop_encode, fives_count, fives_in, in_table, label_record, labels_in, length_records, lengths_all, no_five, one_count, record_at_lem, records_shape, shares, slot_sums, thirds}
use Rattle.rules.proofs.Taken.{is_taken_lem, taken_is}
use Rattle.rules.proofs.Valid.{limits→, slots_tally, →limits}
use Rattle.rules.specs.Sound.{FiveOk, LabelOk, Sound}

-- the records of a table
abbrev pub records_of : List ℕ → List (List ℕ)
records_of t = chop (length t / 140) t

-- ---- taken, so sound

module _ (v : Volume) (h : Valid v) where
  abbrev g : Geometry
  g = v.geometry

  abbrev ls : List Label
  ls = v.labels

  abbrev fs : List Five
  fs = fives v.chain (free g ls)

  firsts : All (λ l. later_slot g ls fs l.slot ≡ format1 g l) ls
  firsts =
      All_map (λ l. GoodLabel g l × ((1 ≤ sum_of (λ m. bit (eqb m.slot l.slot)) ls) × (sum_of (λ m. bit (eqb m.slot l.slot)) ls ≤ 1 → find (λ m. eqb m.slot l.slot) ls ≡ some l)))
      (λ l. later_slot g ls fs l.slot ≡ format1 g l)
      (λ l x. let s = shares v h l.slot x.0.slot in label_record v h l.slot l x.0.slot (x.1.1 (omega arith)))
      ls
      (All_both (GoodLabel g) (λ l. (1 ≤ sum_of (λ m. bit (eqb m.slot l.slot)) ls) × (sum_of (λ m. bit (eqb m.slot l.slot)) ls ≤ 1 → find (λ m. eqb m.slot l.slot) ls ≡ some l)) ls h.good
      (All_both (λ l. 1 ≤ sum_of (λ m. bit (eqb m.slot l.slot)) ls) (λ l. sum_of (λ m. bit (eqb m.slot l.slot)) ls ≤ 1 → find (λ m. eqb m.slot l.slot) ls ≡ some l) ls
      (self_count (λ (m : Label). m.slot) ls) (find_each (λ (m : Label). m.slot) ls)))

  third_inside : (l : Label) → 1 ≤ sum_of (λ m. bit (eqb m.slot3 l.slot3)) ls → 1 ≤ l.slot3 → l.slot3 < slots g
  third_inside l x p =
      let k = l.slot3 in
      in_table v h k (let a = third_le k p ls in omega arith)
    where
      third_le : (k : ℕ) → 1 ≤ k → (xs : List Label) → sum_of (λ m. bit (eqb m.slot3 k)) xs ≤ sum_of (λ m. tally k (slots_of m)) xs
      third_le k p [] = le_refl 0
      third_le k p (x ∷ xs) =
          let i = third_le k p xs in
          let b = sum_append (λ y. bit (eqb y k)) (one_slot x.slot) (one_slot x.slot3) in
          let c = one_count v h k x.slot3 p in
          omega arith

  labels_ok : All (LabelOk g (records v)) ls
  labels_ok =
      All_map (λ l. (GoodLabel g l × (later_slot g ls fs l.slot ≡ format1 g l)) × (((1 ≤ l.slot) × (l.slot < 1 + (slots g - 1))) × (((1 ≤ l.slot3) → later_slot g ls fs l.slot3 ≡ format3 g l) × (1 ≤ sum_of (λ m. bit (eqb m.slot3 l.slot3)) ls))))
      (LabelOk g (records v))
      (λ l x.
      record {
        good = x.0.0;
        one = sym (record_at_lem v h l.slot x.1.0.0 (omega (arith, x.1.0.1)) ∙ x.0.1);
        three = λ p. sym (record_at_lem v h l.slot3 p (third_inside l x.1.1.1 p) ∙ x.1.1.0 p);
      })
      ls
      (All_both (λ l. GoodLabel g l × (later_slot g ls fs l.slot ≡ format1 g l)) (λ l. ((1 ≤ l.slot) × (l.slot < 1 + (slots g - 1))) × (((1 ≤ l.slot3) → later_slot g ls fs l.slot3 ≡ format3 g l) × (1 ≤ sum_of (λ m. bit (eqb m.slot3 l.slot3)) ls))) ls
      (All_both (GoodLabel g) (λ l. later_slot g ls fs l.slot ≡ format1 g l) ls h.good firsts)
      (All_both (λ l. (1 ≤ l.slot) × (l.slot < 1 + (slots g - 1))) (λ l. ((1 ≤ l.slot3) → later_slot g ls fs l.slot3 ≡ format3 g l) × (1 ≤ sum_of (λ m. bit (eqb m.slot3 l.slot3)) ls)) ls
      (labels_in v h)
      (All_both (λ l. (1 ≤ l.slot3) → later_slot g ls fs l.slot3 ≡ format3 g l) (λ l. 1 ≤ sum_of (λ m. bit (eqb m.slot3 l.slot3)) ls) ls (thirds v h) (self_count (λ (m : Label). m.slot3) ls))))

  -- a slot that nothing uses
  unused_zero : (k : ℕ) → k < slots g → tally k (used ls v.chain) ≡ 0 → record_at (records v) k ≡ zeros 140
  unused_zero zero u z = let a = used_tally ls v.chain 0 in let b = ap bit (eq-eqb 0 0 refl) in absurd (omega arith)
  unused_zero (suc j) u z =
      let k = suc j in
      let a = used_tally ls v.chain k in
      let b = slots_tally ls k in
      let c = slot_sums v h k (omega arith) in
      record_at_lem v h k (omega arith) u
      ∙ rw (no_five v h k (omega arith), count_none (λ (m : Label). m.slot) k ls (omega arith), count_none (λ (m : Label). m.slot3) k ls (omega arith))

  pub is_sound : Sound (records v) v
  unfolding records format0s
  is_sound =
      record {
        limits = limits→ g h.limit;
        many = length_records v h;
        long = lengths_all v h;
        labels = labels_ok;
        differ = h.differ;
        once = h.once;
        head = h.head;
        members = h.long;
        fives = All_map (InFive v h) (FiveOk g (records v)) (λ c x. sym x) fs (fives_in v h);
        slot_once = h.slot_once;
        slot_in = h.slot_in;
        rest = unused_zero;
        four = refl;
      }

-- ---- sound, so taken

module _ (g : Geometry) (rs : List (List ℕ)) (ls : List Label) (fs : List Five) (five : All (FiveOk g rs) fs) (label : All (LabelOk g rs) ls) where
  -- whatever is found for a slot is what stands there; where nothing is found there must be zeros
  slot_right : (k : ℕ) → 1 ≤ k
      → (find (λ c. eqb c.slot k) fs ≡ none → find (λ l. eqb l.slot k) ls ≡ none → find (λ l. eqb l.slot3 k) ls ≡ none → record_at rs k ≡ zeros 140)
      → later_slot g ls fs k ≡ record_at rs k
  slot_right k pos z = go (find (λ c. eqb c.slot k) fs) (find (λ l. eqb l.slot k) ls) (find (λ l. eqb l.slot3 k) ls) refl refl refl
    where
      go : (a : Option Five) (b c : Option Label) → find (λ c. eqb c.slot k) fs ≡ a → find (λ l. eqb l.slot k) ls ≡ b → find (λ l. eqb l.slot3 k) ls ≡ c
          → or_five g a (or_format1 g b (or_format3 g c)) ≡ record_at rs k
      go (some x) b c p q r =
          let e : x.slot ≡ k = eqb-true _ _ (find_pass (λ c. eqb c.slot k) fs x p) in
          find_All (FiveOk g rs) (λ c. eqb c.slot k) fs x five p ∙ ap (record_at rs) e
      go none (some l) c p q r =
          let e : l.slot ≡ k = eqb-true _ _ (find_pass (λ l. eqb l.slot k) ls l q) in
          (find_All (LabelOk g rs) (λ l. eqb l.slot k) ls l label q).one ∙ ap (record_at rs) e
      go none none (some l) p q r =
          let e : l.slot3 ≡ k = eqb-true _ _ (find_pass (λ l. eqb l.slot3 k) ls l r) in
          (find_All (LabelOk g rs) (λ l. eqb l.slot3 k) ls l label r).three (omega arith) ∙ ap (record_at rs) e
      go none none none p q r = sym (z p q r)

rows : (rs : List (List ℕ)) (F : ℕ → List ℕ) (n a : ℕ) → a + n ≡ length rs → ((k : ℕ) → a ≤ k → k < a + n → F k ≡ get_or rs k []) → map F (up_from a n) ≡ drop a rs
rows rs F zero a e h = sym (drop_of_length-le rs {i = a} (omega arith))
rows rs F (suc n) a e h =
    ap₂ (λ (x : List ℕ) (xs : List (List ℕ)). x ∷ xs) (h a (omega arith) (omega arith)) (rows rs F n (suc a) (omega arith) (λ k u w. h k (omega arith) (omega arith)))
    ∙ sym (drop-cons rs a [] (omega arith))

pub whole_chop : (n : ℕ) (t : List ℕ) → length t ≡ 140 * n → whole (chop n t) ≡ t
whole_chop zero [] e = refl
whole_chop zero (x ∷ t) e = absurd (omega arith)
whole_chop (suc n) t e =
    let l : length (drop 140 t) ≡ 140 * n = simp length-drop (omega arith) in
    ap (λ (x : List ℕ). take 140 t ++ x) (whole_chop n (drop 140 t) l) ∙ take-append-drop 140 t

-- the labels that are read have ascending slots
read_slot : (g : Geometry) (rs : List (List ℕ)) (k : ℕ) (r : List ℕ) → (read_label g rs k r).slot ≡ k
unfolding read_label
read_slot g rs k r = refl

reads_from : (g : Geometry) (rs : List (List ℕ)) (k : ℕ) (more : List (List ℕ)) → All (λ l. k ≤ l.slot) (read_labels g rs k more)
reads_from g rs k [] = tt
reads_from g rs k (r ∷ more) =
    let i = All_map (λ l. suc k ≤ l.slot) (λ l. k ≤ l.slot) (λ l x. omega arith) (read_labels g rs (suc k) more) (reads_from g rs (suc k) more) in
    by (eqb (get_or r 44 0) 0xF1) (λ h. rw h (slot_of, i)) (λ h. rw h i)
  where
    slot_of : k ≤ (read_label g rs k r).slot
    slot_of = rw (read_slot g rs k r) (le_refl k)

reads_ascend : (g : Geometry) (rs : List (List ℕ)) (k : ℕ) (more : List (List ℕ)) → Ascending (read_labels g rs k more)
reads_ascend g rs k [] = tt
reads_ascend g rs k (r ∷ more) =
    by (eqb (get_or r 44 0) 0xF1)
    (λ h. rw h (All_map (λ l. suc k ≤ l.slot) (λ l. (read_label g rs k r).slot < l.slot) (λ l x. rw (read_slot g rs k r) x) (read_labels g rs (suc k) more) (reads_from g rs (suc k) more), reads_ascend g rs (suc k) more))
    (λ h. rw h (reads_ascend g rs (suc k) more))

read_ascending : (t : List ℕ) → Ascending (read t).labels
unfolding read read_records
read_ascending t = reads_ascend (read_geometry (record_at (records_of t) 0)) (records_of t) 0 (records_of t)

sound_valid : (t : List ℕ) → Sound (records_of t) (read t) → Valid (read t)
sound_valid t s =
    record {
      limit = →limits (read t).geometry s.limits;
      head = s.head;
      long = s.members;
      slot_once = s.slot_once;
      slot_in = s.slot_in;
      ascending = read_ascending t;
      good = All_map (LabelOk (read t).geometry (records_of t)) (GoodLabel (read t).geometry) (λ l x. x.good) (read t).labels s.labels;
      differ = s.differ;
      once = s.once;
    }

four_is : (rs : List (List ℕ)) (v : Volume) → Sound rs v → format4 v.geometry (highest v.labels) (length (format0s v)) ≡ record_at rs 0
unfolding format0s
four_is rs v s = s.four

encode_records : (v : Volume) → encode v ≡ whole (records v)
unfolding encode
encode_records v = refl

-- a key that is not found is not there
none_count : {A : Type 0} (key : A → ℕ) (k : ℕ) (xs : List A) → find (λ x. eqb (key x) k) xs ≡ none → sum_of (λ x. bit (eqb (key x) k)) xs ≡ 0
none_count key k [] e = refl
none_count key k (x ∷ xs) e =
    by (eqb (key x) k) (λ h. absurd (let q = rw h at e in let z : ◌≡◌ {A = ℕ} 0 1 = cc in omega arith))
    (λ h. let i = none_count key k xs (rw h at e) in let b = ap bit h in omega arith)

sound_records : (rs : List (List ℕ)) (v : Volume) → Valid v → Sound rs v → records v ≡ rs
sound_records rs v h s =
    let n = s.limits.least in
    let m = s.many in
    let F = later_slot v.geometry v.labels (fives v.chain (free v.geometry v.labels)) in
    records_shape v h
    ∙ ap₂ (λ (x : List ℕ) (xs : List (List ℕ)). x ∷ xs) four (rows rs F (slots v.geometry - 1) 1 (omega arith) (λ k u w. later k u (omega arith)))
    ∙ sym (drop-cons rs 0 [] (omega arith))
  where
    four : format4 v.geometry (highest v.labels) (length (format0s v)) ≡ record_at rs 0
    four = four_is rs v s

    later : (k : ℕ) → 1 ≤ k → k < slots v.geometry → later_slot v.geometry v.labels (fives v.chain (free v.geometry v.labels)) k ≡ get_or rs k []
    later k p u =
        slot_right v.geometry rs v.labels (fives v.chain (free v.geometry v.labels)) s.fives s.labels k p
        (λ a b c.
        s.rest k u
        (let x = used_tally v.labels v.chain k in
        let y = slots_tally v.labels k in
        let z = slot_sums v h k p in
        let i = fives_count v.chain (free v.geometry v.labels) k in
        let e = none_count (λ (c : Five). c.slot) k (fives v.chain (free v.geometry v.labels)) a in
        let f = none_count (λ (m : Label). m.slot) k v.labels b in
        let w = none_count (λ (m : Label). m.slot3) k v.labels c in
        let o = ap bit (ne_eqb 0 k (omega arith)) in
        omega arith))

pub sound_taken : (t : List ℕ) → length t % 140 ≡ 0 → Sound (records_of t) (read t) → T (taken t)
sound_taken t m s =
    let h = sound_valid t s in
    let n : length t ≡ 140 * (length t / 140) = omega arith in
    let e : encode (read t) ≡ t = encode_records (read t) ∙ ap whole (sound_records (records_of t) (read t) h s) ∙ whole_chop (length t / 140) t n in
    subst (λ (x : List ℕ). T (taken x)) e (is_taken_lem (read t) h)

pub taken_sound : (t : List ℕ) → T (taken t) → Sound (records_of t) (read t)
taken_sound t x =
    let p = taken_is t x in
    let e : records_of t ≡ records (read t) = ap records_of (sym p.1) ∙ chop_encode (read t) p.0 in
    subst (λ (rs : List (List ℕ)). Sound rs (read t)) (sym e) (is_sound (read t) p.0)
