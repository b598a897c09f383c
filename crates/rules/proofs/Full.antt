-- VTOC full exactly when free slots and freed ones are fewer than needed (specs/Full). Assumes nothing.
use mathlib.Core.Path.{◌≡◌, refl, sym, ap, ◌∙◌}
use mathlib.Core.Bool.{Bool, true, false, cond}
use mathlib.Core.Option.{Option, none, some}
use mathlib.Core.List.{List, ◌∷◌, ◌++◌, append-nil}
use Prim.Native.Nat.{ℕ, zero, suc, ◌+◌, ◌-◌, ◌≤◌, ◌<◌}
use native.Mathlib.Nat.{le_trans}
use native.Mathlib.Omega.{arith}
use lib.ListN.{length, length-append, length-take}
use lib.Dec.{leb, ltb, eqb}
use borrow.Author.Tests.{leb-true, leb-false, le-leb, lt-leb, ltb-true}
use Rattle.model.specs.Basics.{bit, flat, sum_of}
use Rattle.model.specs.Model.{Extent, Geometry, Label, Run, Volume, fives_for, format0s, free, held, one_slot, overs, runs_of, slots, slots_of, tally, times, total, unused, used}
use Rattle.model.proofs.Lists.{by, sum_take}
use Rattle.model.specs.Predicates.{All}
use Rattle.rules.specs.Calls.{Amount, Reply, Request, allocate_pieces, extend_pieces, good_ttr, granted, joined, longer, new_set, release_set, settled, shorter, tracks_kept_of}
use Rattle.rules.specs.Full.{NoneExactly, RefusedExactly, fives_needed, format1s, format3s, freed, full, members, needed}
use Rattle.rules.specs.Slots.{added, asked_by, asks, changed, found, insert_label, kept3, kept_fives, placed, removed, settle, settle_with, still_used, with_extents, without}
use Rattle.rules.specs.Table.{few_extents}
use Rattle.rules.proofs.FoundSet.{found_good}
use Rattle.rules.proofs.Counted.{slots_in, unused_length, used_length}
use Rattle.rules.proofs.Labels.{without_sum}
use Rattle.rules.proofs.Placed.{kept_le}
use Rattle.rules.proofs.Settle.{free_same, used_tally}
use Rattle.rules.proofs.Valid.{held_times, slots_tally}
use Rattle.rules.specs.Predicates.{GoodLabel, Valid}

-- ---- none is settled exactly when the table has too few slots for all records

-- the records of a table: the format 4, the format 5s needed, the slots of the labels and those asked for
abbrev records : Geometry → List Label → ℕ → ℕ
records g draft asked = 1 + fives_for (length (free g draft)) + slots_in draft + asked

pub settle_none : (g : Geometry) (chain : List ℕ) (draft : List Label) (asked : ℕ) (finish : List ℕ → List Label)
    → ((k : ℕ) → tally k (used draft chain) ≤ 1) → ((k : ℕ) → slots g ≤ k → tally k (used draft chain) ≡ 0)
    → NoneExactly (settle g chain draft asked finish) (ltb (slots g) (records g draft asked))
unfolding settle
settle_none g chain draft asked finish once inside =
    let need : ℕ = fives_for (length (free g draft)) in
    let kept : List ℕ = kept_fives g chain draft in
    let empty : List ℕ = unused (slots g) (still_used g chain draft) in
    let a = unused_length (slots g) (still_used g chain draft) (λ k. less k (once k)) (λ k u. gone k (inside k u)) in
    let b = used_length draft (kept_fives g chain draft) in
    let c = length-take (fives_for (length (free g draft))) chain in
    by (leb (asked + (need - length kept)) (length empty))
    (λ h.
    let u : asked + (need - length kept) ≤ length empty = leb-true _ _ h in (
      λ e. absurd (let f = rw h at e in let z : ◌≡◌ {A = ℕ} 0 1 = cc in omega arith),
      λ e. absurd (let f : slots g < records g draft asked = ltb-true _ _ e in omega arith),
    ))
    (λ h.
    let u : length empty < asked + (need - length kept) = leb-false _ _ h in
    (λ e. le-leb (suc (slots g)) (records g draft asked) (omega arith), λ e. rw h))
  where
    still : (k : ℕ) → tally k (still_used g chain draft) ≤ tally k (used draft chain)
    still k =
        let x = used_tally draft (kept_fives g chain draft) k in
        let y = used_tally draft chain k in
        let s = sum_take (λ x. bit (eqb x k)) (fives_for (length (free g draft))) chain in
        omega arith

    less : (k : ℕ) → tally k (used draft chain) ≤ 1 → tally k (still_used g chain draft) ≤ 1
    less k h = le_trans (still k) h

    gone : (k : ℕ) → tally k (used draft chain) ≡ 0 → tally k (still_used g chain draft) ≡ 0
    gone k h = let x = still k in omega arith

-- ---- how many slots a label has, and asks for

few_many : (n : ℕ) → (leb n 3 ≡ true → bit (ltb 3 n) ≡ 0) × (leb n 3 ≡ false → bit (ltb 3 n) ≡ 1)
few_many n = (λ h. ap bit (lt-leb 4 n (let x : n ≤ 3 = leb-true n 3 h in omega arith)), λ h. ap bit (le-leb 4 n (leb-false n 3 h)))

one_slot_lem : (k : ℕ) → 1 ≤ k → length (one_slot k) ≡ 1
one_slot_lem zero h = absurd (omega arith)
one_slot_lem (suc k) h = refl

-- a label on the volume has a format 1, and a format 3 exactly when it has more than 3 extents
good_slots : (g : Geometry) (l : Label) → GoodLabel g l → length (slots_of l) ≡ format1s (some l) + format3s (some l)
good_slots g l x =
    let a = length-append (one_slot l.slot) (one_slot l.slot3) in
    let b = one_slot_lem l.slot x.slot in
    let c = few_many (length l.extents) in
    by (leb (length l.extents) 3)
    (λ h.
    let d : length (one_slot l.slot3) ≡ 0 = ap (λ (k : ℕ). length (one_slot k)) (x.few (leb-true _ _ h)) in
    omega (arith, c.0 h))
    (λ h. let d = one_slot_lem l.slot3 (x.many (leb-false _ _ h)) in omega (arith, c.1 h))

-- what a label keeps and what it asks for are its records
kept_asked : (few : Bool) (s third : ℕ)
    → length (one_slot s ++ one_slot (cond few 0 third)) + (asks s + cond few 0 (asks (cond few 0 third))) ≡ 1 + cond few 0 1
kept_asked true zero third = refl
kept_asked true (suc s) third = refl
kept_asked false zero zero = refl
kept_asked false zero (suc third) = refl
kept_asked false (suc s) zero = refl
kept_asked false (suc s) (suc third) = refl

changed_slots : (l : Label) → length (slots_of (kept3 l)) + asked_by (kept3 l) ≡ format1s (some l) + format3s (some l)
changed_slots l =
    let a = kept_asked (few_extents l) l.slot l.slot3 in
    let c = few_many (length l.extents) in
    by (few_extents l)
    (λ h. let d = c.0 h in let b = rw h at a in rw h (omega arith))
    (λ h. let d = c.1 h in let b = rw h at a in rw h (omega arith))

-- ---- counted on the volume before the change

-- the volume's labels are those that stay and the one that the call changes, if there is one
pub record Parts (v : Volume) (others : List Label) (before : Option Label) : Type 0 where
  pub sums : (F : Label → ℕ) → sum_of F v.labels ≡ sum_of F (members before) + sum_of F others
  pub good : All (GoodLabel v.geometry) (members before)

before_slots : (g : Geometry) (before : Option Label) → All (GoodLabel g) (members before)
    → slots_in (members before) ≡ format1s before + format3s before
before_slots g none a = refl
before_slots g (some l) a = let x = good_slots g l a.0 in omega arith

-- what goes and what comes: the records before and after
freed_needed : (v : Volume) (others : List Label) (before after : Option Label)
    → freed v others before after + (format1s after + format3s after + fives_needed v others before after)
    ≡ needed v others before after + (format1s before + format3s before + length v.chain)
freed_needed v others none none = omega arith
freed_needed v others none (some m) = omega arith
freed_needed v others (some l) none = omega arith
freed_needed v others (some l) (some m) = omega arith

-- the numbers alone: n slots, e of them empty; the change's records are b and five₀ before it, a and five₁ after it
lacking : (n e others b five₀ a five₁ draft asked five f m : ℕ) → e + (1 + (five₀ + (b + others))) ≡ n → draft + asked ≡ a + others
    → five ≡ five₁ → f + (a + five₁) ≡ m + (b + five₀)
    → (n < 1 + five + draft + asked → e + f < m) × (e + f < m → n < 1 + five + draft + asked)
lacking n e others b five₀ a five₁ draft asked five f m p q r s = (λ h. omega arith, λ h. omega arith)

module _ (v : Volume) (h : Valid v) (others : List Label) (before after : Option Label) (parts : Parts v others before) where
  abbrev g : Geometry
  g = v.geometry

  -- every slot of the volume before the change
  all_slots : length (format0s v) + (1 + (length v.chain + (format1s before + format3s before + slots_in others))) ≡ slots g
  unfolding format0s
  all_slots =
      let b = unused_length (slots g) (used v.labels v.chain) h.slot_once h.slot_in in
      let c = used_length v.labels v.chain in
      let d = parts.sums (λ l. length (slots_of l)) in
      let e = before_slots g before parts.good in
      omega arith

  -- a draft with the slots that stay: the tracks are held as they will be, each record has its slot or asks for one
  settle_full : (draft : List Label) (asked : ℕ) (finish : List ℕ → List Label)
      → ((t : ℕ) → times t (held g draft) ≡ times t (held g (members after ++ others)))
      → ((k : ℕ) → tally k (flat slots_of draft) ≤ tally k (flat slots_of v.labels))
      → slots_in draft + asked ≡ format1s after + format3s after + slots_in others
      → NoneExactly (settle g v.chain draft asked finish) (full v others before after)
  settle_full draft asked finish tracks stay count =
      let five : fives_for (length (free g draft)) ≡ fives_needed v others before after
      = ap (λ (f : List Run). fives_for (length f)) (free_same g draft (members after ++ others) tracks) in
      let counted = lacking (slots g) (length (format0s v)) (slots_in others) (format1s before + format3s before) (length v.chain)
      (format1s after + format3s after) (fives_needed v others before after) (slots_in draft) asked (fives_for (length (free g draft)))
      (freed v others before after) (needed v others before after) all_slots count five (freed_needed v others before after) in
      let exact = settle_none g v.chain draft asked finish once inside in (
        λ q. le-leb _ (needed v others before after) (counted.0 (ltb-true _ _ (exact.0 q))),
        λ q. exact.1 (le-leb _ (records g draft asked) (counted.1 (ltb-true _ _ q))),
      )
    where
      once : (k : ℕ) → tally k (used draft v.chain) ≤ 1
      once k =
          let x = used_tally draft v.chain k in
          let y = used_tally v.labels v.chain k in
          let z = h.slot_once k in
          let w = stay k in
          omega arith

      inside : (k : ℕ) → slots g ≤ k → tally k (used draft v.chain) ≡ 0
      inside k u =
          let x = used_tally draft v.chain k in
          let y = used_tally v.labels v.chain k in
          let z = h.slot_in k u in
          let w = stay k in
          omega arith

-- VTOC FULL EXACTLY WHEN FREE SLOTS AND FREED ONES ARE FEWER THAN NEEDED: a label that has the slots of the one that it
-- replaces, or none
pub full_exactly : (v : Volume) → Valid v → (others : List Label) (before : Option Label) → Parts v others before
    → (changed : Label) → slots_of changed ≡ flat slots_of (members before)
    → NoneExactly (settle_with v others changed) (full v others before (some changed))
full_exactly v h others before parts changed same =
    settle_full v h others before (some changed) parts (kept3 changed ∷ others) (asked_by (kept3 changed))
    (λ ks. insert_label (placed ks (kept3 changed)) others)
    (λ t.
    let a = held_times v.geometry (kept3 changed ∷ others) t in
    let b = held_times v.geometry (changed ∷ others) t in
    omega arith)
    (λ k.
    let a = slots_tally (kept3 changed ∷ others) k in
    let b = slots_tally v.labels k in
    let c = parts.sums (λ l. tally k (slots_of l)) in
    let d = kept_le (few_extents changed) changed.slot changed.slot3 k in
    let e : tally k (slots_of changed) ≡ tally k (flat slots_of (members before)) = ap (tally k) same in
    let f = slots_tally (members before) k in
    omega arith)
    (let a = changed_slots changed in omega arith)

-- allocate: every label stays
pub allocate_full : (v : Volume) → Valid v → (new : Label) → new.slot ≡ 0 → new.slot3 ≡ 0
    → NoneExactly (added v new) (full v v.labels none (some new))
allocate_full v h new a b =
    full_exactly v h v.labels none (record { sums = λ F. omega arith; good = tt }) new
    (ap (λ (k : ℕ). one_slot k ++ one_slot new.slot3) a ∙ ap one_slot b)

module _ (v : Volume) (h : Valid v) (n : List ℕ) (l : Label) (f : found v n ≡ some l) where
  abbrev rest : List Label
  rest = without n v.labels

  found_parts : Parts v rest (some l)
  found_parts =
      record {
        sums = λ F. let a = without_sum F n v.labels l h.differ f in omega arith;
        good = (found_good v h n l f, tt);
      }

  -- extend and release: the label found, with other extents
  pub changed_full : (es : List Extent) (ttr : ℕ)
      → NoneExactly (changed v n (with_extents es ttr l)) (full v rest (some l) (some (with_extents es ttr l)))
  changed_full es ttr = full_exactly v h rest (some l) found_parts (with_extents es ttr l) (sym (append-nil (slots_of l)))

  -- scratch: the label found goes. It never is full: ScratchFits
  pub scratch_full : NoneExactly (removed v n) (full v rest (some l) none)
  scratch_full =
      settle_full v h rest (some l) none found_parts rest 0 (λ ks. rest) (λ t. refl)
      (λ k.
      let a = slots_tally rest k in
      let b = slots_tally v.labels k in
      let c = without_sum (λ m. tally k (slots_of m)) n v.labels l h.differ f in
      omega arith)
      (omega arith)

-- ---- IN THE WORDS OF THE CALLS: where the tests before have passed, the answer is 11 exactly then

settled_exactly : (r : Reply) (o : Option Volume) (b : Bool) → NoneExactly o b → RefusedExactly (settled r o) 11 b
settled_exactly r none b x = (λ e. x.0 refl, λ e. refl)
settled_exactly r (some w) b x = (
  λ e. absurd (let z : ◌≡◌ {A = ℕ} 0 1 = cc in omega arith),
  λ e. absurd (let q = x.1 e in let z : ◌≡◌ {A = ℕ} 0 1 = cc in omega arith),
)

pub allocate_11 : (v : Volume) → Valid v → (q : Request) (a : Amount) (es : List Extent)
    → RefusedExactly (allocate_pieces v q a es) 11 (full v v.labels none (some (new_set q a es)))
allocate_11 v h q a es = settled_exactly (granted (overs es)) (added v (new_set q a es)) _ (allocate_full v h (new_set q a es) refl refl)

module _ (v : Volume) (h : Valid v) (n : List ℕ) (l : Label) (f : found v n ≡ some l) where
  abbrev others : List Label
  others = without n v.labels

  -- the extents after joining are counted
  pub extend_11 : (ps : List Extent) → leb (length (joined l.extents ps)) 16 ≡ true
      → RefusedExactly (extend_pieces v n l ps) 11 (full v others (some l) (some (longer ps l)))
  extend_11 ps e =
      rw e (settled_exactly (granted (overs ps)) (changed v n (longer ps l)) _ (changed_full v h n l f (joined l.extents ps) l.ttr))

  pub release_11 : (ttr : ℕ) → good_ttr ttr (total (runs_of l)) ≡ true
      → RefusedExactly (release_set v n ttr l) 11 (full v others (some l) (some (shorter (tracks_kept_of v.geometry ttr l) ttr l)))
  release_11 ttr e =
      let k : ℕ = tracks_kept_of v.geometry ttr l in
      rw e
      (settled_exactly _ (changed v n (shorter k ttr l)) _ (changed_full v h n l f (shorter k ttr l).extents ttr))
