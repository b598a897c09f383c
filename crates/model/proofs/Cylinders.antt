-- How many tracks of a data set stay after a release: extent by extent, as the code goes, and in the paper's words. Assumes nothing.
use mathlib.Core.Path.{◌≡◌, refl, sym, ap, ap₂, ◌∙◌, subst}
use mathlib.Core.Bool.{Bool, true, false, cond}
use mathlib.Core.List.{List, [], ◌∷◌, ◌++◌}
use Prim.Native.Nat.{ℕ, zero, suc, ◌+◌, ◌-◌, ◌*◌, ◌/◌, ◌%◌, ◌≤◌, ◌<◌, min}
use native.Mathlib.Nat.{mod-lt, mod-add-div', mul-mod_left, suc-mul, zero-add}
use native.Mathlib.Numerals.{add-one}
use native.Mathlib.Omega.{arith}
use borrow.Author.Tests.{eq-eqb, ne_eqb, leb-true, leb-false, eqb-true, eqb-false}
use lib.Arith.{digits_div, digits_mod}
use lib.Dec.{eqb, eqb→eq, leb}
use lib.ListN.{length, get_or, drop, length-append, length-drop}
use lib.Seq.{drop-cons, get_or-drop}
use Rattle.model.specs.Basics.{up_from}
use Rattle.model.specs.Model.{Run, total}
use Rattle.model.specs.Predicates.{StaysOf, kept_from, room}
use Rattle.model.specs.Tracks.{follows, goes_on, tracks_kept, tracks_of}
use Rattle.model.proofs.Lists.{and_l, and_r, by, clash, length_up_from, true_is}

pub tracks_length : (rs : List Run) → length (tracks_of rs) ≡ total rs
tracks_length [] = refl
tracks_length (r ∷ rs) =
    let i = tracks_length rs in
    let a = length-append (up_from r.start r.count) (tracks_of rs) in
    let b = length_up_from r.start r.count in
    omega arith

-- ---- bounds

more_or_none : (b : Bool) (m n : ℕ) → m ≤ n → cond b (suc m) 0 ≤ suc n
more_or_none true m n u = omega arith
more_or_none false m n u = omega arith

goes_most : (h t : ℕ) (ts : List ℕ) → goes_on h t ts ≤ length ts
goes_most h t [] = omega arith
goes_most h t (s ∷ ts) = more_or_none (follows h t s) (goes_on h s ts) (length ts) (goes_most h s ts)

kept_most : (h k t : ℕ) (ts : List ℕ) → kept_from h k t ts ≤ length ts
kept_most h k t [] = omega arith
kept_most h zero t (s ∷ ts) = goes_most h t (s ∷ ts)
kept_most h (suc k) t (s ∷ ts) = let i = kept_most h k s ts in omega arith

module _ (h : ℕ) (pos : 1 ≤ h) where
  -- ---- one track further

  split : (s : ℕ) → s / h * h + s % h ≡ s
  split s = let e = mod-add-div' s h in omega arith

  -- in the same cylinder
  step_in : (s : ℕ) → suc (s % h) < h → (suc s % h ≡ suc (s % h)) × (suc s / h ≡ s / h)
  step_in s u =
      let e : s / h * h + suc (s % h) ≡ suc s = let x = split s in omega arith in
      (sym (ap (λ (y : ℕ). y % h) e) ∙ digits_mod (s / h) u, sym (ap (λ (y : ℕ). y / h) e) ∙ digits_div (s / h) u)

  -- in the next one
  step_out : (s : ℕ) → h ≤ suc (s % h) → (suc s % h ≡ 0) × (suc s / h ≡ suc (s / h))
  step_out s u =
      let l : s % h < h = mod-lt s pos in
      let m = suc-mul (s / h) h in
      let e : suc (s / h) * h + 0 ≡ suc s = let x = split s in omega arith in
      (sym (ap (λ (y : ℕ). y % h) e) ∙ digits_mod (suc (s / h)) pos, sym (ap (λ (y : ℕ). y / h) e) ∙ digits_div (suc (s / h)) pos)

  -- ---- room in the cylinder

  pub room_none : (s : ℕ) → s % h ≡ 0 → room h s ≡ 0
  unfolding room
  room_none s e = rw e

  pub room_some : (s : ℕ) → (s % h ≡ 0 → ⊥) → room h s ≡ h - s % h
  unfolding room
  room_some s n = go (s % h) refl
    where
      go : (o : ℕ) → s % h ≡ o → room h s ≡ h - s % h
      go zero e = absurd (n e)
      go (suc o) e = rw e

  room_step : (s : ℕ) → (s % h ≡ 0 → ⊥) → room h s ≡ suc (room h (suc s))
  room_step s n =
      let l : s % h < h = mod-lt s pos in
      let a = room_some s n in
      by (leb h (suc (s % h)))
      (λ u. let v : h ≤ suc (s % h) = leb-true _ _ u in let b = room_none (suc s) (step_out s v).0 in omega arith)
      (λ u.
      let v : suc (s % h) < h = leb-false _ _ u in
      let x = (step_in s v).0 in
      let b = room_some (suc s) (λ z. absurd (omega arith)) in
      omega arith)

  -- behind it a cylinder begins
  room_ends : (s : ℕ) → (s + room h s) % h ≡ 0
  room_ends s =
      by (eqb (s % h) 0)
      (λ e.
      let z : s % h ≡ 0 = eqb-true _ _ e in
      let q : s + room h s ≡ s = let r = room_none s z in omega arith in
      ap (λ (y : ℕ). y % h) q ∙ z)
      (λ e.
      let l : s % h < h = mod-lt s pos in
      let m = suc-mul (s / h) h in
      let q : s + room h s ≡ suc (s / h) * h = let r = room_some s (eqb-false _ _ e) in let x = split s in omega arith in
      ap (λ (y : ℕ). y % h) q ∙ mul-mod_left (suc (s / h)) h)

  -- ---- a run that goes on from track t

  goes_step : (t : ℕ) (ts : List ℕ) → (suc t % h ≡ 0 → ⊥) → goes_on h t (suc t ∷ ts) ≡ suc (goes_on h (suc t) ts)
  goes_step t ts n =
      by (leb h (suc (t % h)))
      (λ u. absurd (n (step_out t (leb-true _ _ u)).0))
      (λ u. rw (eq-eqb (suc t) (suc t) refl, eq-eqb (suc t / h) (t / h) (step_in t (leb-false _ _ u)).1))

  goes_stop : (t : ℕ) (ts : List ℕ) → suc t % h ≡ 0 → goes_on h t (suc t ∷ ts) ≡ 0
  goes_stop t ts z =
      by (leb h (suc (t % h)))
      (λ u. let q = (step_out t (leb-true _ _ u)).1 in rw (eq-eqb (suc t) (suc t) refl, ne_eqb (suc t / h) (t / h) (λ e. absurd (omega arith))))
      (λ u. let x = (step_in t (leb-false _ _ u)).0 in absurd (omega arith))

  goes_away : (t s : ℕ) (ts : List ℕ) → (s ≡ suc t → ⊥) → goes_on h t (s ∷ ts) ≡ 0
  goes_away t s ts n = rw (ne_eqb s (suc t) n)

  -- all j tracks of it are in the cylinder
  goes_all : (j t : ℕ) (rest : List ℕ) → j ≤ room h (suc t) → goes_on h t (up_from (suc t) j ++ rest) ≡ j + goes_on h (t + j) rest
  goes_all zero t rest u = let e : t ≡ t + 0 = omega arith in ap (λ (x : ℕ). goes_on h x rest) e ∙ sym (zero-add (goes_on h (t + 0) rest))
  goes_all (suc j) t rest u =
      let n : suc t % h ≡ 0 → ⊥ = λ z. absurd (let r = room_none (suc t) z in omega arith) in
      let e : suc t + j ≡ t + suc j = omega arith in
      let i = goes_all j (suc t) rest (let r = room_step (suc t) n in omega arith) in
      let g = ap (λ (x : ℕ). goes_on h x rest) e in
      goes_step t (up_from (suc (suc t)) j ++ rest) n ∙ omega arith

  -- or the cylinder ends inside it
  goes_part : (j t : ℕ) (rest : List ℕ) → room h (suc t) < j → goes_on h t (up_from (suc t) j ++ rest) ≡ room h (suc t)
  goes_part zero t rest u = absurd (omega arith)
  goes_part (suc j) t rest u =
      let i = goes_part j (suc t) rest in
      by (eqb (suc t % h) 0)
      (λ e. let z : suc t % h ≡ 0 = eqb-true _ _ e in goes_stop t (up_from (suc (suc t)) j ++ rest) z ∙ sym (room_none (suc t) z))
      (λ e.
      let n : suc t % h ≡ 0 → ⊥ = eqb-false _ _ e in
      let r = room_step (suc t) n in
      goes_step t (up_from (suc (suc t)) j ++ rest) n ∙ ap suc (i (omega arith)) ∙ sym r)

  -- ---- the first k of a run

  from_none : (t : ℕ) (ts : List ℕ) → kept_from h 0 t ts ≡ goes_on h t ts
  from_none t [] = refl
  from_none t (s ∷ ts) = refl

  same_from : (k k' t t' s s' c c' : ℕ) (rest : List ℕ) → k ≡ k' → t ≡ t' → s ≡ s' → c ≡ c'
      → kept_from h k t (up_from s c ++ rest) ≡ kept_from h k' t' (up_from s' c' ++ rest)
  same_from k k' t t' s s' c c' rest o p q r = λ i. kept_from h (o i) (p i) (up_from (q i) (r i) ++ rest)

  -- the last track of those; t where they are none
  abbrev last_of : (t s k : ℕ) → ℕ
  last_of t s zero = t
  last_of t s (suc k) = s + k

  last_step : (s k : ℕ) → last_of s (suc s) k ≡ s + k
  last_step s zero = omega arith
  last_step s (suc k) = omega arith

  first : (k d c t s : ℕ) (rest : List ℕ) → k ≤ c → kept_from h (k + d) t (up_from s c ++ rest) ≡ k + kept_from h d (last_of t s k) (up_from (s + k) (c - k) ++ rest)
  first zero d c t s rest u =
      same_from (0 + d) d t t s (s + 0) c (c - 0) rest (omega arith) refl (omega arith) (omega arith)
      ∙ sym (zero-add (kept_from h d t (up_from (s + 0) (c - 0) ++ rest)))
  first (suc k) d zero t s rest u = absurd (omega arith)
  first (suc k) d (suc c) t s rest u =
      let i = first k d c s (suc s) rest (omega arith) in
      let e = same_from d d (last_of s (suc s) k) (s + k) (suc s + k) (s + suc k) (c - k) (suc c - suc k) rest refl (last_step s k) (omega arith) (omega arith) in
      same_from (suc k + d) (suc (k + d)) t t s s (suc c) (suc c) rest (omega arith) refl refl refl ∙ omega arith

  -- ---- an extent

  -- all of it is among the first k
  pub stay_all : (k t s c : ℕ) → 1 ≤ c → c ≤ k → StaysOf h k t s c c
  stay_all k t s c full u = record {
    most = omega arith;
    part = λ v rest. absurd (omega arith);
    whole = λ _ rest. go c full u rest;
    ends = λ _ v. absurd (omega arith);
  }
    where
      go : (c : ℕ) → 1 ≤ c → c ≤ k → (rest : List ℕ) → kept_from h k t (up_from s c ++ rest) ≡ c + kept_from h (k - c) (s + c - 1) rest
      go zero f v rest = absurd (omega arith)
      go (suc c) f v rest =
          let d = k - suc c in
          let a = same_from k (suc c + d) t t s s (suc c) (suc c) rest (omega arith) refl refl refl in
          let i = first (suc c) d (suc c) t s rest (omega arith) in
          let n = same_from d d (s + c) (s + suc c - 1) (s + suc c) (s + suc c) (suc c - suc c) 0 rest refl (omega arith) refl (omega arith) in
          a ∙ omega arith

  -- none is left, and it does not go on from track t
  pub stay_none : (k t s c : ℕ) → 1 ≤ c → k ≡ 0 → (s ≡ t + 1 → ⊥) → StaysOf h k t s c 0
  stay_none k t s c full z n = record {
    most = omega arith;
    part = λ v rest. same_from k 0 t t s s c c rest z refl refl refl ∙ go c full rest;
    whole = λ e rest. absurd (omega arith);
    ends = λ v _. absurd (omega arith);
  }
    where
      go : (c : ℕ) → 1 ≤ c → (rest : List ℕ) → kept_from h 0 t (up_from s c ++ rest) ≡ 0
      go zero f rest = absurd (omega arith)
      go (suc c) f rest = goes_away t s (up_from (suc s) c ++ rest) (λ e. n (omega arith))

  -- its first k, and r that go on from track l, the last of these
  module _ (k t s c l r : ℕ) (less : k < c) (next : last_of t s k ≡ l) (on : s + k ≡ suc l) (is : r ≡ min (c - k) (room h (s + k))) where
    moved : (rest : List ℕ) → kept_from h k t (up_from s c ++ rest) ≡ k + goes_on h l (up_from (suc l) (c - k) ++ rest)
    moved rest =
        let a = same_from k (k + 0) t t s s c c rest (omega arith) refl refl refl in
        let e = same_from 0 0 (last_of t s k) l (s + k) (suc l) (c - k) (c - k) rest refl next on refl in
        let n = from_none l (up_from (suc l) (c - k) ++ rest) in
        let i = first k 0 c t s rest (omega arith) in
        a ∙ omega arith

    roomy : room h (s + k) ≡ room h (suc l)
    roomy = ap (room h) on

    end : (k t d : ℕ) (rest : List ℕ) → k ≡ 0 → d ≡ t → goes_on h t rest ≡ kept_from h k d rest
    end k t d rest p q = sym (from_none t rest) ∙ sym (λ i. kept_from h (p i) (q i) rest)

    stay_part : StaysOf h k t s c (k + r)
    stay_part =
        let q = roomy in
        record {
          most = omega arith;
          part = λ v rest. let g = goes_part (c - k) l rest (omega arith) in let m = moved rest in omega arith;
          whole = λ v rest.
              let g = goes_all (c - k) l rest (omega arith) in
              let m = moved rest in
              let e = end (k - c) (l + (c - k)) (s + c - 1) rest (omega arith) (omega arith) in
              omega arith;
          ends = λ _ v. let e : s + (k + r) ≡ s + k + room h (s + k) = omega arith in ap (λ (y : ℕ). y % h) e ∙ room_ends (s + k);
        }

  pub stay_cut : (k t s c r : ℕ) → k < c → (k ≡ 0 → s ≡ t + 1) → r ≡ min (c - k) (room h (s + k)) → StaysOf h k t s c (k + r)
  stay_cut zero t s c r less on is = let e = on refl in stay_part 0 t s c t r less refl (omega arith) is
  stay_cut (suc k) t s c r less on is = stay_part (suc k) t s c (s + k) r less refl (omega arith) is

  -- some number of them stays
  pub some_stay : (k t s c : ℕ) → 1 ≤ c → (r : ℕ) × StaysOf h k t s c r
  some_stay k t s c full =
      by (leb c k)
      (λ u. (c, stay_all k t s c full (leb-true _ _ u)))
      (λ u.
      let less : k < c = leb-false _ _ u in
      by (eqb s (t + 1))
      (λ e. (k + min (c - k) (room h (s + k)), stay_cut k t s c _ less (λ _. eqb-true _ _ e) refl))
      (λ e. by (eqb k 0)
      (λ z. (0, stay_none k t s c full (eqb-true _ _ z) (eqb-false _ _ e)))
      (λ z. (k + min (c - k) (room h (s + k)), stay_cut k t s c _ less (λ q. absurd (eqb-false _ _ z q)) refl))))

  -- ---- the whole list

  kept_first : (k t : ℕ) (ts : List ℕ) → k < length ts → kept_from h (suc k) t ts ≡ suc k + goes_on h (get_or ts k 0) (drop (suc k) ts)
  kept_first k t [] u = absurd (omega arith)
  kept_first zero t (s ∷ ts) u = let a = from_none s ts in omega arith
  kept_first (suc k) t (s ∷ ts) u = let i = kept_first k s ts (omega arith) in omega arith

-- how many a cylinder file keeps
pub kept_cylinders : (h unit ttr : ℕ) (ts : List ℕ) → 1 ≤ h → unit ≡ 0xC0 → ttr / 256 + 1 ≤ length ts
    → tracks_kept h unit ttr ts ≡ kept_from h (ttr / 256 + 1) 0 ts
unfolding tracks_kept
kept_cylinders h unit ttr ts pos e u =
    let n = add-one (ttr / 256) in
    let a = kept_first h pos (ttr / 256) 0 ts (omega arith) in
    let b : ttr / 256 + 1 + goes_on h (get_or ts (ttr / 256) 0) (drop (ttr / 256 + 1) ts) ≡ suc (ttr / 256) + goes_on h (get_or ts (ttr / 256) 0) (drop (suc (ttr / 256)) ts)
    = ap (λ (i : ℕ). i + goes_on h (get_or ts (ttr / 256) 0) (drop i ts)) n in
    rw (eq-eqb unit 0xC0 e) (b ∙ sym a ∙ ap (λ (i : ℕ). kept_from h i 0 ts) (sym n))

-- another set keeps the first TT + 1
pub kept_plain : (h unit ttr : ℕ) (ts : List ℕ) → (unit ≡ 0xC0 → ⊥) → tracks_kept h unit ttr ts ≡ ttr / 256 + 1
unfolding tracks_kept
kept_plain h unit ttr ts n = rw (ne_eqb unit 0xC0 n)

kept_least : (h unit ttr : ℕ) (ts : List ℕ) → ttr / 256 + 1 ≤ tracks_kept h unit ttr ts
unfolding tracks_kept
kept_least h unit ttr ts = by (eqb unit 0xC0) (λ e. rw e (omega arith)) (λ e. rw e (omega arith))

-- no fewer than the first TT + 1, and no more than there are
pub kept_within : (h unit ttr : ℕ) (ts : List ℕ) → 1 ≤ h → ttr / 256 + 1 ≤ length ts → (ttr / 256 + 1 ≤ tracks_kept h unit ttr ts) × (tracks_kept h unit ttr ts ≤ length ts)
kept_within h unit ttr ts pos u =
    by (eqb unit 0xC0)
    (λ e.
    let q = kept_cylinders h unit ttr ts pos (eqb-true _ _ e) u in
    let m = kept_most h (ttr / 256 + 1) 0 ts in
    (kept_least h unit ttr ts, omega arith))
    (λ e. let q = kept_plain h unit ttr ts (eqb-false _ _ e) in (omega arith, omega arith))

-- ---- in the paper's words: which tracks of a cylinder file stay after the first TT + 1

-- after track t track s is "the next on the volume and in the same cylinder"
abbrev pub Next : (h t s : ℕ) → Type 0
Next h t s = (s ≡ suc t) × (s / h ≡ t / h)

is_next : (h t s : ℕ) → follows h t s ≡ true → Next h t s
is_next h t s e =
    let b = true_is e in
    (eqb→eq s (suc t) (and_l (eqb s (suc t)) (eqb (s / h) (t / h)) b), eqb→eq (s / h) (t / h) (and_r (eqb s (suc t)) (eqb (s / h) (t / h)) b))

goes_next : (h t : ℕ) (ts : List ℕ) (i : ℕ) → i < goes_on h t ts → Next h (get_or (t ∷ ts) i 0) (get_or ts i 0)
goes_next h t [] i u = absurd (omega arith)
goes_next h t (s ∷ ts) i u = go i (follows h t s) refl u (goes_next h s ts)
  where
    go : (i : ℕ) (b : Bool) → follows h t s ≡ b → i < cond b (suc (goes_on h s ts)) 0
        → ((j : ℕ) → j < goes_on h s ts → Next h (get_or (s ∷ ts) j 0) (get_or ts j 0)) → Next h (get_or (t ∷ s ∷ ts) i 0) (get_or (s ∷ ts) i 0)
    go zero true e v more = is_next h t s e
    go (suc i) true e v more = more i (omega arith)
    go i false e v more = absurd (omega arith)

goes_ends : (h t : ℕ) (ts : List ℕ) (n : ℕ) → n ≡ goes_on h t ts → n < length ts → Next h (get_or (t ∷ ts) n 0) (get_or ts n 0) → ⊥
goes_ends h t [] n q u x = absurd (omega arith)
goes_ends h t (s ∷ ts) n q u x = go n (follows h t s) refl q u x (goes_ends h s ts)
  where
    go : (n : ℕ) (b : Bool) → follows h t s ≡ b → n ≡ cond b (suc (goes_on h s ts)) 0 → n < length (s ∷ ts)
        → Next h (get_or (t ∷ s ∷ ts) n 0) (get_or (s ∷ ts) n 0)
        → ((m : ℕ) → m ≡ goes_on h s ts → m < length ts → Next h (get_or (s ∷ ts) m 0) (get_or ts m 0) → ⊥) → ⊥
    go zero true e q u x more = absurd (omega arith)
    go (suc n) true e q u x more = more n (omega arith) (omega arith) x
    go zero false e q u x more = clash (rw (eq-eqb s (suc t) x.0, eq-eqb (s / h) (t / h) x.1)) e
    go (suc n) false e q u x more = absurd (omega arith)

-- k tracks of the list ts stay: no fewer than the first TT + 1, and no more than there are; of a cylinder file each that stays after
-- the first TT + 1 is so after the one before it in the list, and the one after them is not
pub record KeptCount (h unit ttr : ℕ) (ts : List ℕ) (k : ℕ) : Type 0 where
  pub least : ttr / 256 + 1 ≤ k
  pub most : k ≤ length ts
  pub plain : (unit ≡ 0xC0 → ⊥) → k ≡ ttr / 256 + 1
  pub next : unit ≡ 0xC0 → (i : ℕ) → ttr / 256 + 1 + i < k → Next h (get_or ts (ttr / 256 + i) 0) (get_or ts (ttr / 256 + 1 + i) 0)
  pub ends : unit ≡ 0xC0 → k < length ts → Next h (get_or ts (k - 1) 0) (get_or ts k 0) → ⊥

module _ (h unit ttr : ℕ) (ts : List ℕ) (inside : ttr / 256 < length ts) where
  abbrev kept : ℕ
  kept = tracks_kept h unit ttr ts

  abbrev more : ℕ
  more = goes_on h (get_or ts (ttr / 256) 0) (drop (ttr / 256 + 1) ts)

  kept_is : unit ≡ 0xC0 → kept ≡ ttr / 256 + 1 + more
  unfolding tracks_kept
  kept_is e = rw (eq-eqb unit 0xC0 e)

  from_last : get_or ts (ttr / 256) 0 ∷ drop (ttr / 256 + 1) ts ≡ drop (ttr / 256) ts
  from_last = ap (λ (i : ℕ). get_or ts (ttr / 256) 0 ∷ drop i ts) (add-one (ttr / 256)) ∙ sym (drop-cons ts (ttr / 256) 0 inside)

  moved_on : (i : ℕ) → Next h (get_or (get_or ts (ttr / 256) 0 ∷ drop (ttr / 256 + 1) ts) i 0) (get_or (drop (ttr / 256 + 1) ts) i 0)
      ≡ Next h (get_or ts (ttr / 256 + i) 0) (get_or ts (ttr / 256 + 1 + i) 0)
  moved_on i =
      ap₂ (Next h)
      (ap (λ (xs : List ℕ). get_or xs i 0) from_last ∙ get_or-drop (ttr / 256) ts i 0)
      (get_or-drop (ttr / 256 + 1) ts i 0)

  kept_next : unit ≡ 0xC0 → (i : ℕ) → ttr / 256 + 1 + i < kept → Next h (get_or ts (ttr / 256 + i) 0) (get_or ts (ttr / 256 + 1 + i) 0)
  kept_next e i u =
      subst (λ (P : Type 0). P) (moved_on i)
      (goes_next h (get_or ts (ttr / 256) 0) (drop (ttr / 256 + 1) ts) i (let q = kept_is e in omega arith))

  kept_ends : unit ≡ 0xC0 → kept < length ts → Next h (get_or ts (kept - 1) 0) (get_or ts kept 0) → ⊥
  kept_ends e u x =
      let q = kept_is e in
      let l = length-drop (ttr / 256 + 1) ts in
      let p : kept - 1 ≡ ttr / 256 + more = omega arith in
      let y = subst (λ (i : ℕ). Next h (get_or ts (ttr / 256 + more) 0) (get_or ts i 0)) q (subst (λ (i : ℕ). Next h (get_or ts i 0) (get_or ts kept 0)) p x) in
      goes_ends h (get_or ts (ttr / 256) 0) (drop (ttr / 256 + 1) ts) more refl (omega arith) (subst (λ (P : Type 0). P) (sym (moved_on more)) y)

  pub kept_count : 1 ≤ h → KeptCount h unit ttr ts kept
  kept_count pos =
      let w = kept_within h unit ttr ts pos (omega arith) in
      record { least = w.0; most = w.1; plain = kept_plain h unit ttr ts; next = kept_next; ends = kept_ends }
