-- What a turn of `enter` does to the five rows. Assumes nothing.
use mathlib.Core.Path.{◌≡◌, sym, ap, ◌∙◌}
use mathlib.Core.Bool.{Bool, cond}
use mathlib.Core.List.{List, [], ◌∷◌, ◌++◌, map-append, append_assoc, append-nil}
use Prim.Native.Nat.{ℕ, suc, ◌+◌, ◌≤◌, ◌<◌}
use native.Mathlib.Numerals.{add-one}
use native.Mathlib.Omega.{arith}
use borrow.Author.Tests.{lt-ltb, le-ltb}
use lib.ListN.{length, get_or, set, take, drop, get_or-map, drop_of_length-le}
use lib.Seq.{take-suc, drop-cons, take-suc-set, drop-set-lt, take_all}
use Rattle.model.specs.Model.{Run}
use Rattle.choose_pieces.specs.declared.Units.{Units}
use Rattle.choose_pieces.specs.Pass.{to_run, to_runs, no_run, no_units, inserted_at, entered}

-- the first k places are as they will be; the row that is held is to go among the others
abbrev pub Entering : ℕ → Units → List Units → Units → List Units → ℕ → Type 0
Entering n c five₀ held five k = inserted_at n (to_run c) (to_runs five₀) ≡ to_runs (take k five) ++ inserted_at n (to_run held) (to_runs (drop k five))

module _ (n : ℕ) (c : Units) (five₀ : List Units) (held : Units) (five : List Units) (k : ℕ) (h : k < length five) (e : Entering n c five₀ held five k) where
  one_further : (x : Units) (ds : List Run) → to_runs (take k five) ++ (to_run x ∷ ds) ≡ to_runs (take k five ++ (x ∷ [])) ++ ds
  one_further x ds = sym (ap (λ (y : List Run). y ++ ds) (map-append to_run (take k five) (x ∷ [])) ∙ append_assoc (to_runs (take k five)) (to_run x ∷ []) ds)

  pub goes_in : (get_or five k no_units).count < n → Entering n c five₀ (get_or five k no_units) (set five k held) (k + 1)
  unfolding inserted_at
  goes_in l =
      let d = get_or five k no_units in
      let r = to_runs (drop (suc k) five) in
      e ∙ ap (λ (x : List Units). to_runs (take k five) ++ inserted_at n (to_run held) (to_runs x)) (drop-cons five k no_units h)
      ∙ ap (λ (b : Bool). to_runs (take k five) ++ cond b (to_run held ∷ inserted_at n (to_run d) r) (to_run d ∷ inserted_at n (to_run held) r)) (lt-ltb (to_run d).count n l)
      ∙ one_further held (inserted_at n (to_run d) r)
      ∙ rw (add-one, take-suc-set five k held h, drop-set-lt (suc k) five k held (omega arith))

  pub goes_by : n ≤ (get_or five k no_units).count → Entering n c five₀ held five (k + 1)
  unfolding inserted_at
  goes_by l =
      let d = get_or five k no_units in
      let r = to_runs (drop (suc k) five) in
      e ∙ ap (λ (x : List Units). to_runs (take k five) ++ inserted_at n (to_run held) (to_runs x)) (drop-cons five k no_units h)
      ∙ ap (λ (b : Bool). to_runs (take k five) ++ cond b (to_run held ∷ inserted_at n (to_run d) r) (to_run d ∷ inserted_at n (to_run held) r)) (le-ltb (to_run d).count n l)
      ∙ one_further d (inserted_at n (to_run held) r)
      ∙ rw (add-one, take-suc five k no_units h)

pub enter_done : (n : ℕ) (c : Units) (five₀ : List Units) (held : Units) (five : List Units) (k : ℕ) → length five ≤ k → Entering n c five₀ held five k
    → to_runs five ≡ inserted_at n (to_run c) (to_runs five₀)
unfolding inserted_at
enter_done n c five₀ held five k h e =
    sym (e ∙ rw (take_all k five h, drop_of_length-le five {i = k} h) (append-nil (to_runs five)))

fifth : (five : List Units) → (get_or (to_runs five) 4 no_run).count ≡ (get_or five 4 no_units).count
fifth five = ap (λ (r : Run). r.count) (get_or-map to_run five 4 no_units)

pub enter_not : (c : Units) (five : List Units) → c.count ≤ (get_or five 4 no_units).count → to_runs five ≡ entered (to_run c) (to_runs five)
unfolding entered
enter_not c five h = rw (le-ltb (get_or (to_runs five) 4 no_run).count (c.count) (omega (arith, fifth five)))

pub enter_is : (c : Units) (five five' : List Units) → (get_or five 4 no_units).count < c.count → to_runs five' ≡ inserted_at (c.count) (to_run c) (to_runs five)
    → to_runs five' ≡ entered (to_run c) (to_runs five)
unfolding entered
enter_is c five five' h e = rw (lt-ltb (get_or (to_runs five) 4 no_run).count (c.count) (omega (arith, fifth five))) e
