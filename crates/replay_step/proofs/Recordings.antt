-- The records of a recording make a list of demand 3, so that the table which replay leaves has the theorem's facts.
-- Assumes nothing.
use mathlib.Core.Path.{◌≡◌, refl, sym, ap, ◌∙◌, subst}
use mathlib.Core.Bool.{true, false, ◌&&◌, ◌||◌}
use mathlib.Core.List.{List, [], ◌∷◌, ◌++◌}
use Prim.Native.Nat.{ℕ, ◌+◌, ◌*◌, ◌≤◌, ◌<◌}
use native.Mathlib.Omega.{arith}
use borrow.Author.Tests.{eqb-false, ne_eqb}
use lib.Dec.{T, eqb, leb, eqb→eq, leb→le}
use lib.ListN.{length, take, drop, length-append, length-drop}
use lib.Seq.{length-take-le, take_at}
use Rattle.model.specs.Basics.{within}
use Rattle.model.specs.Model.{Geometry, slots}
use Rattle.model.proofs.Lists.{and_l, and_r, by, is_true, true_is}
use Rattle.model.specs.Predicates.{All}
use Rattle.rules.specs.Demand3.{Demand3, Did, Ran, initialises, table_after, table_then}
use Rattle.rules.specs.Calls.{DateCall}
use Rattle.rules.specs.Entries.{Lent, convert_date, date_due, initialise}
use Rattle.rules.specs.Table.{limits}
use Rattle.rules.proofs.DateCalls.{due_told, table_stays}
use Rattle.rules.proofs.Performed.{initialise_length, perform_length}
use Rattle.rules.proofs.Theorem.{any_list}
use Rattle.replay_record.specs.Asked.{table_lent}
use Rattle.replay_step.proofs.Laws.{beyond}
use Rattle.replay_step.specs.Play.{called, date_call, play_done, initialised, is_date, is_preview, later_op, obtained, operated, played, preview_op, reading_op, told}
use Rattle.replay_step.specs.Recording.{MakesCall, buffers, call_of, deed_of, event_of, events_of, geometry_asked, made, operation, table_left}

-- ---- one record

-- past a number that it is not
past : (k n : ℕ) → k ≤ n → eqb n k ≡ false → k + 1 ≤ n
past k n h e = beyond k n h (eqb-false n k e)

-- no other number is 7
not_seven : (n k : ℕ) → eqb n k ≡ true → (k ≡ 7 → ⊥) → eqb n 7 ≡ false
not_seven n k e h = ne_eqb n 7 (λ q. h (sym (eqb→eq n k (true_is e)) ∙ q))

-- a preview is none of the others
not_later : (n k : ℕ) → is_preview n ≡ true → k < 130 → eqb n k ≡ false
not_later n k e h = ne_eqb n k (λ q. let a : 130 ≤ n = leb→le 130 n (and_l (leb 130 n) (leb n 133) (true_is e)) in omega arith)

-- nor is a date
not_dated : (n k : ℕ) → is_date n ≡ true → k < 10 → eqb n k ≡ false
not_dated n k e h = ne_eqb n k (λ q. let a : 10 ≤ n = leb→le 10 n (and_l (leb 10 n) (leb n 11) (true_is e)) in omega arith)

-- the table stays where a date is converted
date_table : (c : DateCall) (b : Lent) → (convert_date c b).after.table ≡ b.table
unfolding convert_date
date_table c b = table_stays (date_due c (length b.answer)) (due_told c (length b.answer)) b

module _ (r t : List ℕ) (some : T (within 1 8 (operation r) || (is_date (operation r) || is_preview (operation r)))) where
  -- what is none of 1 to 8, and no date, is a preview
  the_rest : eqb (operation r) 1 ≡ false → eqb (operation r) 2 ≡ false → eqb (operation r) 3 ≡ false → eqb (operation r) 4 ≡ false
      → eqb (operation r) 5 ≡ false → eqb (operation r) 6 ≡ false → eqb (operation r) 7 ≡ false → eqb (operation r) 8 ≡ false → is_date (operation r) ≡ false → is_preview (operation r) ≡ true
  the_rest e₁ e₂ e₃ e₄ e₅ e₆ e₇ e₈ d =
      let n = operation r in
      by (within 1 8 n)
      (λ k.
      let a : 1 ≤ n = leb→le 1 n (and_l (leb 1 n) (leb n 8) (true_is k)) in
      let b : n ≤ 8 = leb→le n 8 (and_r (leb 1 n) (leb n 8) (true_is k)) in
      let c : 9 ≤ n = past 8 n (past 7 n (past 6 n (past 5 n (past 4 n (past 3 n (past 2 n (past 1 n a e₁) e₂) e₃) e₄) e₅) e₆) e₇) e₈ in
      absurd (omega arith))
      (λ k. is_true (rw (k, d) at some))

  -- what the record does with the table is what its call does with the lent bytes
  done_table : (play_done r t).after.table ≡ (made r t).after.table ++ drop (table_lent r) t
  unfolding play_done operated later_op reading_op preview_op initialised called told obtained
  done_table =
      let n = operation r in
      by (is_date n)
      (λ d.
      let no : (k : ℕ) → k < 10 → eqb n k ≡ false = λ k h. not_dated n k d h in
      rw (no 1 (omega arith), no 2 (omega arith), no 3 (omega arith), no 4 (omega arith), no 5 (omega arith), no 6 (omega arith), no 7 (omega arith), no 8 (omega arith), no 9 (omega arith), d))
      (λ d. by (eqb n 1) (λ e. rw (e, not_seven n 1 e (λ z. omega arith)))
      (λ e₁. by (eqb n 2) (λ e. rw (e₁, d, e, not_seven n 2 e (λ z. omega arith)))
      (λ e₂. by (eqb n 3) (λ e. rw (e₁, d, e₂, e, not_seven n 3 e (λ z. omega arith)))
      (λ e₃. by (eqb n 4) (λ e. rw (e₁, d, e₂, e₃, e, not_seven n 4 e (λ z. omega arith)))
      (λ e₄. by (eqb n 5) (λ e. rw (e₁, d, e₂, e₃, e₄, e, not_seven n 5 e (λ z. omega arith)))
      (λ e₅. by (eqb n 6) (λ e. rw (e₁, d, e₂, e₃, e₄, e₅, e, not_seven n 6 e (λ z. omega arith)))
      (λ e₆. by (eqb n 7) (λ e. rw (e₁, d, e₂, e₃, e₄, e₅, e₆, e))
      (λ e₇. by (eqb n 8) (λ e. rw (e₁, d, e₂, e₃, e₄, e₅, e₆, e₇, e))
      (λ e₈.
      let p = the_rest e₁ e₂ e₃ e₄ e₅ e₆ e₇ e₈ d in
      let e₉ = not_later n 9 p (omega arith) in
      rw (e₁, d, e₂, e₃, e₄, e₅, e₆, e₇, e₈, e₉, p))))))))))

did : (r t : List ℕ) → Did (deed_of r t) (take (table_lent r) t) (event_of r t)
did r t = by (eqb (operation r) 1) (λ e. rw e) (λ e. by (is_date (operation r)) (λ d. rw (e, d)) (λ d. rw (e, d)))

-- the table keeps its length, and an initialise that is refused leaves it
made_length : (r t : List ℕ) → length (made r t).after.table ≡ length (take (table_lent r) t)
made_length r t =
    by (eqb (operation r) 1)
    (λ e. rw e (initialise_length (geometry_asked r) (buffers r t)))
    (λ e.
    by (is_date (operation r))
    (λ d. rw (e, d) (ap length (date_table (date_call (operation r) r) (buffers r t))))
    (λ d. rw (e, d) (perform_length (buffers r t) (call_of (operation r) r))))

begun_then : (g : Geometry) (b : Lent) → table_then (initialises b.table g) (initialise g b).number b.table (initialise g b).after.table ≡ (initialise g b).after.table
unfolding initialise
begun_then g b =
    by (limits g)
    (λ l. by (eqb (length b.table) (slots g * 140) && eqb (length b.answer) 24) (λ u. rw (l, u)) (λ u. rw (l, u)))
    (λ l. rw l)

made_then : (r t : List ℕ) → table_then (deed_of r t) (made r t).number (take (table_lent r) t) (made r t).after.table ≡ (made r t).after.table
made_then r t = by (eqb (operation r) 1) (λ e. rw e (begun_then (geometry_asked r) (buffers r t))) (λ e. by (is_date (operation r)) (λ d. rw (e, d)) (λ d. rw (e, d)))

module _ (n : ℕ) (r t : List ℕ) (c : MakesCall n r) (u : n ≤ length t) where
  after_long : length (made r t).after.table ≡ n
  after_long = made_length r t ∙ ap (λ (k : ℕ). length (take k t)) c.1 ∙ length-take-le n t u

  played_is : (played r t).table ≡ (made r t).after.table ++ drop n t
  unfolding played
  played_is = done_table r t c.0 ∙ ap (λ (k : ℕ). (made r t).after.table ++ drop k t) c.1

  played_long : length (played r t).table ≡ length t
  played_long =
      let a = ap length played_is in
      let b = length-append (made r t).after.table (drop n t) in
      let d = after_long in
      let e = length-drop n t in
      omega arith

  next_table : table_then (deed_of r t) (made r t).number (take n t) (made r t).after.table ≡ take n (played r t).table
  next_table =
      ap (λ (k : ℕ). table_then (deed_of r t) (made r t).number (take k t) (made r t).after.table) (sym c.1)
      ∙ made_then r t
      ∙ sym (take_at (made r t).after.table (drop n t) n after_long)
      ∙ ap (take n) (sym played_is)

-- ---- a recording

pub recording_ran : (n : ℕ) (rs : List (List ℕ)) (t : List ℕ) → n ≤ length t → All (MakesCall n) rs
    → Ran (take n t) (events_of rs t) × (table_after (take n t) (events_of rs t) ≡ take n (table_left rs t))
recording_ran n [] t u a = (tt, refl)
recording_ran n (r ∷ rs) t u a =
    let next = next_table n r t a.0 u in
    let long = played_long n r t a.0 u in
    let i = recording_ran n rs (played r t).table (omega arith) a.1 in (
      (
        subst (λ (k : ℕ). Did (deed_of r t) (take k t) (event_of r t)) a.0.1 (did r t),
        subst (λ (x : List ℕ). Ran x (events_of rs (played r t).table)) (sym next) i.0,
      ),
      ap (λ (x : List ℕ). table_after x (events_of rs (played r t).table)) next ∙ i.1,
    )

-- WHAT REPLAY LEAVES HAS THE THEOREM'S FACTS
pub recording_holds : (n : ℕ) (rs : List (List ℕ)) (t : List ℕ) → n ≤ length t → All (MakesCall n) rs
    → Demand3 (take n t) (events_of rs t) × (table_after (take n t) (events_of rs t) ≡ take n (table_left rs t))
recording_holds n rs t u a =
    let x = recording_ran n rs t u a in (any_list (take n t) (events_of rs t) x.0, x.1)
