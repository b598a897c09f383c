-- What is done with a record (docs/REPLAY.md): its result, the buffers after it, and its line. `Lent` holds the three
-- buffers whole here: the table, the answer and the labels. Assumes nothing.
use Rattle.std.specs.Prelude.{◌≡◌, ℕ, Bool, cond, List, [], ◌++◌, eqb, get_or, take, drop, replicate}
use Rattle.model.specs.Basics.{within}
use Rattle.rules.specs.Calls.{Call, DateCall, Request, allocate, date_to_packed, date_to_stored, extend, lspace, obtain, preview, release, rename, request, scratch}
use Rattle.rules.specs.Promises.{geometry}
use Rattle.rules.specs.Entries.{Lent, Result, convert_date, initialise, lent, perform, result_of}
use Rattle.replay_record.specs.Asked.{answer_lent, bytes_of, date_asked, get4, labels_lent, name_asked, other_of, over_at, table_lent}
use Rattle.replay_record.specs.Line.{digest, line_of}

-- what allocate is asked for
abbrev pub request_of : List ℕ → Request
request_of r = request (name_asked r) (other_of r) (get4 r 8) (get4 r 12) (get4 r 16) (get4 r 20) (get4 r 24) (date_asked r)

abbrev pub scratch_of : List ℕ → Call
scratch_of r = scratch (name_asked r) (date_asked r) (get4 r 8)

-- ---- a call, with the lent first bytes of the buffers; the bytes behind them stay. Only obtain is lent labels

abbrev pub lent_of : List ℕ → Lent → List ℕ → Lent
lent_of r b l = lent (take (table_lent r) b.table) (take (answer_lent r) b.answer) l

-- the buffers whole, from the lent bytes after the call
abbrev pub whole_table : List ℕ → Lent → Result → List ℕ → Result
whole_table r b p l =
    result_of p.number (lent (p.after.table ++ drop (table_lent r) b.table) (p.after.answer ++ drop (answer_lent r) b.answer) l)

unfoldable pub initialised : List ℕ → Lent → Result
initialised r b =
    whole_table r b (initialise (geometry (get4 r 8) (get4 r 12) (get4 r 16) (get4 r 20) (get4 r 24)) (lent_of r b [])) b.extra

unfoldable pub called : List ℕ → Lent → Call → Result
called r b c = whole_table r b (perform (lent_of r b []) c) b.extra

-- a date is converted without the table
unfoldable pub told : List ℕ → Lent → DateCall → Result
told r b c = whole_table r b (convert_date c (lent_of r b [])) b.extra

abbrev pub with_labels : List ℕ → Lent → Result → Result
with_labels r b p = whole_table r b p (p.after.extra ++ drop (labels_lent r) b.extra)

unfoldable pub obtained : List ℕ → Lent → Result
obtained r b = with_labels r b (perform (lent_of r b (take (labels_lent r) b.extra)) (obtain (name_asked r)))

-- r is the result and t', a' are table and answer after it, whatever the labels are; these stay
abbrev pub Does : (Lent → Result) → (t a : List ℕ) (r : ℕ) (t' a' : List ℕ) → Type 0
Does f t a r t' a' = (l : List ℕ) → result_of r (lent t' a' l) ≡ f (lent t a l)

-- the same, beside any table
abbrev pub Tells : (asked : List ℕ) → DateCall → (a : List ℕ) (r : ℕ) (a' : List ℕ) → Type 0
Tells asked c a r a' = (t : List ℕ) → Does (λ b. told asked b c) t a r t a'

-- ---- put

unfoldable pub loaded : List ℕ → Lent → Result
loaded r b = result_of 0 (lent (over_at (get4 r 8) (bytes_of r) b.table) b.answer b.extra)

abbrev pub Loads : (asked t : List ℕ) (r : ℕ) (t' : List ℕ) → Type 0
Loads asked t r t' = (a l : List ℕ) → result_of r (lent t' a l) ≡ loaded asked (lent t a l)

-- ---- by the operation: 1 initialise, 2 allocate, 3 extend, 4 release, 5 scratch, 6 rename, 7 obtain, 8 LSPACE, 9 put, 10 and 11 a date
-- to its stored and to its packed form; 128 and 2 to 5 a preview of operation 2 to 5

abbrev pub is_preview : ℕ → Bool
is_preview op = within 130 133 op

-- the call of which there is to be a preview
abbrev pub previewed : ℕ → List ℕ → Call
previewed op r =
    cond (eqb op 130) (allocate (request_of r))
    (cond (eqb op 131) (extend (name_asked r)) (cond (eqb op 132) (release (name_asked r) (get4 r 8)) (scratch_of r)))

unfoldable pub preview_op : ℕ → List ℕ → Lent → Result
preview_op op r b = cond (is_preview op) (called r b (preview (previewed op r))) (result_of 99 b)

abbrev pub is_date : ℕ → Bool
is_date op = within 10 11 op

-- the date that is to be converted
abbrev pub date_call : ℕ → List ℕ → DateCall
date_call op r = cond (eqb op 10) (date_to_stored (date_asked r)) (date_to_packed (date_asked r))

unfoldable pub reading_op : ℕ → List ℕ → Lent → Result
reading_op op r b = cond (is_date op) (told r b (date_call op r)) (preview_op op r b)

unfoldable pub later_op : ℕ → List ℕ → Lent → Result
later_op op r b =
    cond (eqb op 5) (called r b (scratch_of r))
    (cond (eqb op 6) (called r b (rename (name_asked r) (other_of r)))
    (cond (eqb op 7) (obtained r b)
    (cond (eqb op 8) (called r b lspace)
    (cond (eqb op 9) (loaded r b) (reading_op op r b)))))

unfoldable pub operated : ℕ → List ℕ → Lent → Result
operated op r b =
    cond (eqb op 1) (initialised r b)
    (cond (eqb op 2) (called r b (allocate (request_of r)))
    (cond (eqb op 3) (called r b (extend (name_asked r)))
    (cond (eqb op 4) (called r b (release (name_asked r) (get4 r 8)))
    (later_op op r b))))

-- ---- a record: "before each record the answer buffer is filled with X'A5' and the labels buffer with X'5A'"

unfoldable pub fresh_answer : List ℕ
fresh_answer = replicate 32 0xA5

unfoldable pub fresh_labels : List ℕ
fresh_labels = replicate 288 0x5A

-- the result and the buffers after it
unfoldable pub play_done : List ℕ → List ℕ → Result
play_done r t = operated (get_or r 0 0) r (lent t fresh_answer fresh_labels)

-- its line, of the lent bytes after it
unfoldable pub line_for : List ℕ → Result → List ℕ
line_for r p =
    line_of (get_or r 0 0) p.number (take 24 p.after.answer) (digest (take (table_lent r) p.after.table))
    (digest (take (labels_lent r) p.after.extra))

-- the line and the table after a record, from the record and the table before
pub record Played : Type 0 where
  pub line : List ℕ
  pub table : List ℕ

abbrev pub both_lent : List ℕ → List ℕ → Played
both_lent l t = record { line = l; table = t }

unfoldable pub played : List ℕ → List ℕ → Played
played r t = both_lent (line_for r (play_done r t)) (play_done r t).after.table
