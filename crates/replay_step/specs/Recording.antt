-- A recording of calls as a list of demand 3: what each record does is an event, and the table that replay leaves is the one
-- after the list. Assumes nothing.
use Rattle.std.specs.Prelude.{◌≡◌, ℕ, cond, ◌||◌, List, [], ◌∷◌, T, eqb, get_or, take}
use Rattle.model.specs.Basics.{within}
use Rattle.model.specs.Model.{Geometry}
use Rattle.rules.specs.Calls.{Call, allocate, extend, lspace, obtain, preview, release, rename}
use Rattle.rules.specs.Promises.{geometry}
use Rattle.rules.specs.Demand3.{Deed, Event, converts_date, initialises, performs}
use Rattle.rules.specs.Entries.{Lent, Result, convert_date, initialise, lent, perform}
use Rattle.replay_record.specs.Asked.{answer_lent, get4, labels_lent, name_asked, other_of, table_lent}
use Rattle.replay_step.specs.Play.{date_call, fresh_answer, fresh_labels, is_date, is_preview, played, previewed, request_of, scratch_of}

-- ---- one record that makes a call: operations 1 to 8, 10 and 11, and previews

abbrev pub operation : List ℕ → ℕ
operation r = get_or r 0 0

abbrev pub geometry_asked : List ℕ → Geometry
geometry_asked r = geometry (get4 r 8) (get4 r 12) (get4 r 16) (get4 r 20) (get4 r 24)

-- operations 2 to 8, and previews
abbrev pub call_of : ℕ → List ℕ → Call
call_of op r =
    cond (eqb op 2) (allocate (request_of r))
    (cond (eqb op 3) (extend (name_asked r))
    (cond (eqb op 4) (release (name_asked r) (get4 r 8))
    (cond (eqb op 5) (scratch_of r)
    (cond (eqb op 6) (rename (name_asked r) (other_of r))
    (cond (eqb op 7) (obtain (name_asked r)) (cond (eqb op 8) lspace (preview (previewed op r))))))))

-- only obtain is lent labels
abbrev pub labels_played : ℕ → List ℕ → List ℕ
labels_played op r = cond (eqb op 7) (take (labels_lent r) fresh_labels) []

-- the lent buffers, t being replay's table
abbrev pub buffers : List ℕ → List ℕ → Lent
buffers r t = lent (take (table_lent r) t) (take (answer_lent r) fresh_answer) (labels_played (operation r) r)

abbrev pub made : List ℕ → List ℕ → Result
made r t =
    cond (eqb (operation r) 1) (initialise (geometry_asked r) (buffers r t))
    (cond (is_date (operation r)) (convert_date (date_call (operation r) r) (buffers r t)) (perform (buffers r t) (call_of (operation r) r)))

abbrev pub deed_of : List ℕ → List ℕ → Deed
deed_of r t =
    cond (eqb (operation r) 1) (initialises (take (table_lent r) t) (geometry_asked r))
    (cond (is_date (operation r)) (converts_date (date_call (operation r) r)) (performs (call_of (operation r) r)))

abbrev pub event_of : List ℕ → List ℕ → Event
event_of r t =
    let b : Lent = buffers r t in
    let p : Result = made r t in
    record {
      deed = deed_of r t;
      answer = b.answer;
      extra = b.extra;
      number = p.number;
      table' = p.after.table;
      answer' = p.after.answer;
      extra' = p.after.extra;
    }

-- ---- a recording: each record makes a call, with the first n bytes of the table

abbrev pub MakesCall : ℕ → List ℕ → Type 0
MakesCall n r = T (within 1 8 (operation r) || (is_date (operation r) || is_preview (operation r))) × (table_lent r ≡ n)

abbrev pub events_of : List (List ℕ) → List ℕ → List Event
events_of [] t = []
events_of (r ∷ rs) t = event_of r t ∷ events_of rs (played r t).table

-- the table that replay leaves
abbrev pub table_left : List (List ℕ) → List ℕ → List ℕ
table_left [] t = t
table_left (r ∷ rs) t = table_left rs (played r t).table
