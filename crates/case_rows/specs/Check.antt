-- Cases made by the unrelated implementation under tests/, computed by the definitions: what a row means. Assumes nothing.
use Rattle.std.specs.Prelude.{ℕ, zero, suc, ◌+◌, ◌*◌, ◌/◌, ◌%◌, Bool, true, ◌&&◌, List, [], ◌∷◌, ◌++◌, map, length, take, set, replicate, eqb}
use Rattle.model.specs.Basics.{fill, flat, same, up_from}
use Rattle.model.specs.Model.{Volume, slots}
use Rattle.rules.specs.Calls.{Call, DateCall, Outcome, accept, allocate, extend, lspace, obtain, preview, refuse, release, rename, rule, scratch, tell}
use Rattle.rules.specs.Promises.{geometry}
use Rattle.rules.specs.Entries.{Lent, Result, convert_date, fresh, initialise, lent, perform}
use Rattle.rules.specs.Layout.{encode, extent_part}
use Rattle.rules.specs.Listing.{listing}

-- initialise; a refused initialise with a table and an answer of these lengths; initialise and calls that are all accepted, of which
-- only the table at the end is compared; a call that is accepted, with its answer and the digest of the table after it; obtain, with
-- the digest of its labels besides; a refused call, which changes nothing; a call on a damaged copy of the table; a call on a copy of
-- another length, with buffers of these lengths; the digest of the listing of a copy that is damaged and has this length; the digest
-- of all that `extent_part` gives for records of these lengths. The copies are thrown away. Bytes put into the table itself, as it may
-- come from elsewhere. A date that is converted, with the answer; one that is not; one beside a table of this length, which stays, with
-- an answer of this length.
pub data Row : Type 0 where
  begin : (c h d s v number digest : ℕ) → Row
  begin_sized : (c h d s v table_length answer_length number : ℕ) → Row
  build : (c h d s v : ℕ) → List Call → (digest : ℕ) → Row
  ok : Call → (answer digest : ℕ) → Row
  ok_labels : Call → (answer digest labels : ℕ) → Row
  no : Call → (number : ℕ) → Row
  hurt : List (ℕ × ℕ) → Call → (number : ℕ) → Row
  sized : (table_length answer_length labels_length : ℕ) → Call → (number : ℕ) → Row
  listed : List (ℕ × ℕ) → (table_length digest : ℕ) → Row
  parts : (length1 length3 digest : ℕ) → Row
  put : List (ℕ × ℕ) → Row
  told : DateCall → (answer : ℕ) → Row
  untold : DateCall → (number : ℕ) → Row
  convert_sized : (table_length answer_length : ℕ) → DateCall → (number : ℕ) → Row

-- ---- names, attributes, dates, bytes as numbers

abbrev pub raw : ℕ → List ℕ → List ℕ
raw n bs = take n (bs ++ replicate n 0x40)

abbrev pub nm : List ℕ → List ℕ
nm bs = raw 44 bs

abbrev pub attr_n : ℕ → ℕ → List ℕ
attr_n n k = map (λ i. k * i % 256) (up_from 1 n)

abbrev pub attr : ℕ → List ℕ
attr k = attr_n 52 k

-- the n bytes of a number
abbrev pub date : (n number : ℕ) → List ℕ
date zero k = []
date (suc n) k = date n (k / 256) ++ (k % 256 ∷ [])

abbrev pub no_date : List ℕ
no_date = replicate 4 0

abbrev pub fold : (ℕ → ℕ → ℕ) → ℕ → List ℕ → ℕ
fold f h [] = h
fold f h (b ∷ bs) = fold f (f h b) bs

abbrev pub number : List ℕ → ℕ
number bs = fold (λ h b. h * 256 + b) 0 bs

abbrev pub digest : List ℕ → ℕ
digest bs = fold (λ h b. (h * 257 + b + 1) % 2305843009213693951) 0 bs

-- ---- what a row says

-- a buffer that a call may write, before the call
abbrev pub buffer : ℕ → List ℕ
buffer n = replicate n 0xEE

abbrev pub labels_for : Call → List ℕ
labels_for (allocate q) = []
labels_for (extend n) = []
labels_for (release n ttr) = []
labels_for (scratch n today override) = []
labels_for (rename old new) = []
labels_for (obtain n) = buffer 280
labels_for lspace = []
labels_for (preview c) = labels_for c

abbrev pub damaged : List (ℕ × ℕ) → List ℕ → List ℕ
damaged [] t = t
damaged (p ∷ ps) t = damaged ps (set t p.0 p.1)

abbrev pub same_lent : Lent → Lent → Bool
same_lent a b = same a.table b.table && same a.answer b.answer && same a.extra b.extra

abbrev pub accepted : Result → ℕ → ℕ → Bool
accepted r answer after =
    eqb r.number 0 && eqb (length r.after.answer) 24 && eqb (number r.after.answer) answer && eqb (digest r.after.table) after

-- a refusal, which leaves every buffer as it was
abbrev pub refused : Lent → Result → ℕ → Bool
refused b r n = eqb r.number n && same_lent r.after b

abbrev pub started : ℕ → ℕ → Lent → Result → Bool
started zero after b r = accepted r 0 after
started (suc n) after b r = refused b r (suc n)

abbrev pub table_after : ℕ → List ℕ → Result → List ℕ
table_after zero t r = r.after.table
table_after (suc n) t r = t

abbrev pub volume_after : Volume → Outcome → Volume
volume_after v (refuse n) = v
volume_after v (accept r w) = w
volume_after v (tell r) = v

abbrev pub built : Volume → List Call → Volume
built v [] = v
built v (c ∷ cs) = built (volume_after v (rule v c)) cs

-- initialise is lent a table of the right length, or none where its geometry is to be refused
abbrev pub table_for : ℕ → ℕ → List ℕ
table_for zero slots = buffer (slots * 140)
table_for (suc n) slots = []

-- extents 0 to 17 of two records, the number of bytes before each
abbrev pub parts_of : List ℕ → List ℕ → List ℕ
parts_of f1 f3 = flat (λ e. length (extent_part f1 f3 e) ∷ extent_part f1 f3 e) (up_from 0 18)

-- the rows from table t on
abbrev pub right : List ℕ → List Row → Bool
right t [] = true
right t (begin c h d s v n after ∷ rows) =
    let b : Lent = lent (table_for n (v * d)) (buffer 24) [] in
    let r : Result = initialise (geometry c h d s v) b in
    started n after b r && right (table_after n t r) rows
right t (begin_sized c h d s v tl al n ∷ rows) =
    let b : Lent = lent (buffer tl) (buffer al) [] in
    let r : Result = initialise (geometry c h d s v) b in
    refused b r n && right t rows
right t (build c h d s v cs after ∷ rows) =
    let u : List ℕ = encode (built (fresh (geometry c h d s v)) cs) in
    eqb (digest u) after && right u rows
right t (ok c answer after ∷ rows) =
    let r : Result = perform (lent t (buffer 24) (labels_for c)) c in
    accepted r answer after && right r.after.table rows
right t (ok_labels c answer after labels ∷ rows) =
    let r : Result = perform (lent t (buffer 24) (labels_for c)) c in
    accepted r answer after && eqb (digest r.after.extra) labels && right t rows
right t (no c n ∷ rows) =
    let b : Lent = lent t (buffer 24) (labels_for c) in
    refused b (perform b c) n && right t rows
right t (hurt ps c n ∷ rows) = eqb (perform (lent (damaged ps t) (buffer 24) (labels_for c)) c).number n && right t rows
right t (sized tl al ll c n ∷ rows) = eqb (perform (lent (fill tl t) (buffer al) (buffer ll)) c).number n && right t rows
right t (listed ps tl text ∷ rows) = eqb (digest (listing (fill tl (damaged ps t)))) text && right t rows
right t (parts l1 l3 text ∷ rows) = eqb (digest (parts_of (attr_n l1 1) (attr_n l3 3))) text && right t rows
right t (put ps ∷ rows) = right (damaged ps t) rows
right t (told c answer ∷ rows) = accepted (convert_date c (lent t (buffer 24) [])) answer (digest t) && right t rows
right t (untold c n ∷ rows) = let b : Lent = lent t (buffer 24) [] in refused b (convert_date c b) n && right t rows
right t (convert_sized tl al c n ∷ rows) =
    let r : Result = convert_date c (lent (fill tl t) (buffer al) []) in
    eqb r.number n && same r.after.table (fill tl t) && right t rows
