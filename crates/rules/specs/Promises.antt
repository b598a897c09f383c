-- What each entry point ensures: one equation, from the lent buffers and numbers before the call to the result and the
-- lent buffers after it. The entry points cite these, and so does demand 3. Assumes nothing.
use Rattle.std.specs.Prelude.{◌≡◌, ℕ, List, []}
use Rattle.model.specs.Model.{Geometry}
use Rattle.rules.specs.Calls.{Call, DateCall, allocate, date_to_packed, date_to_stored, extend, lspace, obtain, preview, release, rename, request, scratch}
use Rattle.rules.specs.Entries.{convert_date, initialise, lent, perform, result_of}

abbrev pub geometry : (c h d s v : ℕ) → Geometry
geometry c h d s v = record { cylinders = c; heads = h; records = d; vtoc_start = s; vtoc_tracks = v }

-- t, a and x are the table, the answer and the third buffer, and with a prime after the call; r is the result

-- initialise
abbrev pub Begins : Geometry → (t a x : List ℕ) (r : ℕ) (t' a' x' : List ℕ) → Type 0
Begins g t a x r t' a' x' = result_of r (lent t' a' x') ≡ initialise g (lent t a x)

-- a date converted. The entry points are lent no table, and so the table is [] for them; proofs/DateCalls has it for any
abbrev pub ConvertsDate : DateCall → (t a x : List ℕ) (r : ℕ) (t' a' x' : List ℕ) → Type 0
ConvertsDate c t a x r t' a' x' = result_of r (lent t' a' x') ≡ convert_date c (lent t a x)

-- every other call: the one equation behind all that follow
abbrev pub Performs : Call → (t a x : List ℕ) (r : ℕ) (t' a' x' : List ℕ) → Type 0
Performs c t a x r t' a' x' = result_of r (lent t' a' x') ≡ perform (lent t a x) c

-- ---- by entry point

abbrev pub Initialises : (t : List ℕ) (c h d s v : ℕ) (a : List ℕ) (r : ℕ) (t' a' : List ℕ) → Type 0
Initialises t c h d s v a r t' a' = Begins (geometry c h d s v) t a [] r t' a' []

abbrev pub Allocates : (t name attributes : List ℕ) (kind start amount secondary option : ℕ) (expiry a : List ℕ) (r : ℕ) (t' a' : List ℕ) → Type 0
Allocates t name attributes kind start amount secondary option expiry a r t' a' =
    Performs (allocate (request name attributes kind start amount secondary option expiry)) t a [] r t' a' []

abbrev pub Extends : (t name a : List ℕ) (r : ℕ) (t' a' : List ℕ) → Type 0
Extends t name a r t' a' = Performs (extend name) t a [] r t' a' []

abbrev pub Releases : (t name : List ℕ) (ttr : ℕ) (a : List ℕ) (r : ℕ) (t' a' : List ℕ) → Type 0
Releases t name ttr a r t' a' = Performs (release name ttr) t a [] r t' a' []

abbrev pub Scratches : (t name today : List ℕ) (override : ℕ) (a : List ℕ) (r : ℕ) (t' a' : List ℕ) → Type 0
Scratches t name today override a r t' a' = Performs (scratch name today override) t a [] r t' a' []

abbrev pub Renames : (t old new a : List ℕ) (r : ℕ) (t' a' : List ℕ) → Type 0
Renames t old new a r t' a' = Performs (rename old new) t a [] r t' a' []

-- the table is lent to be read only, here and below; l are the labels
abbrev pub Obtains : (t name l a : List ℕ) (r : ℕ) (l' a' : List ℕ) → Type 0
Obtains t name l a r l' a' = Performs (obtain name) t a l r t a' l'

abbrev pub Inquires : (t a : List ℕ) (r : ℕ) (a' : List ℕ) → Type 0
Inquires t a r a' = Performs lspace t a [] r t a' []

-- document 02, [3]: previews
abbrev pub PreviewsCall : Call → (t a : List ℕ) (r : ℕ) (a' : List ℕ) → Type 0
PreviewsCall c t a r a' = Performs (preview c) t a [] r t a' []

abbrev pub PreviewsAllocate : (t name attributes : List ℕ) (kind start amount secondary option : ℕ) (expiry a : List ℕ) (r : ℕ) (a' : List ℕ) → Type 0
PreviewsAllocate t name attributes kind start amount secondary option expiry a r a' =
    PreviewsCall (allocate (request name attributes kind start amount secondary option expiry)) t a r a'

abbrev pub PreviewsExtend : (t name a : List ℕ) (r : ℕ) (a' : List ℕ) → Type 0
PreviewsExtend t name a r a' = PreviewsCall (extend name) t a r a'

abbrev pub PreviewsRelease : (t name : List ℕ) (ttr : ℕ) (a : List ℕ) (r : ℕ) (a' : List ℕ) → Type 0
PreviewsRelease t name ttr a r a' = PreviewsCall (release name ttr) t a r a'

abbrev pub PreviewsScratch : (t name today : List ℕ) (override : ℕ) (a : List ℕ) (r : ℕ) (a' : List ℕ) → Type 0
PreviewsScratch t name today override a r a' = PreviewsCall (scratch name today override) t a r a'

-- document 02, [5]: dates converted
abbrev pub DateToStored : (packed a : List ℕ) (r : ℕ) (a' : List ℕ) → Type 0
DateToStored packed a r a' = ConvertsDate (date_to_stored packed) [] a [] r [] a' []

abbrev pub DateToPacked : (stored a : List ℕ) (r : ℕ) (a' : List ℕ) → Type 0
DateToPacked stored a r a' = ConvertsDate (date_to_packed stored) [] a [] r [] a' []
