-- A grant, planned and ready to be written. Assumes nothing.
use mathlib.Core.Path.{◌≡◌, refl, sym, ap, ◌∙◌, subst}
use mathlib.Core.Bool.{Bool, true, false, cond}
use mathlib.Core.Option.{none, some}
use mathlib.Core.List.{List, [], ◌∷◌, ◌++◌, map}
use Prim.Native.Nat.{ℕ, ◌+◌, ◌-◌, ◌≤◌}
use native.Mathlib.Omega.{arith}
use lib.Dec.{leb, eqb, leb→le}
use lib.ListN.{get_or, length, length-map, take}
use lib.Seq.{get_or-take}
use Rattle.grant_space.specs.declared.Holder.{Holder}
use Rattle.model.specs.Basics.{bit}
use Rattle.model.specs.Model.{Extent, Geometry, Label, Run, Volume, covers, extent, held, one_slot, runs_of, slots, tally, times, tracks, used}
use Rattle.model.proofs.Lists.{sum_append, true_is}
use Rattle.model.specs.Predicates.{All}
use Rattle.rules.specs.Calls.{joined}
use Rattle.rules.specs.Joining.{touches}
use Rattle.rules.specs.Slots.{asks, kept3}
use Rattle.rules.specs.Table.{few_extents}
use Rattle.rules.proofs.Joined.{count_after_joining, joined_least, joined_times}
use Rattle.rules.proofs.Settle.{used_tally}
use Rattle.rules.proofs.Valid.{held_times, slots_tally}
use Rattle.bitmap.specs.Map.{Shows, Room}
use Rattle.bitmap.proofs.Held.{shows_same}
use Rattle.check_label.specs.Marks.{units}
use Rattle.choose_pieces.specs.Grant.{row}
use Rattle.choose_pieces.proofs.Reply.{overs_extents}
use Rattle.request.proofs.Laws.{pieces_room}
use Rattle.set_extents.specs.Change.{InRecords, PieceIn, extents_in}
use Rattle.set_extents.proofs.Laws.{pieces_good}
use Rattle.update.specs.declared.Home.{Home}
use Rattle.update.specs.declared.Plan.{Plan}
use Rattle.update.specs.Commit.{Draft, Leaves, NoPlan, Plans, Puts, drafted}
use Rattle.std.specs.Prelude.{Option}
use Rattle.update.proofs.Put.{is_w, put_full}
use Rattle.update.proofs.Sets.{slots_shown}
use Rattle.grant_space.specs.Granting.{GrantPlans, GrantWrites, Grants, extents_then, first_start, grown, more}

-- the first of some pieces is the first of those that are taken
pub first_taken : (count : ℕ) (p : List (List ℕ)) → 1 ≤ count → first_start (take count p) ≡ first_start p
first_taken count p h = ap (λ (x : List ℕ). get_or x 0 0) (get_or-take count p 0 [] (omega arith))

-- how many extents there are with the pieces
pub count_more : (kind : ℕ) (es : List Extent) (ps : List Run) (rows : List (List ℕ)) → rows ≡ map row ps → 1 ≤ length ps → (joins : Bool) → joins ≡ touches es (first_start rows)
    → length (joined es (map (extent kind) ps)) ≡ length es + length ps - bit joins
count_more kind es [] rows e h joins j = absurd (omega arith)
count_more kind es (p ∷ ps) rows e h joins j =
    let a = count_after_joining es (extent kind p) (map (extent kind) ps) in
    let b = length-map ps (extent kind) in
    let c = ap bit (j ∙ ap (λ (r : List (List ℕ)). touches es (first_start r)) e) in
    omega arith

-- a format 3 that is freed was none
third_kept : (b : Bool) (q k : ℕ) → (b ≡ true → q ≡ 0) → tally k (one_slot (cond b 0 q)) ≡ tally k (one_slot q)
third_kept true q k h = rw (h refl)
third_kept false q k h = refl

-- the lowest piece starts on a track of the volume, whose number of tracks was told
pub low_in_lem : (lo told n : ℕ) → told ≡ n → lo ≤ told → lo ≤ n
low_in_lem lo told n e h = omega arith

-- what the label asks for, few or not
pub asked_is_lem : (h : Holder) (asked : ℕ) (few : Bool) → few ≡ leb (extents_then h) 3 → asked ≡ asks h.slot + cond few 0 (asks h.slot3)
    → asked ≡ asks h.slot + cond (leb (extents_then h) 3) 0 (asks h.slot3)
asked_is_lem h asked few f e = e ∙ ap (λ (b : Bool). asks h.slot + cond b 0 (asks h.slot3)) f

module _ {g : Geometry} {t m s : List ℕ} {h : Holder} {rows : List (List ℕ)} (d : Grants g t m s h rows) where
  abbrev v : Volume
  v = d.volume

  abbrev n : ℕ
  n = h.extents

  abbrev count : ℕ
  count = h.count

  abbrev kind : ℕ
  kind = h.type_byte

  abbrev L : Label
  L = more kind d.pieces d.label

  tracks_shown : Shows m (tracks g) (held g v.labels)
  tracks_shown = subst (λ (y : Geometry). Shows m (tracks y) (held y v.labels)) d.geometry_is d.shown.free_tracks

  below : All (λ p. p.start + p.count ≤ tracks g) d.pieces
  below = subst (λ (y : Geometry). All (λ p. p.start + p.count ≤ tracks y) d.pieces) d.geometry_is d.good.below

  room : Room m (tracks g) d.pieces
  room = subst (λ (y : Geometry). Room m (tracks y) d.pieces) d.geometry_is (pieces_room m v d.pieces d.shown.free_tracks d.good)

  -- ---- the pieces

  pub rows_long : length rows ≡ h.count
  rows_long = ap length d.rows_are ∙ length-map d.pieces row ∙ d.count_is

  pub pieces_in_lem : (k : ℕ) → tracks g ≤ k → All (PieceIn k) rows
  pieces_in_lem k h = pieces_good (tracks g) k d.pieces h d.good.full below rows d.rows_are

  length_more : length L.extents ≡ extents_then h
  length_more =
      let a = count_more kind d.label.extents d.pieces rows d.rows_are d.good.least h.joins d.joins_is in
      let c = d.extents_are in
      let e = d.count_is in
      omega arith

  few_none : few_extents L ≡ true → d.label.slot3 ≡ 0
  few_none e = d.few (let a = leb→le (length L.extents) 3 (true_is e) in let b = joined_least d.label.extents (map (extent kind) d.pieces) in omega arith)

  -- ---- what the maps show then

  held_more : (k : ℕ) → times k (d.pieces ++ held g v.labels) ≡ times k (held g (kept3 L ∷ d.others))
  held_more k =
      let a = sum_append (λ r. bit (covers r k)) d.pieces (held g v.labels) in
      let b = d.held_apart k in
      let c = sum_append (λ r. bit (covers r k)) (runs_of d.label) (held g d.others) in
      let e = held_times g d.others k in
      let f = held_times g (kept3 L ∷ d.others) k in
      let i = joined_times k d.label.extents (map (extent kind) d.pieces) in
      let j = ap (times k) (overs_extents kind d.pieces) in
      omega arith

  used_more : (k : ℕ) → tally k (used v.labels v.chain) ≡ tally k (used (kept3 L ∷ d.others) v.chain)
  used_more k =
      let a = d.used_same k in
      let b = used_tally (d.label ∷ d.others) v.chain k in
      let c = used_tally (kept3 L ∷ d.others) v.chain k in
      let e = slots_tally (d.label ∷ d.others) k in
      let f = slots_tally (kept3 L ∷ d.others) k in
      let i = sum_append (λ x. bit (eqb x k)) (one_slot d.label.slot) (one_slot d.label.slot3) in
      let j = sum_append (λ x. bit (eqb x k)) (one_slot d.label.slot) (one_slot (cond (few_extents L) 0 d.label.slot3)) in
      let q = third_kept (few_extents L) d.label.slot3 k few_none in
      omega arith

  same_used : (k : ℕ) → tally k (used (L ∷ d.others) v.chain) ≡ tally k (used v.labels v.chain)
  same_used k =
      let a = d.used_same k in
      let b = used_tally (d.label ∷ d.others) v.chain k in
      let c = used_tally (L ∷ d.others) v.chain k in
      let e = slots_tally (d.label ∷ d.others) k in
      let f = slots_tally (L ∷ d.others) k in
      omega arith

  -- ---- planned

  module _ {m' s' c : List ℕ} {r : Option Plan} (x : GrantPlans g t m m' s s' c h rows r) where
    all_shown : Shows m' (tracks g) (d.pieces ++ held g v.labels)
    all_shown = x.took.held (tracks g) d.pieces d.rows_are below room (held g v.labels) tracks_shown

    pub draft : (few : Bool) → few ≡ leb (extents_then h) 3 → Draft g t m' s x.lo h.slot h.slot3 few
    draft few f =
        record {
          volume = v;
          others = d.others;
          label = L;
          ready = d.ready;
          geometry_is = d.geometry_is;
          slot_is = d.slot_is;
          slot3_is = d.slot3_is;
          few_is = f ∙ ap (λ (k : ℕ). leb k 3) (sym length_more);
          shown_tracks =
              shows_same m' (tracks g) (d.pieces ++ held g v.labels) (held g (kept3 L ∷ d.others)) (λ k u. held_more k) all_shown;
          low_in = x.low_in;
          below = λ k u.
              let a = all_shown k (omega (arith, x.low_in)) in
              let b = x.lowest d.pieces d.rows_are k u in
              let e = sum_append (λ r. bit (covers r k)) d.pieces (held g v.labels) in
              omega arith;
          shown_slots =
              slots_shown s (slots g) (used v.labels v.chain) (used (kept3 L ∷ d.others) v.chain) (λ k u. used_more k)
              (subst (λ (y : Geometry). Shows s (slots y) (units (used v.labels v.chain))) d.geometry_is d.shown.free_slots);
          stays = d.stays;
          slot_once = λ k. let a = same_used k in let b = d.ready.valid.slot_once k in omega arith;
          slot_in = λ k u. same_used k ∙ d.ready.valid.slot_in k (let a = ap slots d.geometry_is in omega arith);
          valid = d.valid;
        }

    -- the VTOC is full
    pub grant_full : NoPlan g t m' s s' c x.asked → grown d ≡ none
    unfolding draft
    grant_full n = put_full (draft (leb (extents_then h) 3) refl) x.asked_is n

    -- it is not: there is a volume that the grant leaves
    pub grant_there : {p : Plan} → Plans g t m' s s' c x.lo x.asked p → (w : Volume) × (grown d ≡ some w)
    unfolding draft
    grant_there n = (_, is_w (draft (leb (extents_then h) 3) refl) x.asked_is n)

-- ---- written

module _ {g : Geometry} {t m' c : List ℕ} {p : Plan} {h : Holder} {rows : List (List ℕ)} {old1 old3 : List ℕ} (d : GrantWrites g t m' c p h rows old1 old3) where
  -- what `put_pieces` asks
  pub joins_first : h.joins ≡ touches (extents_in g old1 old3 h.extents) (first_start rows)
  joins_first = d.grants.joins_is ∙ ap (λ (es : List Extent). touches es (first_start rows)) (sym d.extents)

  module _ (few : Bool) (f : few ≡ leb (extents_then h) 3) (f1 f3 : List ℕ) (recs : InRecords g (more h.type_byte d.grants.pieces d.grants.label) f1 f3) where
    abbrev home : Home
    home = record { slot = h.slot; slot3 = h.slot3; few = few }

    -- what `write_set` asks
    pub puts : Puts g t m' c p home f1 f3
    unfolding draft
    puts =
        record {
          empty_before = d.empty_before;
          empty_after = d.empty_after;
          lo = d.plans.lo;
          asked = d.plans.asked;
          draft = draft d.grants d.plans few f;
          asked_is = d.plans.asked_is ∙ ap (λ (b : Bool). asks h.slot + cond b 0 (asks h.slot3)) (sym f);
          plan = d.plans.plan;
          first = recs.one;
          third = λ _. recs.three;
        }

    pub grant_done : (t' : List ℕ) → ((y : Puts g t m' c p home f1 f3) → Leaves (drafted y.draft) t') → Leaves (grown d.grants) t'
    unfolding draft puts
    grant_done t' y = y puts
