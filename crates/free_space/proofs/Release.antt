-- Release: the draft that is written, and the call. Assumes nothing.
use mathlib.Core.Path.{◌≡◌, refl, sym, ap, ◌∙◌, subst}
use mathlib.Core.Bool.{Bool, true, false, cond}
use mathlib.Core.Option.{some}
use mathlib.Core.List.{List, [], ◌∷◌, ◌++◌}
use Prim.Native.Nat.{ℕ, ◌+◌, ◌-◌, ◌/◌, ◌≤◌, ◌<◌}
use native.Mathlib.Omega.{arith}
use lib.Dec.{T, eqb, leb, leb→le, ltb, ltb→lt}
use lib.ListN.{length}
use Rattle.model.specs.Basics.{bit}
use Rattle.model.specs.Model.{Extent, Geometry, Label, Volume, held, one_slot, runs_of, slots, slots_of, tally, times, total, tracks, used}
use Rattle.model.proofs.Lists.{and_l, and_r, sum_append, true_is}
use Rattle.rules.specs.Calls.{Outcome, accept, answer, given_back, good_ttr, on_copy, release_set, release_tracks, settled, shorter, tracks_kept_of, unless}
use Rattle.rules.specs.Ledger.{keeps}
use Rattle.rules.specs.Entries.{lent, result_of, written}
use Rattle.rules.specs.Slots.{kept3, settle_with, without}
use Rattle.rules.specs.Table.{few_extents, unit_in}
use Rattle.rules.proofs.Cut.{keep_times}
use Rattle.rules.proofs.Grants.{release_keeps}
use Rattle.rules.proofs.Kept.{Keeps}
use Rattle.rules.proofs.Settle.{used_tally}
use Rattle.rules.proofs.Valid.{slots_tally}
use Rattle.rules.specs.Predicates.{Valid}
use Rattle.bitmap.specs.Map.{Shows}
use Rattle.bitmap.proofs.Held.{shows_same}
use Rattle.check_label.specs.Marks.{units}
use Rattle.update.specs.declared.Home.{Home}
use Rattle.std.specs.Prelude.{Option}
use Rattle.update.specs.declared.Plan.{Plan}
use Rattle.update.specs.Commit.{Draft, Leaves, NoPlan, Plans, Puts, drafted}
use Rattle.update.proofs.Put.{is_w, put_full}
use Rattle.update.proofs.Replies.{back_foreseen, is_given_back, not_fitting}
use Rattle.update.proofs.Sets.{held_apart_lem, held_front, others_stay, shows_below, slots_inside, slots_once, slots_shown, used_apart}
use Rattle.dscb.specs.Records.{slot_bytes}
use Rattle.dscb_write.specs.Labels.{with_ttr}
use Rattle.set_extents.specs.Change.{InRecords, Stays}
use Rattle.set_extents.proofs.Laws.{shortened_is, stays_fits}
use Rattle.data_set.specs.Held.{ThirdIn}
use Rattle.data_set.proofs.Stored.{copied}
use Rattle.free_space.specs.declared.Measured.{Measured}
use Rattle.free_space.specs.Giving.{At, Measures}
use Rattle.free_space.proofs.Laws.{stays_is, tail_is}
use Rattle.set_extents.specs.declared.Kept.{Kept}
use Rattle.free_space.specs.Shorter.{CutPlans, Shortens}
use Rattle.free_space.specs.Deciding.{ForeseesAt, release_of}

-- what a good TTR says
pub ttr_fits : (ttr all : ℕ) → good_ttr ttr all ≡ true → (ttr < 16777216) × (ttr / 256 + 1 ≤ all)
ttr_fits ttr all h =
    let t : T (good_ttr ttr all) = true_is h in
    let a : T (ltb ttr 16777216) = search (and_l, and_r) in
    let b : T (leb (ttr / 256 + 1) all) = search (and_l, and_r) in
    (ltb→lt _ _ a, leb→le _ _ b)

-- the slots before, by those after and the one that is freed
slots_cut : (few : Bool) (l : Label) (i : ℕ) → tally i (slots_of l) ≡ tally i (one_slot (cond few l.slot3 0)) + tally i (one_slot l.slot ++ one_slot (cond few 0 l.slot3))
slots_cut true l i =
    let a = sum_append (λ x. bit (eqb x i)) (one_slot l.slot) (one_slot l.slot3) in
    let b = sum_append (λ x. bit (eqb x i)) (one_slot l.slot) (one_slot 0) in
    omega arith
slots_cut false l i = omega arith

module _ {g : Geometry} {t m s : List ℕ} {k : ℕ} (d : At g t m s k) (ttr : ℕ) {x : Measured} (y : Measures g t k d.it.label x) where
  abbrev v : Volume
  v = d.volume

  abbrev l : Label
  l = d.it.label

  abbrev others : List Label
  others = without d.name v.labels

  pub bad_ttr : (a : List ℕ) → good_ttr ttr x.tracks ≡ false → result_of 12 (lent t a []) ≡ written (lent t a []) (release_set v d.name ttr l)
  bad_ttr a h =
      let q : good_ttr ttr (total (runs_of l)) ≡ false = ap (good_ttr ttr) (sym y.spread.sum) ∙ h in
      sym (ap (λ (b : Bool). written (lent t a []) (unless b 12 (release_tracks v d.name ttr l (tracks_kept_of v.geometry ttr l)))) q)

  -- n is what the code has for the number of tracks that stay
  module _ (ok : good_ttr ttr x.tracks ≡ true) {n : ℕ} (count : n ≡ tracks_kept_of g ttr l) {m' s' c : List ℕ} {rest : Kept} {few : Bool} {r : Option Plan} (z : CutPlans g t m m' s s' c x n rest few r) where
    abbrev u : ℕ
    u = unit_in l.unit

    abbrev l₀ : Label
    l₀ = shorter n ttr l

    good : good_ttr ttr (total (runs_of l)) ≡ true
    good = ap (good_ttr ttr) (sym y.spread.sum) ∙ ok

    rule_is : release_set v d.name ttr l ≡ settled (given_back (total (runs_of l) - n)) (settle_with v others l₀)
    rule_is =
        ap (λ (b : Bool). unless b 12 (release_tracks v d.name ttr l (tracks_kept_of v.geometry ttr l))) good
        ∙ ap (release_tracks v d.name ttr l) (sym (count ∙ ap (λ (y : Geometry). tracks_kept_of y ttr l) d.geometry_is))

    -- ---- what stays

    kept : Stays u n l.extents (tracks g) rest.whole rest.type_byte rest.start rest.count
    kept = stays_is y n (tracks g) rest.whole rest.type_byte rest.start rest.count z.stays

    few_is_lem : few ≡ few_extents l₀
    few_is_lem = z.few_is l.extents kept.most ∙ ap (λ (es : List Extent). leb (length es) 3) (sym kept.kept)

    -- what `cut_set` asks
    pub cut_fits : tracks g ≤ 65535 → (rest.whole ≤ 16) × (1 ≤ rest.count → rest.whole < 16) × (rest.start + rest.count ≤ 65535)
    cut_fits w =
        stays_fits u n (tracks g) rest.whole rest.type_byte rest.start rest.count l.extents kept
        (let b = y.stored.many in let c = y.stored.set.most in omega arith) w

    -- ---- what the maps show then

    all_shown : Shows m' (tracks g) (runs_of l₀ ++ held g others)
    all_shown =
        let a : Shows m (tracks v.geometry) (runs_of l ++ held v.geometry others) = shows_same m (tracks v.geometry) (held v.geometry v.labels) (runs_of l ++ held v.geometry others) (λ t u. held_apart_lem v d.ready.valid d.name l d.it.same t) d.shown.free_tracks in
        let b : Shows m (tracks g) (runs_of l ++ held g others) = subst (λ (y : Geometry). Shows m (tracks y) (runs_of l ++ held y others)) (sym d.geometry_is) a in
        (tail_is y n z.tail).held u (tracks g) (held g others) b

    tracks_shown : Shows m' (tracks g) (held g (kept3 l₀ ∷ others))
    tracks_shown = shows_same m' (tracks g) (runs_of l₀ ++ held g others) (held g (kept3 l₀ ∷ others)) (λ t u. held_front g (kept3 l₀) others t) all_shown

    abbrev q : ℕ
    q = cond few x.slot3 0

    tallies : (i : ℕ) → tally i (used v.labels v.chain) ≡ tally i (one_slot q ++ used (kept3 l₀ ∷ others) v.chain)
    tallies i =
        let a = used_apart v d.ready.valid d.name l d.it.same i in
        let b = sum_append (λ x. bit (eqb x i)) (slots_of l) (used others v.chain) in
        let c = used_tally others v.chain i in
        let e = used_tally (kept3 l₀ ∷ others) v.chain i in
        let h = slots_tally others i in
        let j = slots_tally (kept3 l₀ ∷ others) i in
        let n = sum_append (λ x. bit (eqb x i)) (one_slot q) (used (kept3 l₀ ∷ others) v.chain) in
        let o : tally i (one_slot q) ≡ tally i (one_slot (cond few l.slot3 0)) = ap (λ (j : ℕ). tally i (one_slot (cond few j 0))) y.stored.slot3 in
        let p : tally i (slots_of (kept3 l₀)) ≡ tally i (one_slot l.slot ++ one_slot (cond few 0 l.slot3)) = ap (λ (b : Bool). tally i (one_slot l.slot ++ one_slot (cond b 0 l.slot3))) (sym few_is_lem) in
        let r = slots_cut few l i in
        omega arith

    slots_free : Shows z.freed (slots g) (units (used (kept3 l₀ ∷ others) v.chain))
    slots_free =
        let us = used (kept3 l₀ ∷ others) v.chain in
        let a : Shows s (slots v.geometry) (units (one_slot q ++ us)) = slots_shown s (slots v.geometry) (used v.labels v.chain) (one_slot q ++ us) (λ i u. tallies i) d.shown.free_slots in
        z.third_freed.freed (slots g) us (subst (λ (y : Geometry). Shows s (slots y) (units (one_slot q ++ us))) (sym d.geometry_is) a)

    stays_valid : (w : Volume) → settle_with v others l₀ ≡ some w → Valid w
    stays_valid w e =
        let r = given_back (total (runs_of l) - n) in
        let z : Keeps v (keeps d.name ttr) (accept r w) = subst (Keeps v (keeps d.name ttr)) (rule_is ∙ ap (settled r) e) (release_keeps v d.ready.valid d.name l d.it.same ttr) in
        z.valid

    draft : Draft g t m' z.freed x.lowest x.slot x.slot3 few
    draft =
        record {
          volume = v;
          others = others;
          label = l₀;
          ready = d.ready;
          geometry_is = sym d.geometry_is;
          slot_is = y.slot ∙ sym d.it.slot;
          slot3_is = y.stored.slot3;
          few_is = few_is_lem;
          shown_tracks = tracks_shown;
          low_in = y.spread.low_in;
          below =
              shows_below g m' (tracks g) x.lowest v.labels (held g others) (runs_of l) (runs_of l₀) y.spread.low_in
              (λ i. subst (λ (y : Geometry). times i (held y v.labels) ≡ times i (runs_of l ++ held y others)) (sym d.geometry_is) (held_apart_lem v d.ready.valid d.name l d.it.same i))
              (λ i u. let a = y.spread.lowest i u in let b = keep_times (unit_in l.unit) n i l.extents in omega arith) all_shown;
          shown_slots = slots_free;
          stays = others_stay v d.ready.valid d.name l d.it.same l₀ refl refl;
          slot_once = slots_once v d.ready.valid d.name l d.it.same l₀ refl refl;
          slot_in = subst (λ (y : Geometry). (i : ℕ) → slots y ≤ i → tally i (used (l₀ ∷ others) v.chain) ≡ 0) (sym d.geometry_is) (slots_inside v d.ready.valid d.name l d.it.same l₀ refl refl);
          valid = stays_valid;
        }

    pub full : NoPlan g t m' z.freed s' c z.asked → (a : List ℕ) → result_of 11 (lent t a []) ≡ written (lent t a []) (release_set v d.name ttr l)
    unfolding draft
    full h a = not_fitting t a _ (given_back (total (runs_of l) - n)) (put_full draft z.asked_is h) ∙ sym (ap (written (lent t a [])) rule_is)

    module _ {p : Plan} (plan : Plans g t m' z.freed s' c x.lowest z.asked p) where
      -- on a copy
      pub cut_foreseen : (a a' : List ℕ) → a' ≡ answer (given_back (x.tracks - n)) → ForeseesAt d (release_of d ttr) a 0 a'
      unfolding draft
      cut_foreseen a a' e =
          back_foreseen t a _ v _ d.ready.bytes (is_w draft z.asked_is plan) a' (total (runs_of l) - n) (e ∙ ap (λ (i : ℕ). answer (given_back (i - n))) y.spread.sum)
          ∙ sym (ap (λ (o : Outcome). written (lent t a []) (on_copy v o)) rule_is)

      -- ---- written: f1 and f3 are the records, copied from the table and then cut

      module _ (old1 old3 f1 f3 : List ℕ) (e : old1 ≡ slot_bytes t k) (there : ThirdIn t x.slot3 old3)
          (short : Shortens g ttr rest.whole rest.type_byte rest.start rest.count old1 old3 f1 f3) where
        records : InRecords g l₀ f1 f3
        records =
            subst (λ (z : Label). InRecords g (with_ttr ttr z) f1 f3) (shortened_is u n (tracks g) rest.whole rest.type_byte rest.start rest.count l kept)
            (short.records l kept.most (copied t v d.ready d.name k d.it g d.geometry_is x.slot3 y.stored.slot3 old1 old3 e there))

        abbrev home : Home
        home = record { slot = x.slot; slot3 = x.slot3; few = few }

        -- what `write_set` asks
        pub puts : Puts g t m' c p home f1 f3
        unfolding draft
        puts =
            record {
              empty_before = z.freed;
              empty_after = s';
              lo = x.lowest;
              asked = z.asked;
              draft = draft;
              asked_is = z.asked_is;
              plan = plan;
              first = records.one;
              third = λ _. records.three;
            }

        pub cut_done : (a t' a' : List ℕ) → ((w : Puts g t m' c p home f1 f3) → Leaves (drafted w.draft) t') → a' ≡ answer (given_back (x.tracks - n))
            → result_of 0 (lent t' a' []) ≡ written (lent t a []) (release_set v d.name ttr l)
        unfolding draft puts
        cut_done a t' a' w ea =
            is_given_back t a _ (total (runs_of l) - n) t' a' (w puts) (ea ∙ ap (λ (i : ℕ). answer (given_back (i - n))) y.spread.sum) ∙ sym (ap (written (lent t a [])) rule_is)
