-- Scratch: what is left, and the call. Assumes nothing.
use mathlib.Core.Path.{◌≡◌, refl, sym, ap, ap₂, ◌∙◌, subst}
use mathlib.Core.Option.{Option, some}
use mathlib.Core.List.{List, [], ◌∷◌, ◌++◌, append_assoc}
use Prim.Native.Nat.{ℕ, ◌≤◌}
use Rattle.model.specs.Model.{Extent, Geometry, Label, Volume, held, one_slot, overs, runs_of, slots, slots_of, tally, times, total, tracks, used}
use Rattle.rules.specs.Calls.{accept, answer, given_back, remove_set, settled}
use Rattle.rules.specs.Entries.{lent, result_of, written}
use Rattle.rules.specs.Slots.{settle, without}
use Rattle.rules.specs.Ledger.{removes}
use Rattle.rules.proofs.Changes.{remove_keeps}
use Rattle.rules.proofs.Kept.{Keeps}
use Rattle.rules.specs.Predicates.{Valid}
use Rattle.bitmap.specs.Map.{Shows}
use Rattle.bitmap.proofs.Held.{shows_same}
use Rattle.check_label.specs.Marks.{units}
use Rattle.set_extents.proofs.Laws.{none_kept}
use Rattle.std.specs.Prelude as prelude
use Rattle.update.specs.declared.Plan.{Plan}
use Rattle.update.specs.Commit.{Drops, Leaves, Left, NoPlan, Plans, remains}
use Rattle.update.proofs.Drop.{drop_full}
use Rattle.update.proofs.Replies.{is_given_back, not_fitting}
use Rattle.update.proofs.Sets.{held_apart_lem, others_stay, shows_below, slots_inside, slots_once, slots_shown, used_apart}
use Rattle.free_space.specs.Giving.{At, Measures, measured_extents}
use Rattle.free_space.specs.declared.Measured.{Measured}
use Rattle.free_space.specs.Going.{GoingPlans}

module _ {g : Geometry} {t m s : List ℕ} {k : ℕ} (d : At g t m s k) where
  abbrev v : Volume
  v = d.volume

  abbrev l : Label
  l = d.it.label

  abbrev others : List Label
  others = without d.name v.labels

  abbrev after : Option Volume
  after = settle g v.chain others 0 (λ ks. others)

  module _ {m' s' c : List ℕ} {set : Measured} {r : prelude.Option Plan} (x : GoingPlans g t m m' s s' c k l set r) where
    abbrev y : Measures g t k l set
    y = x.measured

    tracks_shown : Shows m' (tracks g) (held g others)
    tracks_shown =
        let a : Shows m (tracks v.geometry) (runs_of l ++ held v.geometry others) = shows_same m (tracks v.geometry) (held v.geometry v.labels) (runs_of l ++ held v.geometry others) (λ t u. held_apart_lem v d.ready.valid d.name l d.it.same t) d.shown.free_tracks in
        let b : Shows m (tracks g) (runs_of l ++ held g others) = subst (λ (y : Geometry). Shows m (tracks y) (runs_of l ++ held y others)) (sym d.geometry_is) a in
        let c : Shows m (tracks g) (overs (measured_extents g t set) ++ held g others) = subst (λ (es : List Extent). Shows m (tracks g) (overs es ++ held g others)) (sym y.stored.extents) b in
        none_kept g (measured_extents g t set) m m' y.stored.set.good x.tail (tracks g) (held g others) c

    slots_free : Shows x.both_freed (slots g) (units (used others v.chain))
    slots_free =
        let us = used others v.chain in
        let third = set.slot3 in
        let e : slots_of l ++ us ≡ one_slot k ++ (one_slot third ++ us) = ap₂ (λ (i j : ℕ). (one_slot i ++ one_slot j) ++ us) d.it.slot (sym y.stored.slot3) ∙ append_assoc (one_slot k) (one_slot third) us in
        let a : Shows s (slots v.geometry) (units (slots_of l ++ us)) = slots_shown s (slots v.geometry) (used v.labels v.chain) (slots_of l ++ us) (λ i u. used_apart v d.ready.valid d.name l d.it.same i) d.shown.free_slots in
        let b : Shows s (slots g) (units (slots_of l ++ us)) = subst (λ (y : Geometry). Shows s (slots y) (units (slots_of l ++ us))) (sym d.geometry_is) a in
        x.third.freed (slots g) us (x.first.freed (slots g) (one_slot third ++ us) (subst (λ (w : List ℕ). Shows s (slots g) (units w)) e b))

    settle_is : settle v.geometry v.chain others 0 (λ ks. others) ≡ after
    settle_is = ap (λ (y : Geometry). settle y v.chain others 0 (λ ks. others)) (sym d.geometry_is)

    stays_valid : (w : Volume) → after ≡ some w → Valid w
    stays_valid w e =
        let q : remove_set v d.name l ≡ accept (given_back (total (runs_of l))) w = ap (settled (given_back (total (runs_of l)))) (settle_is ∙ e) in
        let y : Keeps v (removes d.name) (accept (given_back (total (runs_of l))) w) = subst (Keeps v (removes d.name)) q (remove_keeps v d.ready.valid d.name l d.it.same) in
        y.valid

    left : Left g t m' x.both_freed set.lowest set.slot set.slot3
    left =
        record {
          volume = v;
          others = others;
          label = l;
          ready = d.ready;
          geometry_is = sym d.geometry_is;
          slot_is = y.slot ∙ sym d.it.slot;
          slot3_is = y.stored.slot3;
          shown_tracks = tracks_shown;
          low_in = y.spread.low_in;
          below =
              shows_below g m' (tracks g) set.lowest v.labels (held g others) (runs_of l) [] y.spread.low_in
              (λ i. subst (λ (y : Geometry). times i (held y v.labels) ≡ times i (runs_of l ++ held y others)) (sym d.geometry_is) (held_apart_lem v d.ready.valid d.name l d.it.same i))
              y.spread.lowest tracks_shown;
          shown_slots = slots_free;
          stays = others_stay v d.ready.valid d.name l d.it.same l refl refl;
          slot_once = slots_once v d.ready.valid d.name l d.it.same l refl refl;
          slot_in = subst (λ (y : Geometry). (i : ℕ) → slots y ≤ i → tally i (used (l ∷ others) v.chain) ≡ 0) (sym d.geometry_is) (slots_inside v d.ready.valid d.name l d.it.same l refl refl);
          valid = stays_valid;
        }

    -- a is the answer before the call
    removed_is : (a : List ℕ) → written (lent t a []) (settled (given_back (total (runs_of l))) after) ≡ written (lent t a []) (remove_set v d.name l)
    removed_is a = sym (ap (λ (o : Option Volume). written (lent t a []) (settled (given_back (total (runs_of l))) o)) settle_is)

    pub full : NoPlan g t m' x.both_freed s' c 0 → (a : List ℕ) → result_of 11 (lent t a []) ≡ written (lent t a []) (remove_set v d.name l)
    unfolding left
    full h a = not_fitting t a after (given_back (total (runs_of l))) (drop_full left h) ∙ removed_is a

    module _ {p : Plan} (plan : Plans g t m' x.both_freed s' c set.lowest 0 p) where
      -- what `write_drop` asks
      pub drops : Drops g t m' c p set.slot set.slot3
      unfolding left
      drops = record { empty_before = x.both_freed; empty_after = s'; lo = set.lowest; left = left; plan = plan }

      pub gone : (a t' a' : List ℕ) → ((z : Drops g t m' c p set.slot set.slot3) → Leaves (remains z.left) t') → a' ≡ answer (given_back set.tracks)
          → result_of 0 (lent t' a' []) ≡ written (lent t a []) (remove_set v d.name l)
      unfolding left drops
      gone a t' a' z e = is_given_back t a after (total (runs_of l)) t' a' (z drops) (e ∙ ap (λ (n : ℕ). answer (given_back n)) y.spread.sum) ∙ removed_is a
