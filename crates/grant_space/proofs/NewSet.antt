-- A new data set gets its pieces: what is refused, and what is put. Assumes nothing.
use mathlib.Core.Path.{◌≡◌, refl, sym, ap, ap₂, ◌∙◌, subst}
use mathlib.Core.Bool.{true, false}
use mathlib.Core.Option.{Option, none, some}
use mathlib.Core.List.{List, [], ◌∷◌}
use Prim.Native.Nat.{ℕ, ◌*◌, ◌≤◌, ◌<◌}
use native.Mathlib.Omega.{arith}
use borrow.Author.Tests.{le-leb}
use lib.Dec.{T, eqb, eqb→eq, leb, leb→le}
use lib.ListN.{length, length-map, take}
use Rattle.model.specs.Choice.{SpaceOption}
use Rattle.model.specs.Model.{Extent, Geometry, Label, Volume, free, held, overs, slots, tracks}
use Rattle.model.proofs.Lists.{and_l, and_r, is_true}
use Rattle.rules.specs.Calls.{Amount, Outcome, absolute, allocate_by, allocate_pieces, given, granted, in_cylinders, in_range, in_tracks, new_set, on_copy, settled, unit_of, grant as granting}
use Rattle.rules.specs.Entries.{result_of, lent, written}
use Rattle.rules.specs.Ledger.{adds}
use Rattle.rules.specs.Reading.{read, read_extents}
use Rattle.rules.specs.Slots.{settle_with}
use Rattle.rules.proofs.Grant.{range_asks}
use Rattle.rules.specs.Predicates.{Asks, Limits, Valid}
use Rattle.rules.proofs.Grants.{allocate_by_keeps}
use Rattle.rules.proofs.Kept.{Keeps}
use Rattle.rules.proofs.Settle.{used_tally}
use Rattle.bitmap.specs.Map.{Shows}
use Rattle.choose_pieces.specs.Grant.{grant_of}
use Rattle.dscb_write.specs.Labels.{Format1, Format3, new_label}
use Rattle.request.specs.Request.{pieces_of, type_of}
use Rattle.request.proofs.Laws.{fulfilled_good}
use Rattle.set_extents.specs.Change.{InRecords, SetIn, extents_in}
use Rattle.open_table.specs.Opening.{Ready}
use Rattle.open_table.proofs.Laws.{ready}
use Rattle.free_extents.specs.FreeList.{Listed}
use Rattle.free_extents.proofs.Chain.{runs_listed}
use Rattle.open_table.proofs.Lookup.{limits_of, table_long}
use Rattle.update.specs.Commit.{Leaves}
use Rattle.std.specs.Prelude.{Result, Ok, Err}
use Rattle.refusals.specs.Numbers.{number, number_of}
use Rattle.refusals.specs.declared.Refusal.{Refusal}
use Rattle.grant_space.specs.declared.Decision.{Decision}
use Rattle.grant_space.specs.declared.Holder.{Holder}
use Rattle.grant_space.specs.Granting.{GrantWrites, grown}
use Rattle.grant_space.specs.Deciding.{Decides, Planned, Seeks, sought, with_pieces}
use Rattle.grant_space.specs.Asking.{Asking, Chooses, Foresees, asking, choice}
use Rattle.grant_space.proofs.Decided.{declined, put, writes}

range_secondary : (g : Geometry) (sec : ℕ) (a : Amount) → T (in_range g sec a) → sec < 16777216
range_secondary g sec (in_tracks n) r = let p : T (leb sec 16777215) = search (and_l, and_r) depth 9 in let q = leb→le sec 16777215 p in omega arith
range_secondary g sec (in_cylinders n) r = let p : T (leb sec 16777215) = search (and_l, and_r) depth 9 in let q = leb→le sec 16777215 p in omega arith
range_secondary g sec (absolute s n) r = let p : T (eqb sec 0) = search (and_l, and_r) depth 9 in let q = eqb→eq sec 0 p in omega arith

module _ {t m s name at a : List ℕ} {g : Geometry} {o : SpaceOption} {amount : Amount} {sec : ℕ} (d : Asking t m s name at a g o amount sec) where
  abbrev v : Volume
  v = read t

  abbrev ls : List Label
  ls = v.labels

  is_ready : Ready t v
  is_ready = ready t d.is_taken

  pub limits : Limits g
  limits = limits_of t d.is_taken g d.geometry_is

  pub long : length t ≡ 140 * slots g
  long = table_long t d.is_taken g d.geometry_is

  pub asks : Asks g amount
  asks = range_asks g sec amount d.ranges

  pub secondary_fits : sec < 16777216
  secondary_fits = range_secondary g sec amount d.ranges

  shows : Shows m (tracks g) (held g ls)
  shows = subst (λ (y : Geometry). Shows m (tracks y) (held y ls)) (sym d.geometry_is) d.shown.free_tracks

  pub lists : Listed g t (free g ls)
  lists = subst (λ (y : Geometry). Listed y t (free y ls)) (sym d.geometry_is) (runs_listed t v is_ready.sound)

  -- the map is as long as it was
  pub map_fits_lem : (n : ℕ) → n ≡ length m → tracks g ≤ 64 * n
  map_fits_lem n e = let h = d.map_fits in omega arith

  -- ---- the rule, as far as it goes

  abbrev chosen : Option (List Extent)
  chosen = granting v.geometry ls o amount

  rule_is : allocate_by v (asking name at sec) amount o ≡ given chosen 9 (allocate_pieces v (asking name at sec) amount)
  rule_is =
      let p : in_range v.geometry sec amount ≡ true = is_true (subst (λ (y : Geometry). T (in_range y sec amount)) d.geometry_is d.ranges) in
      let q = d.name_new in
      rw (p, q)

  abbrev new : List Extent → Label
  new es = new_set (asking name at sec) amount es

  new_valid : (es : List Extent) → chosen ≡ some es → (w : Volume) → settle_with v ls (new es) ≡ some w → Valid w
  new_valid es c w e =
      (subst (Keeps v (adds name (unit_of amount)))
      (rule_is ∙ ap (λ (x : Option (List Extent)). given x 9 (allocate_pieces v (asking name at sec) amount)) c ∙ ap (settled (granted (overs es))) e)
      (allocate_by_keeps v is_ready.valid (asking name at sec) d.long_name d.name_good d.long_attributes amount o)).valid

  -- ---- the data set that seeks the pieces

  abbrev bare : Label
  bare = new_label name at (unit_of amount) sec

  abbrev there : Volume → List Extent → Outcome
  there u es = allocate_pieces u (asking name at sec) amount es

  asks_there : Asks v.geometry amount
  asks_there = subst (λ (y : Geometry). Asks y amount) d.geometry_is asks

  -- a new data set never has more than 16 extents
  few_pieces : (es : List Extent) → chosen ≡ some es → length es ≤ 5
  few_pieces es c = let a = (fulfilled_good v is_ready.valid o amount es asks_there c).most in let b = length-map es (λ e. e.over) in omega arith

  choice_is : (x : Option (List Extent)) → chosen ≡ x → given x 9 (with_pieces v ls bare) ≡ given x 9 (there v)
  choice_is none c = refl
  choice_is (some es) c = let e : leb (length es) 16 ≡ true = le-leb (length es) 16 (let a = few_pieces es c in omega arith) in rw e

  module _ {p : List (List ℕ)} (f : (ls : List Label) → Shows m (tracks g) (held g ls) → Listed g t (free g ls) → p ≡ grant_of (pieces_of g ls o amount))
      (h : Holder) (e : (h.slot ≡ 0) × (h.slot3 ≡ 0) × (h.extents ≡ 0) × (h.joins ≡ false) × (h.type_byte ≡ type_of amount)) where
    pub seeks : Seeks g t m s h p
    seeks =
        record {
          volume = v;
          others = ls;
          label = bare;
          option = o;
          amount = amount;
          ready = is_ready;
          geometry_is = sym d.geometry_is;
          shown = d.shown;
          slot_is = e.0;
          slot3_is = e.1;
          extents_are = sym e.2;
          few = λ _. refl;
          joins_is = e.3;
          asks = asks_there;
          type_is = e.4;
          chosen = f ls shows lists ∙ ap (λ (y : Geometry). grant_of (pieces_of y ls o amount)) d.geometry_is;
          held_apart = λ k. refl;
          used_same = λ k. let x = used_tally ls v.chain k in let y = used_tally (bare ∷ ls) v.chain k in omega arith;
          stays = λ k u z. record { first = refl; third = refl };
          valid = λ es c u w q. new_valid es c w q;
        }

    volume_is : seeks.volume ≡ v
    unfolding seeks
    volume_is = refl

    sought_is : sought seeks ≡ choice t name at o amount sec
    unfolding seeks
    sought_is = choice_is chosen refl

    -- ---- what is decided, and what is written

    module _ {m' c a' : List ℕ} {r : Result Decision Refusal} (x : (y : Seeks g t m s h p) → Decides y a m' c a' r) where
      pub foreseen : (n : ℕ) → n ≡ number_of r → Foresees t name at a o amount sec n a'
      foreseen n z = ap (λ (k : ℕ). result_of k (lent t a' [])) z ∙ (x seeks).replied ∙ ap₂ (λ (w : Volume) (q : Outcome). written (lent t a []) (on_copy w q)) volume_is sought_is

      pub declines : (e : Refusal) → r ≡ Err e → Chooses t name at a o amount sec (number e) t a'
      declines e z = declined seeks (x seeks) e z ∙ ap (written (lent t a [])) sought_is

      module _ {q : Decision} (z : r ≡ Ok q) where
        pub planned : Planned seeks m' c a' q
        planned = (x seeks).planned q z

        module _ (unit : ℕ) (eu : unit ≡ unit_of amount) (f1 f3 : List ℕ)
            (written1 : (g : Geometry) → Format1 g (new_label name at unit sec) f1) (written3 : (g : Geometry) (l : Label) → length l.extents ≤ 3 → Format3 g l f3)
            (long1 : length f1 ≡ 140) (long3 : length f3 ≡ 140) where
          records : InRecords g seeks.label f1 f3
          unfolding seeks
          records =
              record {
                one = subst (λ (u : ℕ). Format1 g (new_label name at u sec) f1) eu (written1 g);
                three = written3 g bare (omega arith);
              }

          set_in_lem : SetIn g f1 f3 h.extents
          unfolding read_extents
          set_in_lem = subst (SetIn g f1 f3) (sym e.2) (record { limits = limits; long1 = long1; long3 = long3; most = omega arith; good = tt })

          none_yet : extents_in g f1 f3 h.extents ≡ seeks.label.extents
          unfolding seeks read_extents
          none_yet = ap (extents_in g f1 f3) e.2

          -- what `write_grant` asks
          pub grant_writes_lem : GrantWrites g t m' c q.plan q.set (take q.set.count p) f1 f3
          grant_writes_lem = writes seeks (x seeks) z records set_in_lem none_yet

          pub placed : (t' : List ℕ) → ((w : GrantWrites g t m' c q.plan q.set (take q.set.count p) f1 f3) → Leaves (grown w.grants) t') → Chooses t name at a o amount sec 0 t' a'
          placed t' w = put seeks (x seeks) z records set_in_lem none_yet t' w ∙ ap (written (lent t a [])) sought_is
