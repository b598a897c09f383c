-- A data set gets more pieces: what is refused, and what is put. Assumes nothing.
use mathlib.Core.Path.{◌≡◌, refl, sym, ap, ap₂, ◌∙◌, subst}
use mathlib.Core.Bool.{Bool, true, false, cond}
use mathlib.Core.Option.{Option, some}
use mathlib.Core.List.{List, [], ◌++◌}
use Prim.Native.Nat.{ℕ, ◌*◌, ◌≤◌, ◌<◌}
use native.Mathlib.Omega.{arith}
use borrow.Author.Tests.{le-leb, lt-leb}
use lib.Dec.{eqb, leb}
use lib.ListN.{length, take, get_or}
use Rattle.model.specs.Basics.{get3}
use Rattle.model.specs.Choice.{SpaceOption}
use Rattle.model.specs.Model.{Extent, Geometry, Label, Volume, free, held, overs, runs_of, slots, times, tracks}
use Rattle.rules.specs.Calls.{Amount, Outcome, accept, extend_pieces, extend_set, given, granted, in_cylinders, in_tracks, joined, longer, on_copy, secondary_of, grant as granting}
use Rattle.rules.specs.Entries.{lent, result_of, written}
use Rattle.rules.specs.Joining.{touches}
use Rattle.rules.specs.Ledger.{appends}
use Rattle.rules.specs.Reading.{read}
use Rattle.rules.specs.Slots.{settle_with, without}
use Rattle.rules.specs.Predicates.{Asks, GoodLabel, Limits, Valid}
use Rattle.rules.proofs.Grants.{extend_keeps}
use Rattle.rules.proofs.Kept.{Keeps}
use Rattle.rules.proofs.Previews.{copied}
use Rattle.bitmap.specs.Map.{Shows}
use Rattle.choose_pieces.specs.Grant.{grant_of}
use Rattle.request.specs.declared.Request.{Request as Asked}
use Rattle.choose_pieces.specs.Options.{to_option}
use Rattle.request.specs.Request.{pieces_of, to_amount, type_of}
use Rattle.refusals.proofs.Laws.{never_none}
use Rattle.request.proofs.Laws.{secondary_asks}
use Rattle.set_extents.proofs.Laws.{secondary_is, unit_is_lem}
use Rattle.set_extents.specs.Change.{InRecords, SetIn, extents_in}
use Rattle.data_set.specs.Held.{SetAt}
use Rattle.data_set.proofs.Stored.{KnownSet, known}
use Rattle.open_table.specs.Opening.{Ready}
use Rattle.open_table.proofs.Laws.{ready}
use Rattle.free_extents.specs.FreeList.{Listed}
use Rattle.free_extents.proofs.Chain.{runs_listed}
use Rattle.open_table.proofs.Lookup.{limits_of, table_long}
use Rattle.update.proofs.Sets.{held_apart_lem, others_stay, slots_same}
use Rattle.update.specs.Commit.{Leaves}
use Rattle.std.specs.Prelude.{Result, Ok, Err}
use Rattle.refusals.specs.Numbers.{number, number_of}
use Rattle.refusals.specs.declared.Refusal.{Refusal}
use Rattle.grant_space.specs.declared.Decision.{Decision}
use Rattle.grant_space.specs.declared.Holder.{Holder}
use Rattle.grant_space.specs.Granting.{GrantWrites, first_start, grown}
use Rattle.grant_space.specs.Deciding.{Decides, Planned, Seeks, sought, with_pieces}
use Rattle.grant_space.specs.Longer.{AsksMore, ExtendForeseen, Extended, Longer}
use Rattle.grant_space.proofs.Decided.{declined, put, writes}

module _ {t m s a : List ℕ} {g : Geometry} {k : ℕ} (d : Longer t m s a g k) where
  abbrev v : Volume
  v = read t

  abbrev l : Label
  l = d.there.label

  abbrev name : List ℕ
  name = d.name

  abbrev others : List Label
  others = without name v.labels

  is_ready : Ready t v
  is_ready = ready t d.is_taken

  pub limits : Limits g
  limits = limits_of t d.is_taken g d.geometry_is

  pub long : length t ≡ 140 * slots g
  long = table_long t d.is_taken g d.geometry_is

  pub inside : k < slots g
  inside = let x = d.there.records.inside in let y = d.there.slot in let z = ap slots d.geometry_is in omega arith

  shows : Shows m (tracks g) (held g v.labels)
  shows = subst (λ (y : Geometry). Shows m (tracks y) (held y v.labels)) (sym d.geometry_is) d.shown.free_tracks

  -- the map is as long as it was
  pub map_fits_lem : (n : ℕ) → n ≡ length m → tracks g ≤ 64 * n
  map_fits_lem n e = let h = d.map_fits in omega arith

  pub lists : Listed g t (free g v.labels)
  lists = subst (λ (y : Geometry). Listed y t (free y v.labels)) (sym d.geometry_is) (runs_listed t v is_ready.sound)

  good : GoodLabel g l
  good = subst (λ (y : Geometry). GoodLabel y l) (sym d.geometry_is) d.there.records.good

  held_there : (j : ℕ) → times j (held g v.labels) ≡ times j (runs_of l ++ held g others)
  held_there =
      subst (λ (y : Geometry). (j : ℕ) → times j (held y v.labels) ≡ times j (runs_of l ++ held y others)) (sym d.geometry_is)
      (held_apart_lem v is_ready.valid name l d.there.same)

  module _ {one three : List ℕ} {count third : ℕ} (x : SetAt g t k one three count third) where
    it : KnownSet g l one three count third
    it = known t v is_ready name k d.there one three count third g d.geometry_is x

    pub third_inside : third < slots g
    third_inside = x.inside

    pub known_set : SetIn g one three count
    known_set = it.set

    pub one_long : length one ≡ 140
    one_long = it.set.long1

    pub three_long : length three ≡ 140
    three_long = it.set.long3

    pub extents_most : count ≤ 16
    extents_most = let a = it.many in let b = good.most in omega arith

    sec_is : get3 one 95 ≡ l.secondary
    sec_is = secondary_is g l good one three it.records.one.bytes it.set.long3 (λ _. it.records.three)

    module _ {asked : Result Asked Refusal} (more : AsksMore one asked) where
      pub no_secondary : (r : Refusal) → asked ≡ Err r → Extended d (number r) t a
      no_secondary r z =
          let n = more.none r z in
          let e : leb 1 l.secondary ≡ false = lt-leb 1 l.secondary (let i = sec_is in let j = n.1 in omega arith) in
          ap (λ (k : ℕ). result_of k (lent t a [])) n.0 ∙ rw e

      pub no_secondary_foreseen : (r : Refusal) → asked ≡ Err r → ExtendForeseen d (number r) a
      no_secondary_foreseen r z = copied v (lent t a []) (lent t a []) (number r) (never_none r) (extend_set v name l) (no_secondary r z)

      module _ {need : Asked} (z : asked ≡ Ok need) where
        abbrev o : SpaceOption
        o = to_option need.option

        abbrev q : Amount
        q = to_amount need.amount

        amount_is_lem : q ≡ secondary_of l
        amount_is_lem =
            more.amount_is need z
            ∙ ap₂ (λ (u n : ℕ). cond (eqb u 0xC0) (in_cylinders n) (in_tracks n))
            (unit_is_lem g l good one three it.records.one.bytes it.set.long3 (λ _. it.records.three)) sec_is

        pub asks : Asks g q
        asks = subst (Asks g) (sym (more.amount_is need z)) (secondary_asks g (get_or one 94 0) (get3 one 95) (more.some need z))

        abbrev chosen : Option (List Extent)
        chosen = granting v.geometry v.labels o q

        rule_is : extend_set v name l ≡ given chosen 9 (with_pieces v others l)
        rule_is =
            let e : leb 1 l.secondary ≡ true = le-leb 1 l.secondary (let i = sec_is in let w = more.some need z in omega arith) in
            rw e (ap₂ (λ (x : SpaceOption) (y : Amount). given (granting v.geometry v.labels x y) 9 (extend_pieces v name l)) (sym (more.option_is need z)) (sym amount_is_lem))

        new_valid : (es : List Extent) → chosen ≡ some es → length (joined l.extents es) ≤ 16
            → (w : Volume) → settle_with v others (longer es l) ≡ some w → Valid w
        new_valid es c u w e =
            let few : leb (length (joined l.extents es)) 16 ≡ true = le-leb (length (joined l.extents es)) 16 u in
            let done : with_pieces v others l es ≡ accept (granted (overs es)) w = rw (few, e) in
            (subst (Keeps v (appends name)) (rule_is ∙ ap (λ (x : Option (List Extent)). given x 9 (with_pieces v others l)) c ∙ done)
            (extend_keeps v is_ready.valid name l d.there.same)).valid

        module _ {p : List (List ℕ)} (f : (ls : List Label) → Shows m (tracks g) (held g ls) → Listed g t (free g ls) → p ≡ grant_of (pieces_of g ls o q))
            {joins : Bool} (jo : joins ≡ touches (extents_in g one three count) (first_start p)) (h : Holder) (eh : (h.slot ≡ k) × (h.slot3 ≡ third) × (h.extents ≡ count) × (h.joins ≡ joins) × (h.type_byte ≡ type_of q)) where
          pub seeks : Seeks g t m s h p
          seeks =
              record {
                volume = v;
                others = others;
                label = l;
                option = o;
                amount = q;
                ready = is_ready;
                geometry_is = sym d.geometry_is;
                shown = d.shown;
                slot_is = eh.0 ∙ sym d.there.slot;
                slot3_is = eh.1 ∙ it.slot3;
                extents_are = sym (eh.2 ∙ it.many);
                few = good.few;
                joins_is = eh.3 ∙ jo ∙ ap (λ (es : List Extent). touches es (first_start p)) it.extents;
                asks = subst (λ (y : Geometry). Asks y q) d.geometry_is asks;
                type_is = eh.4;
                chosen = f v.labels shows lists ∙ ap (λ (y : Geometry). grant_of (pieces_of y v.labels o q)) d.geometry_is;
                held_apart = held_there;
                used_same = slots_same v is_ready.valid name l d.there.same l refl refl;
                stays = others_stay v is_ready.valid name l d.there.same l refl refl;
                valid = new_valid;
              }

          volume_is : seeks.volume ≡ v
          unfolding seeks
          volume_is = refl

          sought_is : sought seeks ≡ extend_set v name l
          unfolding seeks
          sought_is = sym rule_is

          -- ---- what is decided, and what is written

          module _ {m' c a' : List ℕ} {r : Result Decision Refusal} (y : (u : Seeks g t m s h p) → Decides u a m' c a' r) where
            pub foreseen : (n : ℕ) → n ≡ number_of r → ExtendForeseen d n a'
            foreseen n z = ap (λ (k : ℕ). result_of k (lent t a' [])) z ∙ (y seeks).replied ∙ ap₂ (λ (w : Volume) (u : Outcome). written (lent t a []) (on_copy w u)) volume_is sought_is

            pub declines : (e : Refusal) → r ≡ Err e → Extended d (number e) t a'
            declines e z = declined seeks (y seeks) e z ∙ ap (written (lent t a [])) sought_is

            module _ {w : Decision} (rz : r ≡ Ok w) where
              pub planned : Planned seeks m' c a' w
              planned = (y seeks).planned w rz

              records : InRecords g seeks.label one three
              unfolding seeks
              records = it.records

              set_in_lem : SetIn g one three h.extents
              set_in_lem = subst (SetIn g one three) (sym eh.2) it.set

              own : extents_in g one three h.extents ≡ seeks.label.extents
              unfolding seeks
              own = ap (extents_in g one three) eh.2 ∙ it.extents

              -- what `write_grant` asks
              pub grant_writes_lem : GrantWrites g t m' c w.plan w.set (take w.set.count p) one three
              grant_writes_lem = writes seeks (y seeks) rz records set_in_lem own

              pub lengthened : (t' : List ℕ) → ((w : GrantWrites g t m' c w.plan w.set (take w.set.count p) one three) → Leaves (grown w.grants) t') → Extended d 0 t' a'
              lengthened t' w = put seeks (y seeks) rz records set_in_lem own t' w ∙ ap (written (lent t a [])) sought_is
