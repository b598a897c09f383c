-- What is decided of a data set that seeks space, once its pieces are chosen. Assumes nothing.
use mathlib.Core.Path.{◌≡◌, refl, sym, ap, ap₂, ◌∙◌, subst}
use mathlib.Core.Bool.{true, false}
use mathlib.Core.Option as maybe
use mathlib.Core.List.{List, [], map}
use Prim.Native.Nat.{ℕ, ◌≤◌, ◌<◌}
use native.Mathlib.Omega.{arith}
use borrow.Author.Tests.{le-leb, lt-leb}
use lib.Dec.{leb}
use lib.ListN.{length, take}
use Rattle.model.specs.Model.{Extent, Geometry, Label, Run, Volume, extent, overs, total}
use Rattle.rules.specs.Calls.{Outcome, answer, given, grant, granted, joined, longer, on_copy, refuse, settled}
use Rattle.rules.specs.Entries.{lent, result_of, written}
use Rattle.rules.specs.Slots.{settle_with}
use Rattle.rules.specs.Joining.{touches}
use Rattle.rules.proofs.Previews.{uncopied}
use Rattle.choose_pieces.specs.Grant.{rows_in, row}
use Rattle.request.specs.Request.{type_of}
use Rattle.request.proofs.Laws.{Fulfilled, accepted, refused}
use Rattle.set_extents.specs.Change.{InRecords, SetIn, extents_in}
use Rattle.update.specs.declared.Plan.{Plan}
use Rattle.update.specs.Commit.{Leaves}
use Rattle.update.proofs.Replies.{grant_foreseen, is_granted}
use Rattle.std.specs.Prelude.{Option, Result, Ok, Err, Some, None}
use Rattle.refusals.specs.Numbers.{number, number_of}
use Rattle.refusals.specs.declared.Refusal.{Refusal}
use Rattle.refusals.proofs.Laws.{never_none, not_both, same_value}
use Rattle.grant_space.specs.declared.Holder.{Holder}
use Rattle.grant_space.specs.declared.Decision.{Decision}
use Rattle.grant_space.specs.Deciding.{Decides, Planned, Seeks, sought, with_pieces}
use Rattle.grant_space.specs.Granting.{GrantPlans, GrantWrites, Grants, extents_then, first_start, grown, more}
use Rattle.grant_space.proofs.Laws.{count_more, first_taken, grant_full, grant_there}

module _ {g : Geometry} {t m s : List ℕ} {h : Holder} {p : List (List ℕ)} (d : Seeks g t m s h p) where
  abbrev v : Volume
  v = d.volume

  abbrev l : Label
  l = d.label

  abbrev chosen : maybe.Option (List Extent)
  chosen = grant v.geometry v.labels d.option d.amount

  rule_with : (o : maybe.Option (List Extent)) → chosen ≡ o → sought d ≡ given o 9 (with_pieces v d.others l)
  rule_with o e = ap (λ (x : maybe.Option (List Extent)). given x 9 (with_pieces v d.others l)) e

  -- refused: the answer stays as it was
  pub refuses : (a m' c : List ℕ) (e : Refusal) → sought d ≡ refuse (number e) → Decides d a m' c a (Err e)
  refuses a m' c e o =
      record {
        replied = sym (ap (λ (x : Outcome). written (lent t a []) (on_copy v x)) o);
        planned = λ x q. absurd (not_both (sym q));
      }

  module _ (count sum : ℕ) (c : (count ≡ length (rows_in p)) × (sum ≡ total (rows_in p))) where
    pub no_space : count ≡ 0 → sought d ≡ refuse 9
    no_space z = rule_with _ (refused v d.ready.valid d.option d.amount d.asks p d.chosen count sum c z)

    module _ (nz : count ≡ 0 → ⊥) where
      it : Fulfilled v d.option d.amount count sum p
      it = accepted v d.ready.valid d.option d.amount d.asks p d.chosen count sum c nz

      pub count_most : count ≤ 5
      count_most = let a = it.number in let b = it.good.most in omega arith

      pub sum_most : sum ≤ 65535
      sum_most = let a = it.adds in let b = it.good.sum in let c = d.ready.limits.tracks_most in omega arith

      abbrev new : List Extent
      new = map (extent (type_of d.amount)) it.ps

      abbrev set : Holder
      set = record { slot = h.slot; slot3 = h.slot3; extents = h.extents; count = count; type_byte = h.type_byte; joins = h.joins }

      pub count_least : 1 ≤ count
      count_least = let a = it.number in let b = it.good.least in omega arith

      joins_first : h.joins ≡ touches l.extents (first_start (take count p))
      joins_first = d.joins_is ∙ ap (touches l.extents) (sym (first_taken count p count_least))

      together : length (joined l.extents new) ≡ extents_then set
      together =
          let a = count_more (type_of d.amount) l.extents it.ps (take count p) it.first it.good.least h.joins joins_first in
          let b = it.number in
          let c = d.extents_are in
          omega arith

      pub too_many : 16 < extents_then set → sought d ≡ refuse 10
      too_many u =
          let e : leb (length (joined l.extents new)) 16 ≡ false = lt-leb (length (joined l.extents new)) 16 (let w = together in omega arith) in
          rule_with _ it.granted ∙ rw e

      module _ (fits : extents_then set ≤ 16) where
        few_enough : length (joined l.extents new) ≤ 16
        few_enough = let w = together in omega arith

        rule_done : sought d ≡ settled (granted (overs new)) (settle_with v d.others (longer new l))
        rule_done = let e : leb (length (joined l.extents new)) 16 ≡ true = le-leb (length (joined l.extents new)) 16 few_enough in rule_with _ it.granted ∙ rw e

        label_eq : more h.type_byte it.ps l ≡ longer new l
        label_eq = ap (λ (b : ℕ). more b it.ps l) d.type_is

        pub grants : Grants g t m s set (take count p)
        grants =
            record {
              volume = v;
              others = d.others;
              label = l;
              pieces = it.ps;
              ready = d.ready;
              geometry_is = d.geometry_is;
              shown = d.shown;
              slot_is = d.slot_is;
              slot3_is = d.slot3_is;
              extents_are = d.extents_are;
              few = d.few;
              joins_is = joins_first;
              good = it.good;
              rows_are = it.first;
              count_is = it.number;
              held_apart = d.held_apart;
              used_same = d.used_same;
              stays = d.stays;
              valid = λ w e. d.valid new it.granted few_enough w (sym (ap (settle_with v d.others) label_eq) ∙ e);
            }

        outcome : settled (granted it.ps) (settle_with v d.others (more h.type_byte it.ps l)) ≡ sought d
        outcome =
            ap₂ (λ (ps : List Run) (b : Label). settled (granted ps) (settle_with v d.others b)) (sym it.runs) label_eq ∙ sym rule_done

        module _ {m' s' chain : List ℕ} {r : Option Plan} (planned : GrantPlans g t m m' s s' chain set (take count p) r) where
          pub full : r ≡ None → sought d ≡ refuse 11
          unfolding grants
          full e =
              let x = subst (GrantPlans g t m m' s s' chain set (take count p)) e planned in
              sym outcome ∙ ap (settled (granted it.ps)) (grant_full grants x x.plan)

          -- the pieces are granted, and the change is planned
          pub done : {plan : Plan} → r ≡ Some plan → (a a' : List ℕ) → ((ps : List Run) → length ps ≡ count → total ps ≡ sum → take count p ≡ map row ps → a' ≡ answer (granted ps))
              → Decides d a m' chain a' (Ok (record { set = set; plan = plan }))
          unfolding grants
          done q a a' y =
              let x = subst (GrantPlans g t m m' s s' chain set (take count p)) q planned in
              let e : a' ≡ answer (granted it.ps) = y it.ps it.number it.adds it.first in
              let w = grant_there grants x x.plan in
              record {
                replied =
                    grant_foreseen t a (grown grants) v w.0 d.ready.bytes w.1 a' it.ps e
                    ∙ ap (λ (o : Outcome). written (lent t a []) (on_copy v o)) outcome;
                planned = λ i q.
                    subst (Planned d m' chain a') (same_value q) (record {
                      s' = s';
                      slot_same = refl;
                      slot3_same = refl;
                      joins_same = refl;
                      extents_same = refl;
                      least = count_least;
                      few = count_most;
                      most = fits;
                      grants = grants;
                      plans = x;
                      label_is = refl;
                      outcome = outcome;
                      answered = e;
                    });
              }

-- ---- refused, or written: the call

module _ {g : Geometry} {t m s : List ℕ} {h : Holder} {p : List (List ℕ)} (d : Seeks g t m s h p) {a m' c a' : List ℕ} {r : Result Decision Refusal} (x : Decides d a m' c a' r) where
  pub declined : (e : Refusal) → r ≡ Err e → result_of (number e) (lent t a' []) ≡ written (lent t a []) (sought d)
  declined e z =
      uncopied d.volume (lent t a []) (lent t a' []) (number e) (never_none e) (sought d)
      (ap (λ (q : Result Decision Refusal). result_of (number_of q) (lent t a' [])) (sym z) ∙ x.replied)

  module _ {q : Decision} (z : r ≡ Ok q) {f1 f3 : List ℕ} (recs : InRecords g d.label f1 f3) (set_in_lem : SetIn g f1 f3 h.extents) (own : extents_in g f1 f3 h.extents ≡ d.label.extents) where
    abbrev y : Planned d m' c a' q
    y = x.planned q z

    -- what `write_grant` asks
    pub writes : GrantWrites g t m' c q.plan q.set (take q.set.count p) f1 f3
    writes =
        record {
          map_before = m;
          empty_before = s;
          empty_after = y.s';
          grants = y.grants;
          plans = y.plans;
          records = subst (λ (k : Label). InRecords g k f1 f3) (sym y.label_is) recs;
          set = subst (SetIn g f1 f3) (sym y.extents_same) set_in_lem;
          extents = ap (extents_in g f1 f3) y.extents_same ∙ own ∙ ap (λ (k : Label). k.extents) (sym y.label_is);
        }

    pub put : (t' : List ℕ) → ((w : GrantWrites g t m' c q.plan q.set (take q.set.count p) f1 f3) → Leaves (grown w.grants) t')
        → result_of 0 (lent t' a' []) ≡ written (lent t a []) (sought d)
    unfolding writes
    put t' w = is_granted t a _ y.grants.pieces t' a' (w writes) y.answered ∙ ap (written (lent t a [])) y.outcome
