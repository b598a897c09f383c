-- A data set taken out: slots settled and records written make the volume that `settle` leaves. Assumes nothing.
use mathlib.Core.Path.{◌≡◌, refl, sym, ap, ◌∙◌, subst}
use mathlib.Core.Option.{Option, none, some}
use mathlib.Core.List.{List, [], ◌∷◌, ◌++◌}
use Prim.Native.Nat.{ℕ, ◌<◌, min}
use native.Mathlib.Omega.{arith}
use lib.ListN.{length, take, drop}
use lib.Seq.{slice, take-take}
use lib.Dec.{eqb}
use Rattle.update.specs.declared.Plan.{Plan}
use Rattle.model.specs.Basics.{bit}
use Rattle.model.specs.Model.{Geometry, Run, Volume, fives_for, free, held, one_slot, slots, slots_of, tally, tracks, used}
use Rattle.model.proofs.Lists.{sum_append}
use Rattle.model.specs.Predicates.{All}
use Rattle.rules.specs.Layout.{encode, fives}
use Rattle.rules.specs.Reading.{chop}
use Rattle.rules.specs.Slots.{settle}
use Rattle.rules.specs.Predicates.{Valid}
use Rattle.rules.specs.Sound.{Sound}
use Rattle.bitmap.specs.Map.{Shows, free_from}
use Rattle.check_label.specs.Marks.{units}
use Rattle.settle_slots.specs.Settling.{Chained, Settles}
use Rattle.update.specs.Pending.{Pending}
use Rattle.update.specs.Writing.{Reached, cleared, fives_put, four_put}
use Rattle.update.specs.Commit.{Leaves, Left, NoPlan, Plans, remains}
use Rattle.update.proofs.Core.{cleared_both, emptied, finished, settled_chain}
use Rattle.update.proofs.Kept.{Stay, same_chain, stay}
use Rattle.update.proofs.Put.{chain_tail, empty_of, free_of, slots_eq}

module _ {g : Geometry} {t m s : List ℕ} {lo slot third : ℕ} (d : Left g t m s lo slot third) where
  abbrev v : Volume
  v = d.volume

  sound : Sound (chop (slots g) t) v
  sound = subst (λ (x : Geometry). Sound (chop (slots x) t) v) d.geometry_is d.ready.sound

  need_free : (need : ℕ) → need ≡ fives_for (length (free_from m (tracks g) 0)) → need ≡ fives_for (length (free g d.others))
  need_free need e = e ∙ ap (λ (f : List Run). fives_for (length f)) (free_of g m d.others d.shown_tracks)

  -- the chain as it was read
  module _ {blank c : List ℕ} {was : ℕ} (chained : Chained g t blank c was) where
    chain_is : take was c ≡ v.chain
    chain_is = chained.chain v d.geometry_is sound

    slots_shown : Shows s (slots g) (units (used d.others (take was c)))
    slots_shown = subst (λ (x : List ℕ). Shows s (slots g) (units (used d.others x))) (sym chain_is) d.shown_slots

    outcome : (o : Option Volume) → settle g (take was c) d.others 0 (λ ks. d.others) ≡ o → settle g v.chain d.others 0 (λ ks. d.others) ≡ o
    outcome o e = ap (λ (x : List ℕ). settle g x d.others 0 (λ ks. d.others)) (sym chain_is) ∙ e

  -- no plan: the VTOC is full
  pub drop_full : {s' c' : List ℕ} → NoPlan g t m s s' c' 0 → remains d ≡ none
  drop_full n = outcome n.chained none (n.lacks.done d.others (need_free n.need n.need_is) (slots_shown n.chained) (λ ks. d.others))

  module _ {s' c' : List ℕ} {p : Plan} (pl : Plans g t m s s' c' lo 0 p) where
    abbrev c : List ℕ
    c = pl.read

    abbrev was : ℕ
    was = p.was

    abbrev need : ℕ
    need = p.need

    abbrev st : Settles g s s' c c' [] was need 0 p.left
    st = pl.settles

    abbrev w : Volume
    w = record { geometry = g; labels = d.others; chain = take need c' }

    read_chain : take was c ≡ v.chain
    read_chain = chain_is pl.chained

    pub left_shown : Shows s (slots g) (units (used d.others (take was c)))
    left_shown = slots_shown pl.chained

    is_w : settle g v.chain d.others 0 (λ ks. d.others) ≡ some w
    is_w = outcome pl.chained (some w) (st.done d.others (need_free need pl.need_is) left_shown (λ ks. d.others))

    hw : Valid w
    hw = d.valid w is_w

    abbrev freed : List ℕ
    freed = one_slot slot ++ one_slot third

    old_slots : (x : ℕ) → tally x (slots_of d.label) ≡ tally x freed
    old_slots x =
        let a = slots_eq slot d.label.slot third d.label.slot3 x d.slot_is d.slot3_is in
        let b = sum_append (λ y. bit (eqb y x)) (one_slot slot) (one_slot third) in
        omega arith

    pub left_inside : All (λ x. x < slots g) (take need c')
    left_inside = st.inside d.others left_shown

    abbrev from : ℕ
    from = p.from

    abbrev at : ℕ
    at = p.at

    staying : Stay v w m need from at
    staying =
        stay v w d.ready.valid hw (sym d.geometry_is) m lo (min was need) need (omega arith) (subst (λ (x : Geometry). Shows m lo (held x v.labels)) (sym d.geometry_is) d.below)
        (free_of g m d.others d.shown_tracks)
        (same_chain c c' v.chain was need read_chain st.first)
        from at
        (subst (λ (ks : List ℕ). Reached (encode v) ks lo from at) (sym (take-take (min was need) need c' (omega arith)))
        (subst (λ (x : List ℕ). Reached x (take (min was need) c') lo from at) d.ready.bytes pl.reached))

    pub drop_done : (t₁ t₂ t₃ t₄ : List ℕ) → t₁ ≡ cleared t (slice need was c') → t₂ ≡ cleared t₁ (one_slot slot) → t₃ ≡ cleared t₂ (one_slot third)
        → t₄ ≡ four_put g (fives_put g t₃ (fives (drop from (take need c')) (free_from m (tracks g) at))) p.left
        → Leaves (remains d) t₄
    drop_done t₁ t₂ t₃ t₄ e₁ e₂ e₃ e₄ =
        let new = settled_chain g v.chain d.others 0 (λ ks. d.others) w is_w in
        let p₀ : Pending w (drop from w.chain ++ (0 ∷ [])) (cleared (cleared t (drop need v.chain)) freed)
        = emptied v w d.ready.valid hw (sym d.geometry_is) d.label d.others d.stays d.slot_once d.slot_in need new.0
        (new.1 ∙ ap (λ (n : ℕ). take n v.chain ++ new.0) (sym (need_free need pl.need_is))) freed []
        (λ x. let a = old_slots x in omega arith) (λ x. let a = old_slots x in omega arith) (λ x. omega arith)
        (λ x p z. record { first = refl; third = refl }) m from at staying t d.ready.bytes in
        let e : t₃ ≡ cleared (cleared t (drop need v.chain)) freed
        = e₃ ∙ ap (λ (y : List ℕ). cleared y (one_slot third)) (e₂ ∙ ap (λ (y : List ℕ). cleared y (one_slot slot)) (e₁ ∙ ap (cleared t) (chain_tail c c' v.chain was need st.tail read_chain (pl.chained.many v d.geometry_is sound))))
        ∙ cleared_both (cleared t (drop need v.chain)) (one_slot slot) (one_slot third) in (
          w,
          is_w,
          e₄ ∙ finished w hw from (free_from m (tracks g) at) t₃ p.left staying.rest
              (st.left_is d.others left_shown ∙ empty_of w s' (λ k u. let a = st.shown d.others left_shown k u in omega arith))
              (subst (Pending w (drop from w.chain ++ (0 ∷ []))) (sym e) p₀),
        )
