-- A data set put or changed: slots settled and records written make the volume that `settle_with` leaves. Assumes nothing.
use mathlib.Core.Path.{◌≡◌, refl, sym, ap, ap₂, ◌∙◌, subst}
use mathlib.Core.Bool.{Bool, true, false, cond}
use mathlib.Core.Option.{Option, none, some}
use mathlib.Core.List.{List, [], ◌∷◌, ◌++◌}
use Prim.Native.Nat.{ℕ, zero, suc, ◌+◌, ◌*◌, ◌≤◌, ◌<◌, min}
use native.Mathlib.Nat.{lt_of_not-le}
use native.Mathlib.Decide.{dec_le}
use native.Mathlib.Omega.{arith}
use lib.ListN.{length, take, drop, get_or, length-take, drop_of_length-le}
use lib.Seq.{get_or-take, slice, take-take}
use lib.Dec.{eqb}
use borrow.Author.Tests.{eq-eqb}
use Rattle.update.specs.declared.Plan.{Plan}
use Rattle.model.specs.Basics.{bit, flat}
use Rattle.model.specs.Model.{Geometry, Label, Run, Volume, fives_for, format0s, free, held, one_slot, runs_of, slots, slots_of, tally, times, total, tracks, used}
use Rattle.model.proofs.Lists.{All_drop, All_map, sum_append}
use Rattle.model.specs.Predicates.{All}
use Rattle.rules.specs.Layout.{encode, fives, format3}
use Rattle.rules.specs.Reading.{chop}
use Rattle.rules.specs.Slots.{asked_by, asks, insert_label, kept3, placed, settle, settle_with, slot_or, with_slots}
use Rattle.rules.specs.Table.{few_extents}
use Rattle.rules.proofs.Labels.{insert_sum}
use Rattle.rules.proofs.Placed.{Fits, fits, tally_nonzero}
use Rattle.rules.proofs.Settle.{free_same, used_tally}
use Rattle.rules.proofs.Valid.{held_times, slots_tally}
use Rattle.rules.specs.Predicates.{Valid}
use Rattle.rules.specs.Sound.{Sound}
use Rattle.bitmap.specs.Map.{Shows, free_bit, free_from}
use Rattle.bitmap.proofs.Held.{free_gaps}
use Rattle.check_label.specs.Marks.{units}
use Rattle.dscb_write.specs.Labels.{Format3}
use Rattle.check_table.proofs.Unused.{count_unused}
use Rattle.settle_slots.specs.Settling.{Chained, Settles}
use Rattle.update.proofs.Started.{alike_come}
use Rattle.update.specs.Writing.{Reached, cleared, fives_put, four_put, label_put}
use Rattle.update.proofs.Changed.{label_pending}
use Rattle.update.specs.Commit.{Draft, Leaves, NoPlan, Plans}
use Rattle.update.proofs.Core.{emptied, finished, settled_chain}
use Rattle.update.proofs.Kept.{Stay, same_chain, stay}

pub free_of : (g : Geometry) (m : List ℕ) (ls : List Label) → Shows m (tracks g) (held g ls) → free_from m (tracks g) 0 ≡ free g ls
unfolding free
free_of g m ls h = free_gaps m (tracks g) (held g ls) h

-- the end of the old chain, which is not needed
pub chain_tail : (c c' ks : List ℕ) (was need : ℕ) → (need ≤ was → c' ≡ c) → take was c ≡ ks → was ≡ length ks → slice need was c' ≡ drop need ks
chain_tail c c' ks was need h e l =
    elim (dec_le need was) [
      | yes u ↦ ap (λ (x : List ℕ). drop need (take was x)) (h u) ∙ ap (drop need) e
      | no u ↦
          let p = lt_of_not-le u in
          drop_of_length-le (take was c') {i = need} (let q = length-take was c' in omega arith) ∙ sym (drop_of_length-le ks {i = need} (omega arith))
    ]

-- its slots are slots of the table
pub tail_inside : (c c' : List ℕ) (was need n k : ℕ) → (need ≤ was → c' ≡ c) → All (λ x. x < n) (take was c) → k ≡ 140 * n → All (λ x. 140 * x + 140 ≤ k) (slice need was c')
tail_inside c c' was need n k h a e =
    All_map (λ x. x < n) (λ x. 140 * x + 140 ≤ k) (λ x u. omega arith) (slice need was c')
    (elim (dec_le need was) [
      | yes u ↦ subst (λ (x : List ℕ). All (λ y. y < n) (drop need (take was x))) (sym (h u)) (All_drop (λ x. x < n) need (take was c) a)
      | no u ↦
          let p = lt_of_not-le u in
          subst (All (λ x. x < n)) (sym (drop_of_length-le (take was c') {i = need} (let q = length-take was c' in omega arith))) tt
    ])

-- how many slots are empty in the volume that is left
pub empty_of : (w : Volume) (s : List ℕ) → ((k : ℕ) → k < slots w.geometry → free_bit s k + tally k (used w.labels w.chain) ≡ 1)
    → total (free_from s (slots w.geometry) 0) ≡ length (format0s w)
unfolding format0s
empty_of w s h = count_unused s (slots w.geometry) (used w.labels w.chain) h

one_self : (k : ℕ) → 1 ≤ k → tally k (one_slot k) ≡ 1
one_self zero p = absurd (omega arith)
one_self (suc k) p = let b = ap bit (eq-eqb (suc k) (suc k) refl) in omega arith

one_le : (x k : ℕ) → tally x (one_slot k) ≤ tally x (k ∷ [])
one_le x zero = omega arith
one_le x (suc k) = omega arith

first_in : (slot new x : ℕ) → tally x (one_slot slot) ≤ tally x (slot_or slot new ∷ [])
first_in zero new x = omega arith
first_in (suc k) new x = omega arith

third_in : (few : Bool) (third new x : ℕ) → tally x (one_slot third) ≤ tally x (one_slot (cond few third 0)) + tally x (one_slot (cond few 0 (slot_or third new)))
third_in true third new x = omega arith
third_in false zero new x = omega arith
third_in false (suc q) new x = omega arith

freed_in : (few : Bool) (third x : ℕ) → tally x (one_slot (cond few third 0)) ≤ tally x (one_slot third)
freed_in true third x = omega arith
freed_in false third x = omega arith

-- what is given stands in the first places
first_given : (few : Bool) (slot third : ℕ) (ds : List ℕ) → slot_or slot (get_or (take (asks slot + cond few 0 (asks third)) ds) 0 0) ≡ slot_or slot (get_or ds 0 0)
first_given few zero third ds = get_or-take (1 + cond few 0 (asks third)) ds 0 0 (omega arith)
first_given few (suc k) third ds = refl

third_given : (few : Bool) (slot third : ℕ) (ds : List ℕ)
    → cond few 0 (slot_or (cond few 0 third) (get_or (take (asks slot + cond few 0 (asks third)) ds) (asks slot) 0)) ≡ cond few 0 (slot_or third (get_or ds (asks slot) 0))
third_given true slot third ds = refl
third_given false slot zero ds = get_or-take (asks slot + 1) ds (asks slot) 0 (omega arith)
third_given false slot (suc q) ds = refl

asks_same : (few : Bool) (third : ℕ) → cond few 0 (asks third) ≡ cond few 0 (asks (cond few 0 third))
asks_same true third = refl
asks_same false third = refl

asks_most : (few : Bool) (slot third : ℕ) → asks slot + cond few 0 (asks third) ≤ 2
asks_most true zero third = omega arith
asks_most true (suc k) third = omega arith
asks_most false zero zero = omega arith
asks_most false zero (suc q) = omega arith
asks_most false (suc k) zero = omega arith
asks_most false (suc k) (suc q) = omega arith

-- the same numbers, as the label has them
asked_eq : (few few' : Bool) (slot slot' third third' : ℕ) → slot ≡ slot' → third ≡ third' → few ≡ few'
    → asks slot + cond few 0 (asks third) ≡ asks slot' + cond few' 0 (asks (cond few' 0 third'))
asked_eq few few' slot slot' third third' a b c = rw (a, b, c) (ap (λ (n : ℕ). asks slot' + n) (asks_same few' third'))

third_eq : (few few' : Bool) (slot slot' third third' : ℕ) (ds : List ℕ) → slot ≡ slot' → third ≡ third' → few ≡ few'
    → cond few' 0 (slot_or (cond few' 0 third') (get_or (take (asks slot + cond few 0 (asks third)) ds) (asks slot') 0)) ≡ cond few 0 (slot_or third (get_or ds (asks slot) 0))
third_eq few few' slot slot' third third' ds a b c = rw (a, b, c) (third_given few' slot' third' ds)

pub slots_eq : (slot slot' third third' x : ℕ) → slot ≡ slot' → third ≡ third' → tally x (one_slot slot' ++ one_slot third') ≡ tally x (one_slot slot) + tally x (one_slot third)
slots_eq slot slot' third third' x a b = rw (a, b) (sum_append (λ y. bit (eqb y x)) (one_slot slot') (one_slot third'))

module _ {g : Geometry} {t m s : List ℕ} {lo slot third : ℕ} {few : Bool} (d : Draft g t m s lo slot third few)
    {asked : ℕ} (Asked-is : asked ≡ asks slot + cond few 0 (asks third)) where
  abbrev v : Volume
  v = d.volume

  abbrev l₀ : Label
  l₀ = d.label

  abbrev l : Label
  l = kept3 l₀

  abbrev draft : List Label
  draft = l ∷ d.others

  sound : Sound (chop (slots g) t) v
  sound = subst (λ (x : Geometry). Sound (chop (slots x) t) v) d.geometry_is d.ready.sound

  asked_here : asked ≡ asked_by l
  asked_here = Asked-is ∙ asked_eq few (few_extents l₀) slot l₀.slot third l₀.slot3 d.slot_is d.slot3_is d.few_is

  need_free : (need : ℕ) → need ≡ fives_for (length (free_from m (tracks g) 0)) → need ≡ fives_for (length (free g draft))
  need_free need e = e ∙ ap (λ (f : List Run). fives_for (length f)) (free_of g m draft d.shown_tracks)

  -- the chain as it was read
  module _ {blank c : List ℕ} {was : ℕ} (chained : Chained g t blank c was) where
    chain_is : take was c ≡ v.chain
    chain_is = chained.chain v d.geometry_is sound

    slots_shown : Shows s (slots g) (units (used draft (take was c)))
    slots_shown = subst (λ (x : List ℕ). Shows s (slots g) (units (used draft x))) (sym chain_is) d.shown_slots

    outcome : (o : Option Volume) → settle g (take was c) draft asked (λ js. insert_label (placed js l) d.others) ≡ o → settle_with v d.others l₀ ≡ o
    outcome o e =
        ap (λ (x : Geometry). settle x v.chain draft (asked_by l) (λ js. insert_label (placed js l) d.others)) d.geometry_is
        ∙ ap (λ (n : ℕ). settle g v.chain draft n (λ js. insert_label (placed js l) d.others)) (sym asked_here)
        ∙ ap (λ (x : List ℕ). settle g x draft asked (λ js. insert_label (placed js l) d.others)) (sym chain_is)
        ∙ e

  -- no plan: the VTOC is full
  pub put_full : {s' c' : List ℕ} → NoPlan g t m s s' c' asked → settle_with v d.others l₀ ≡ none
  put_full n = outcome n.chained none (n.lacks.done draft (need_free n.need n.need_is) (slots_shown n.chained) (λ js. insert_label (placed js l) d.others))

  module _ {s' c' : List ℕ} {p : Plan} (pl : Plans g t m s s' c' lo asked p) where
    abbrev c : List ℕ
    c = pl.read

    abbrev d' : List ℕ
    d' = p.given

    abbrev was : ℕ
    was = p.was

    abbrev need : ℕ
    need = p.need

    abbrev ks : List ℕ
    ks = take asked d'

    abbrev st : Settles g s s' c c' ks was need asked p.left
    st = pl.settles

    abbrev w : Volume
    w = record { geometry = g; labels = insert_label (placed ks l) d.others; chain = take need c' }

    pub read_chain : take was c ≡ v.chain
    read_chain = chain_is pl.chained

    pub shown : Shows s (slots g) (units (used draft (take was c)))
    shown = slots_shown pl.chained

    settled : settle g (take was c) draft asked (λ js. insert_label (placed js l) d.others) ≡ some w
    settled = st.done draft (need_free need pl.need_is) shown (λ js. insert_label (placed js l) d.others)

    -- the volume that is left: there is one
    pub is_w : settle_with v d.others l₀ ≡ some w
    is_w = outcome pl.chained (some w) settled

    hw : Valid w
    hw = d.valid w is_w

    given : (k : ℕ) → k < slots g → free_bit s' k + (tally k (used draft (take need c')) + tally k ks) ≡ 1
    given = st.shown draft shown

    -- the slots of the label, as the code has them
    abbrev k : ℕ
    k = slot_or slot (get_or d' 0 0)

    abbrev q : ℕ
    q = cond few 0 (slot_or third (get_or d' (asks slot) 0))

    first_is : (placed ks l).slot ≡ k
    first_is = rw (Asked-is, sym d.slot_is) (first_given few slot third d')

    third_is : (placed ks l).slot3 ≡ q
    third_is =
        ap (λ (n : ℕ). cond (few_extents l₀) 0 (slot_or (cond (few_extents l₀) 0 l₀.slot3) (get_or (take n d') (asks l₀.slot) 0))) Asked-is
        ∙ third_eq few (few_extents l₀) slot l₀.slot third l₀.slot3 d' d.slot_is d.slot3_is d.few_is

    placed_is : placed ks l ≡ with_slots k q l₀
    placed_is = ap₂ (λ (a b : ℕ). with_slots a b l₀) first_is third_is

    labels_are : w.labels ≡ insert_label (with_slots k q l₀) d.others
    labels_are = ap (λ (x : Label). insert_label x d.others) placed_is

    least : 3 ≤ slots g
    least = subst (λ (x : Geometry). 3 ≤ slots x) d.geometry_is d.ready.limits.least

    fitted : Fits (few_extents l) l.slot l.slot3 ks
    fitted = fits (few_extents l) l.slot l.slot3 ks none_left (length-take asked d' ∙ long) (tally_nonzero ks not_0)
      where
        none_left : few_extents l ≡ true → l.slot3 ≡ 0
        none_left e = rw e

        long : min asked (length d') ≡ asked_by l
        long =
            let a = asks_most few slot third in
            let h = pl.two in
            let e = asked_here in
            omega arith

        not_0 : tally 0 ks ≡ 0
        not_0 =
            let a = given 0 (omega (arith, least)) in
            let b = used_tally draft (take need c') 0 in
            let e = ap bit (eq-eqb 0 0 refl) in
            omega arith

    used_w : (x : ℕ) → tally x (used w.labels w.chain) ≡ tally x (used draft (take need c')) + tally x ks
    used_w x =
        let a = used_tally w.labels w.chain x in
        let b = used_tally draft (take need c') x in
        let e = slots_tally w.labels x in
        let f = insert_sum (λ y. tally x (slots_of y)) (placed ks l) d.others in
        let h = slots_tally draft x in
        let i = fitted.slots x in
        omega arith

    slots_w : (x : ℕ) → tally x (flat slots_of w.labels) ≡ tally x (slots_of (with_slots k q l₀)) + tally x (flat slots_of d.others)
    slots_w x =
        let a = slots_tally w.labels x in
        let b = insert_sum (λ y. tally x (slots_of y)) (placed ks l) d.others in
        let e = slots_tally d.others x in
        let f = ap (λ (y : Label). tally x (slots_of y)) placed_is in
        omega arith

    two_slots : (x : ℕ) → tally x (slots_of (with_slots k q l₀)) ≡ tally x (one_slot k) + tally x (one_slot q)
    two_slots x = sum_append (λ y. bit (eqb y x)) (one_slot k) (one_slot q)

    free_w : free_from m (tracks g) 0 ≡ free g w.labels
    free_w =
        free_of g m draft d.shown_tracks
        ∙ free_same g draft w.labels
        (λ x.
        let a = held_times g draft x in
        let b = held_times g w.labels x in
        let e = insert_sum (λ y. times x (runs_of y)) (placed ks l) d.others in
        omega arith)

    inside : (x : ℕ) → 1 ≤ tally x (one_slot k) + tally x (one_slot q) → x < slots g
    inside x u =
        elim (dec_le (slots g) x) [
          | yes h ↦
              let a = hw.slot_in x h in
              let b = used_tally w.labels w.chain x in
              let e = slots_w x in
              let f = two_slots x in
              absurd (omega arith)
          | no h ↦ lt_of_not-le h
        ]

    k_inside : k < slots g
    k_inside = let p : 1 ≤ k = subst (λ (x : ℕ). 1 ≤ x) first_is fitted.first in let o = one_self k p in inside k (omega arith)

    q_inside : q < slots g
    q_inside =
        elim (dec_le 1 q) [
          | yes p ↦ let o = one_self q p in inside q (omega arith)
          | no p ↦ let z = lt_of_not-le p in omega (arith, least)
        ]

    -- what `put_label` asks
    pub first_inside : (x : ℕ) → x ≡ k → x < slots g
    first_inside x e = let h = k_inside in omega arith

    pub third_inside : (x : ℕ) → x ≡ q → x < slots g
    third_inside x e = let h = q_inside in omega arith

    old_slots : (x : ℕ) → tally x (slots_of l₀) ≡ tally x (one_slot slot) + tally x (one_slot third)
    old_slots x = slots_eq slot l₀.slot third l₀.slot3 x d.slot_is d.slot3_is

    start : settle g v.chain draft asked (λ js. insert_label (placed js l) d.others) ≡ some w
    start = ap (λ (x : List ℕ). settle g x draft asked (λ js. insert_label (placed js l) d.others)) (sym read_chain) ∙ settled

    left_eq : p.left ≡ total (free_from s' (slots g) 0)
    left_eq = st.left_is draft shown

    pub chain_inside : All (λ x. x < slots g) (take need c')
    chain_inside = st.inside draft shown

    abbrev from : ℕ
    from = p.from

    abbrev at : ℕ
    at = p.at

    module _ (three : List ℕ) (third-written : few ≡ false → Format3 g l₀ three) where
      three_is : (x : ℕ) → q ≡ x → 1 ≤ x → three ≡ format3 g l₀
      three_is x e u = go few refl
        where
          go : (b : Bool) → few ≡ b → three ≡ format3 g l₀
          go true h = let z : q ≡ 0 = rw h in absurd (omega arith)
          go false h = third-written h

      staying : Stay v w m need from at
      staying =
          stay v w d.ready.valid hw (sym d.geometry_is) m lo (min was need) need (omega arith) (subst (λ (x : Geometry). Shows m lo (held x v.labels)) (sym d.geometry_is) d.below) free_w
          (same_chain c c' v.chain was need read_chain st.first)
          from at
          (subst (λ (ks : List ℕ). Reached (encode v) ks lo from at) (sym (take-take (min was need) need c' (omega arith)))
          (subst (λ (x : List ℕ). Reached x (take (min was need) c') lo from at) d.ready.bytes pl.reached))

      written : (t₃ : List ℕ) → t₃ ≡ label_put g (cleared (cleared t (drop need v.chain)) (one_slot (cond few third 0))) k q l₀ three
          → four_put g (fives_put g t₃ (fives (drop from (take need c')) (free_from m (tracks g) at))) p.left ≡ encode w
      written t₃ e =
          let new = settled_chain g v.chain draft asked (λ js. insert_label (placed js l) d.others) w start in
          finished w hw from (free_from m (tracks g) at) t₃ p.left staying.rest
          (left_eq ∙ empty_of w s' (λ x u. let a = given x u in let b = used_w x in omega arith))
          (subst (Rattle.update.specs.Pending.Pending w (drop from w.chain ++ (0 ∷ []))) (sym e)
          (label_pending w hw l₀ k q d.others labels_are k_inside q_inside (drop from w.chain ++ (0 ∷ [])) _ three (λ u. three_is q refl u)
          (emptied v w d.ready.valid hw (sym d.geometry_is) l₀ d.others d.stays d.slot_once d.slot_in need new.0
          (new.1 ∙ ap (λ (n : ℕ). take n v.chain ++ new.0) (sym (need_free need pl.need_is)))
          (one_slot (cond few third 0)) (k ∷ one_slot q)
          (λ x. let a = old_slots x in let b = freed_in few third x in omega arith)
          (λ x. let a = old_slots x in let b = first_in slot (get_or d' 0 0) x in let f = third_in few third (get_or d' (asks slot) 0) x in omega arith)
          (λ x. let a = slots_w x in let b = two_slots x in let f = one_le x k in omega arith)
          (λ x p z. subst (λ (y : Label). Rattle.update.specs.Pending.Alike x d.others (insert_label y d.others)) (sym placed_is)
          (alike_come x p (with_slots k q l₀) (let b = two_slots x in let f = one_le x k in omega arith) d.others))
          m from at staying t d.ready.bytes)))

      pub put_done : (freed first other : ℕ) (t₁ t₂ t₃ t₄ : List ℕ) → freed ≡ cond few third 0 → first ≡ k → other ≡ q
          → t₁ ≡ cleared t (slice need was c') → t₂ ≡ cleared t₁ (one_slot freed) → t₃ ≡ label_put g t₂ first other l₀ three
          → t₄ ≡ four_put g (fives_put g t₃ (fives (drop from (take need c')) (free_from m (tracks g) at))) p.left
          → Leaves (settle_with v d.others l₀) t₄
      put_done freed first other t₁ t₂ t₃ t₄ f a b e₁ e₂ e₃ e₄ =
          let two : t₂ ≡ cleared (cleared t (drop need v.chain)) (one_slot (cond few third 0))
          = e₂ ∙ ap₂ (λ (y : List ℕ) (x : ℕ). cleared y (one_slot x)) (e₁ ∙ ap (cleared t) (chain_tail c c' v.chain was need st.tail read_chain (pl.chained.many v d.geometry_is sound))) f in
          let three_done : t₃ ≡ label_put g (cleared (cleared t (drop need v.chain)) (one_slot (cond few third 0))) k q l₀ three
          = e₃ ∙ ap₂ (λ (x y : ℕ). label_put g t₂ x y l₀ three) a b ∙ ap (λ (y : List ℕ). label_put g y k q l₀ three) two in
          (w, is_w, e₄ ∙ written t₃ three_done)
