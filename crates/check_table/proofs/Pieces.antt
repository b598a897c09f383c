-- The pieces of the check make a table sound, and a sound table passes each of them. Assumes nothing.
use mathlib.Core.Path.{◌≡◌, refl, sym, ap, ◌∙◌, subst}
use mathlib.Core.Bool.{Bool, true, false}
use mathlib.Core.List.{List, [], ◌∷◌, ◌++◌}
use Prim.Native.Nat.{ℕ, zero, suc, ◌*◌, ◌≤◌, ◌<◌}
use native.Mathlib.Decide.{dec_le}
use native.Mathlib.Nat.{le_refl, lt_of_not-le}
use native.Mathlib.Omega.{arith}
use borrow.Author.Tests.{eq-eqb, ne_eqb}
use lib.ListN.{get_or-eq_default, length}
use Rattle.model.specs.Basics.{bit, flat}
use Rattle.model.specs.Model.{Geometry, Label, Run, covers, format0s, free, held, one_slot, run, runs_of, slots, slots_of, tally, times, tracks, unused, used}
use Rattle.model.proofs.Lists.{All_append, clash, sum_append}
use Rattle.model.proofs.Runs.{hit_in}
use Rattle.model.specs.Predicates.{All}
use Rattle.rules.specs.Layout.{format4}
use Rattle.rules.specs.Reading.{chop, record_at}
use Rattle.rules.proofs.LabelBack.{length_1, length_3}
use Rattle.rules.proofs.Settle.{used_tally}
use Rattle.rules.specs.Predicates.{Limits}
use Rattle.rules.specs.Sound.{LabelOk, Sound}
use Rattle.bitmap.specs.Map.{Shows, free_bit, free_from}
use Rattle.bitmap.proofs.Held.{free_gaps, shows_once, shows_same}
use Rattle.dscb.proofs.Records.{chop_slot, length_chop}
use Rattle.dscb.specs.Forms.{geometry_of}
use Rattle.check_label.specs.Marks.{units}
use Rattle.check_table.specs.Labels.{GoneBelow, LabelsTaken, labels_below}
use Rattle.check_table.proofs.Scan.{unit_tally}
use Rattle.check_chain.specs.Chain.{ChainGone, chain_from}
use Rattle.check_chain.proofs.Laws.{chain_head, chain_length}
use Rattle.std.specs.Prelude.{Option, Some, None, IfSome}
use Rattle.check_table.specs.declared.Verdict.{Verdict}
use Rattle.check_table.specs.Check.{Contents, MapsBegun, Rest, RestTold, TellsRest, TellsVolume, volume_at}
use Rattle.check_table.proofs.Read.{all_long, differ_names, highest_is_lem, names_differ_lem}

-- ---- slots in the table

below_none : (n k : ℕ) (xs : List ℕ) → All (λ j. j < n) xs → n ≤ k → tally k xs ≡ 0
below_none n k [] a u = refl
below_none n k (x ∷ xs) a u = let i = below_none n k xs a.1 u in let b = ap bit (ne_eqb x k (let w = a.0 in omega arith)) in omega arith

none_below : (n : ℕ) (xs : List ℕ) → ((k : ℕ) → n ≤ k → tally k xs ≡ 0) → All (λ j. j < n) xs
none_below n [] h = tt
none_below n (x ∷ xs) h = (
  elim (dec_le n x) [
    | yes u ↦ absurd (let a = h x u in let b = ap bit (eq-eqb x x refl) in omega arith)
    | no u ↦ lt_of_not-le u
  ],
  none_below n xs (λ k u. let a = h k u in omega arith),
)

-- a slot whose record has 140 bytes is in the table
pub in_table : (rs : List (List ℕ)) (k : ℕ) → length (record_at rs k) ≡ 140 → k < length rs
in_table rs k e =
    elim (dec_le (length rs) k) [
      | yes u ↦ absurd (let q = ap length (get_or-eq_default rs [] {n = k} u) in omega arith)
      | no u ↦ lt_of_not-le u
    ]

-- the format 3 of a label is, too; slot 0 stands for none
pub third_below : (g : Geometry) (rs : List (List ℕ)) (l : Label) → 1 ≤ length rs → LabelOk g rs l → l.slot3 < length rs
third_below g rs l pos x =
    elim (dec_le 1 l.slot3) [
      | yes u ↦ in_table rs l.slot3 (ap length (sym (x.three u)) ∙ length_3 g l)
      | no u ↦ omega arith
    ]

one_below : (n k : ℕ) → (1 ≤ k → k < n) → All (λ j. j < n) (one_slot k)
one_below n zero h = tt
one_below n (suc k) h = (h (omega arith), tt)

labels_below_lem : (g : Geometry) (rs : List (List ℕ)) (ls : List Label) → All (LabelOk g rs) ls → All (λ j. j < length rs) (flat slots_of ls)
labels_below_lem g rs [] a = tt
labels_below_lem g rs (l ∷ ls) a =
    let x = a.0 in
    All_append (λ j. j < length rs) (slots_of l) (flat slots_of ls)
    (All_append (λ j. j < length rs) (one_slot l.slot) (one_slot l.slot3)
    (one_below (length rs) l.slot (λ p. in_table rs l.slot (ap length (sym x.one) ∙ length_1 g l x.good)))
    (one_below (length rs) l.slot3 (λ p. in_table rs l.slot3 (ap length (sym (x.three p)) ∙ length_3 g l))))
    (labels_below_lem g rs ls a.1)

module _ (g : Geometry) (limit : Limits g) (t : List ℕ) (len : length t ≡ 140 * slots g) where
  abbrev N : ℕ
  N = slots g

  abbrev T : ℕ
  T = tracks g

  abbrev rs : List (List ℕ)
  rs = chop N t

  abbrev ls : List Label
  ls = labels_below g t N

  abbrev ks : List ℕ
  ks = chain_from g t (free g ls) 1

  -- the runs and the slots in the order of the check
  held_same : (j : ℕ) → times j (flat runs_of ls ++ held g []) ≡ times j (held g ls)
  unfolding held
  held_same j =
      let F : Run → ℕ = λ q. bit (covers q j) in
      let a = sum_append F (flat runs_of ls) (run 0 1 ∷ run g.vtoc_start g.vtoc_tracks ∷ []) in
      omega arith

  abbrev before : List Run
  before = units (flat slots_of ls) ++ units (0 ∷ [])

  used_same_lem : (j : ℕ) → times j (units ks ++ before) ≡ tally j (used ls ks)
  used_same_lem j =
      let F : Run → ℕ = λ q. bit (covers q j) in
      let a = sum_append F (units ks) before in
      let b = sum_append F (units (flat slots_of ls)) (units (0 ∷ [])) in
      let c = unit_tally j ks in
      let d = unit_tally j (flat slots_of ls) in
      let e = unit_tally j (0 ∷ []) in
      let f = used_tally ls ks j in
      omega arith

  module _ (m m₁ m₂ s s₁ s₂ : List ℕ) (begun : MapsBegun g m m₁ s s₁) where
    -- ---- a label is wrong, or two overlap or have one name

    pub labels_wrong : (r : Bool) → r ≡ false → LabelsTaken g t N m₁ m₂ s₁ s₂ r → Contents g t m m₂ s s₂ None
    labels_wrong r e x =
        record {
          long_map = x.long_map ∙ begun.long_map;
          long_slots = x.long_slots ∙ begun.long_slots;
          yes = λ q. clash q refl;
          shown = λ q. clash q refl;
          tells = tt;
          no = λ _ y.
              (x.gone (differ_names g t y.differ)).no e (held g []) (units (0 ∷ [])) begun.free_tracks begun.free_slots y.labels
              (λ j u. let a = y.once j u in let b = held_same j in omega arith)
              (λ j u.
              let a = y.slot_once j in
              let b = used_same_lem j in
              let c = sum_append (λ q. bit (covers q j)) (units ks) before in
              omega arith);
        }

    module _ (r : Bool) (e : r ≡ true) (x : LabelsTaken g t N m₁ m₂ s₁ s₂ r) where
      out : GoneBelow g t N m₁ m₂ s₁ s₂ r
      out = x.gone (x.differ e)

      tracks_shown : Shows m₂ T (held g ls)
      tracks_shown = shows_same m₂ T (flat runs_of ls ++ held g []) (held g ls) (λ j u. held_same j) (out.free e (held g []) begun.free_tracks)

      -- the label track is not free
      pub label_held : free_bit m₂ 0 ≡ 0
      unfolding held
      label_held =
          let shown = tracks_shown 0 (omega (arith, limit.start, limit.ends)) in
          let here = hit_in (run 0 1) 0 (le_refl 0) (omega arith) in
          omega arith

      slots_shown : Shows s₂ N before
      slots_shown = out.empty e (units (0 ∷ [])) begun.free_slots

      free_is : free_from m₂ T 0 ≡ free g ls
      unfolding free
      free_is = free_gaps m₂ T (held g ls) tracks_shown

      long_map_lem : length m₂ ≡ length m
      long_map_lem = x.long_map ∙ begun.long_map

      long_slots_lem : length s₂ ≡ length s
      long_slots_lem = x.long_slots ∙ begun.long_slots

      module _ (s₃ : List ℕ) (w : Bool) (z : ChainGone g t (free_from m₂ T 0) 1 s₂ s₃ w) where
        gone : ChainGone g t (free g ls) 1 s₂ s₃ w
        gone = subst (λ (f : List Run). ChainGone g t f 1 s₂ s₃ w) free_is z

        -- ---- the chain is wrong

        pub chain_wrong : w ≡ false → Contents g t m m₂ s s₃ None
        chain_wrong v =
            record {
              long_map = long_map_lem;
              long_slots = gone.long ∙ long_slots_lem;
              yes = λ q. clash q refl;
              shown = λ q. clash q refl;
              tells = tt;
              no = λ _ y.
                  gone.no v before slots_shown y.fives
                  (none_below N ks (λ k u. let a = y.slot_in k u in let f = used_tally ls ks k in omega arith))
                  (λ j u. let a = y.slot_once j in let c = used_same_lem j in omega arith);
            }

        module _ (v : w ≡ true) where
          all_slots : Shows s₃ N (units (used ls ks))
          all_slots =
              shows_same s₃ N (units ks ++ before) (units (used ls ks)) (λ j u. used_same_lem j ∙ sym (unit_tally j (used ls ks)))
              (gone.empty v before slots_shown)

          inside : (k : ℕ) → N ≤ k → tally k (used ls ks) ≡ 0
          inside k u =
              let f = used_tally ls ks k in
              let a = below_none N k ks (gone.inside v) u in
              let l = length_chop N t in
              let c = below_none (length rs) k (flat slots_of ls) (labels_below_lem g rs ls (out.good e)) (omega arith) in
              let n = limit.least in
              let i = ap bit (ne_eqb 0 k (omega arith)) in
              omega arith

          once_slot : (k : ℕ) → tally k (used ls ks) ≤ 1
          once_slot k =
              elim (dec_le N k) [
                | yes u ↦ let a = inside k u in omega arith
                | no u ↦ let a = all_slots k (lt_of_not-le u) in let c = unit_tally k (used ls ks) in omega arith
              ]

          zero_in : 0 < N
          zero_in = omega (arith, limit.least)

          all_sound : Rest g t (used ls ks) → Sound rs (volume_at g t)
          all_sound y =
              record {
                limits = limit;
                many = length_chop N t;
                long = all_long N t len;
                labels = out.good e;
                differ = names_differ_lem g t (x.differ e);
                once = shows_once m₂ T (held g ls) tracks_shown;
                head = chain_head g t (free g ls) 1;
                members = chain_length g t (free g ls) 1;
                fives = gone.good v;
                slot_once = once_slot;
                slot_in = inside;
                rest = λ k u n. chop_slot N t k u ∙ y.zero k u n;
                four = ap (λ (k : ℕ). format4 g k (length (unused N (used ls ks)))) (highest_is_lem g t N) ∙ y.four ∙ sym (chop_slot N t 0 zero_in);
              }

          rest_of : Sound rs (volume_at g t) → Rest g t (used ls ks)
          rest_of y =
              record {
                zero = λ k u n. sym (chop_slot N t k u) ∙ y.rest k u n;
                four = ap (λ (k : ℕ). format4 g k (length (unused N (used ls ks)))) (sym (highest_is_lem g t N)) ∙ y.four ∙ chop_slot N t 0 zero_in;
              }

          numbers : (o : Option Verdict) → IfSome o (λ y. TellsRest g t s₃ y) → IfSome o (λ y. TellsVolume (volume_at g t) (geometry_of y.geometry) y.format0s y.highest)
          unfolding format0s
          numbers None x = tt
          numbers (Some y) x = record {
            geometry_is = x.geometry_is;
            count_is = x.count_is (used ls ks) all_slots;
            count_most = x.count_most;
            highest_is = x.highest_is ∙ sym (highest_is_lem g t N);
          }

          -- ---- all is well so far: the rest decides

          pub rest_decides : (o : Option Verdict) → RestTold g t s₃ o → Contents g t m m₂ s s₃ o
          rest_decides o last =
              record {
                long_map = long_map_lem;
                long_slots = gone.long ∙ long_slots_lem;
                yes = λ p. all_sound (last.yes p (used ls ks) all_slots);
                shown = λ p. record { free_tracks = tracks_shown; free_slots = all_slots };
                tells = numbers o last.tells;
                no = λ p y. last.no p (used ls ks) all_slots (rest_of y);
              }
