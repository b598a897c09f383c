-- The chain, member by member. Assumes nothing.
use mathlib.Core.Path.{◌≡◌, refl, sym, ap, ◌∙◌, subst}
use mathlib.Core.Bool.{Bool, true, false}
use mathlib.Core.List.{List, [], ◌∷◌, ◌++◌}
use Prim.Native.Nat.{ℕ, zero, suc, ◌+◌, ◌-◌, ◌*◌, ◌≤◌, ◌<◌}
use native.Mathlib.Omega.{arith}
use borrow.Author.Tests.{ne_eqb}
use lib.Dec.{eqb}
use lib.ListN.{drop, length, length-drop, take}
use Rattle.model.specs.Basics.{bit, part}
use Rattle.model.specs.Model.{Geometry, Run, covers, fives_for, run, slots, times, tracks}
use Rattle.model.proofs.Lists.{clash, is_true, sum_append, true_is}
use Rattle.model.specs.Predicates.{All, Once}
use Rattle.rules.specs.Layout.{fives, format5, head_or0, link}
use Rattle.rules.specs.Reading.{chop, follow, record_at, slot_at}
use Rattle.rules.specs.Predicates.{Limits}
use Rattle.rules.proofs.FreeBack.{five_link}
use Rattle.rules.specs.Sound.{FiveOk}
use Rattle.bitmap.specs.Map.{NextRun, Shows, Taken, free_from}
use Rattle.bitmap.proofs.Held.{shows_same}
use Rattle.dscb.specs.Records.{slot_bytes}
use Rattle.rows.specs.Words.{Bytes, all_are}
use Rattle.dscb.specs.Tests.{slot_named}
use Rattle.dscb.proofs.Links.{none_is, none_passes, place_read, slot_found, slot_named_lem, slot_none}
use Rattle.dscb.proofs.Records.{chop_slot, length_part}
use Rattle.dscb.specs.Forms.{linked_slot}
use Rattle.dscb.proofs.Cutting.{bytes_part}
use Rattle.dscb.proofs.Linked.{linked_below}
use Rattle.check_label.specs.Marks.{units}
use Rattle.check_label.proofs.Taking.{took_yes}
use Rattle.std.specs.Prelude.{MatchOption, None, Some}
use Rattle.std.specs.Bool.{then_some}
use Rattle.check_chain.specs.declared.Member.{Member}
use Rattle.check_chain.specs.declared.Member.TheVariants.{Last, Next}
use Rattle.check_chain.specs.Chain.{ChainGone, GoesOn, Held, Holds, HoldsNone, chain_from, is_none, next_of}
use Rattle.check_chain.specs.Entries.{HoldsRuns, RunsOf, link_ok}

-- ---- the slots of a chain

-- where the free extents go on
none_drop : (f : List Run) → is_none (drop 26 f) ≡ true → length f ≤ 26
none_drop f e = let l = length-drop 26 f in let z = none_zero (drop 26 f) e in omega arith
  where
    none_zero : (f : List Run) → is_none f ≡ true → length f ≡ 0
    none_zero [] e = refl
    none_zero (x ∷ f) e = clash e refl

some_drop : (f : List Run) → is_none (drop 26 f) ≡ false → 26 < length f
some_drop f e = let l = length-drop 26 f in let z = some_one (drop 26 f) e in omega arith
  where
    some_one : (f : List Run) → is_none f ≡ false → 1 ≤ length f
    some_one [] e = clash refl e
    some_one (x ∷ f) e = omega arith

next_some : (g : Geometry) (f : List Run) (r : List ℕ) → is_none f ≡ false → next_of g f r ≡ slot_at g r 135
next_some g [] r e = clash refl e
next_some g (x ∷ f) r e = refl

next_none : (g : Geometry) (f : List Run) (r : List ℕ) → is_none f ≡ true → next_of g f r ≡ 0
next_none g [] r e = refl
next_none g (x ∷ f) r e = clash e refl

module _ (g : Geometry) (t : List ℕ) (f : List Run) (k : ℕ) where
  pub chain_last : is_none (drop 26 f) ≡ true → chain_from g t f k ≡ k ∷ []
  unfolding chain_from
  chain_last e =
      let l = none_drop f e in
      let q : fives_for (length f) ≡ 1 = omega arith in
      ap (λ (n : ℕ). follow g (chop (slots g) t) n k) q

  pub chain_more : k < slots g → is_none (drop 26 f) ≡ false → chain_from g t f k ≡ k ∷ chain_from g t (drop 26 f) (next_of g (drop 26 f) (slot_bytes t k))
  unfolding chain_from
  chain_more u e =
      let l = some_drop f e in
      let d = length-drop 26 f in
      let q : fives_for (length f) ≡ suc (fives_for (length (drop 26 f))) = omega arith in
      ap (λ (n : ℕ). follow g (chop (slots g) t) n k) q
      ∙ ap (λ (j : ℕ). k ∷ follow g (chop (slots g) t) (fives_for (length (drop 26 f))) j)
      (ap (λ (r : List ℕ). slot_at g r 135) (chop_slot (slots g) t k u) ∙ sym (next_some g (drop 26 f) (slot_bytes t k) e))

pub chain_head : (g : Geometry) (t : List ℕ) (f : List Run) (k : ℕ) → head_or0 (chain_from g t f k) ≡ k
unfolding chain_from
chain_head g t f k =
    let q : fives_for (length f) ≡ suc (fives_for (length f) - 1) = omega arith in
    ap (λ (n : ℕ). head_or0 (follow g (chop (slots g) t) n k)) q

pub chain_length : (g : Geometry) (t : List ℕ) (f : List Run) (k : ℕ) → length (chain_from g t f k) ≡ fives_for (length f)
unfolding chain_from
chain_length g t f k = follow_length (fives_for (length f)) k
  where
    follow_length : (n j : ℕ) → length (follow g (chop (slots g) t) n j) ≡ n
    follow_length zero j = refl
    follow_length (suc n) j = ap suc (follow_length n (slot_at g (record_at (chop (slots g) t) j) 135))

-- ---- one member, and what comes of it

module _ (g : Geometry) (t m : List ℕ) (f : List Run) (k : ℕ) (u : k < slots g) (s s' : List ℕ) where
  abbrev N : ℕ
  N = slots g

  abbrev rs : List (List ℕ)
  rs = chop N t

  abbrev rec : List ℕ
  rec = slot_bytes t k

  -- the member, with a chain ks behind it
  five_ok : (r : Member) → Holds g t m f k s s' r → (ks : List ℕ) → head_or0 ks ≡ next_of g (drop 26 f) rec → format5 g (take 26 f) (head_or0 ks) ≡ record_at rs k
  five_ok r h ks e = ap (format5 g (take 26 f)) e ∙ h.here ∙ sym (chop_slot N t k u)

  pub gone_last : Held g t m f k s s' (Some Last) → ChainGone g t f k s s' true
  gone_last h =
      let d = h.told.behind in
      let q = chain_last g t f k d in
      record {
        long = h.long;
        good = λ x. rw q (five_ok Last h.told [] (sym (next_none g (drop 26 f) rec d)), tt);
        inside = λ x. rw q (u, tt);
        empty = λ x us w. rw q (h.told.took us w);
        no = λ x. clash {b = true} refl x;
      }

  front_once : (ks : List ℕ) (us : List Run) → Once N (run k 1 ∷ (units ks ++ us)) → Once N (run k 1 ∷ us)
  front_once ks us o j v =
      let F : Run → ℕ = λ q. bit (covers q j) in
      let a = sum_append F (units ks) us in
      let b = o j v in
      omega arith

  moved : (ks : List ℕ) (us : List Run) (j : ℕ) → times j (units ks ++ (run k 1 ∷ us)) ≡ times j (run k 1 ∷ (units ks ++ us))
  moved ks us j =
      let F : Run → ℕ = λ q. bit (covers q j) in
      let a = sum_append F (units ks) us in
      let b = sum_append F (units ks) (run k 1 ∷ us) in
      omega arith

  pub gone_bad : Held g t m f k s s' None → ChainGone g t f k s s' false
  gone_bad h =
      record {
        long = h.long;
        good = λ x. clash {b = false} x refl;
        inside = λ x. clash {b = false} x refl;
        empty = λ x. clash {b = false} x refl;
        no = λ x us w a i c. Rattle.model.proofs.Lists.by (is_none (drop 26 f)) (λ d. ends d us w a c) (λ d. goes d us w a i c);
      }
    where
      zero_in : 0 < slots g
      zero_in = omega (arith, u)

      five_no : (ks : List ℕ) → head_or0 ks ≡ next_of g (drop 26 f) rec → head_or0 ks < N → (us : List Run) → Shows s N us → Once N (run k 1 ∷ us)
          → format5 g (take 26 f) (head_or0 ks) ≡ record_at rs k → ⊥
      five_no ks e i us w c x = h.told us w c (subst (λ (j : ℕ). j < N) e i) (ap (format5 g (take 26 f)) (sym e) ∙ x ∙ chop_slot N t k u)

      ends : is_none (drop 26 f) ≡ true → (us : List Run) → Shows s N us → All (FiveOk g rs) (fives (chain_from g t f k) f) → Once N (units (chain_from g t f k) ++ us) → ⊥
      ends d us w a c =
          let q = chain_last g t f k d in
          five_no [] (sym (next_none g (drop 26 f) rec d)) zero_in us w (rw q at c) (rw q at a).0

      goes : is_none (drop 26 f) ≡ false → (us : List Run) → Shows s N us → All (FiveOk g rs) (fives (chain_from g t f k) f) → All (λ j. j < N) (chain_from g t f k) → Once N (units (chain_from g t f k) ++ us) → ⊥
      goes d us w a i c =
          let q = chain_more g t f k u d in
          let j : ℕ = next_of g (drop 26 f) rec in
          let ks : List ℕ = chain_from g t (drop 26 f) j in
          let hd : head_or0 ks ≡ j = chain_head g t (drop 26 f) j in
          let i2 : All (λ j. j < N) (k ∷ ks) = rw q at i in
          five_no ks hd (head_in ks i2.1 zero_in) us w (front_once ks us (rw q at c)) (rw q at a).0
        where
          head_in : (ks : List ℕ) → All (λ j. j < N) ks → 0 < N → head_or0 ks < N
          head_in [] a z = z
          head_in (x ∷ ks) a z = a.0

  module _ (slot at : ℕ) (h : Held g t m f k s s' (Some (Next slot at))) where
    abbrev on : GoesOn g t m f k slot at
    on = h.told.behind

    -- the free extents behind the member, those of the map from track `at` on, are fewer
    pub fewer : length (free_from m (tracks g) at) < length f
    fewer =
        let a = some_drop f on.more in
        let l = length-drop 26 f in
        let q = ap length on.rest in
        omega arith

    abbrev ks : List ℕ
    ks = chain_from g t (drop 26 f) slot

    is : chain_from g t f k ≡ k ∷ ks
    is = chain_more g t f k u on.more ∙ ap (λ (j : ℕ). k ∷ chain_from g t (drop 26 f) j) (sym on.next)

    hd : head_or0 ks ≡ next_of g (drop 26 f) rec
    hd = chain_head g t (drop 26 f) slot ∙ on.next

    -- and what holds of the chain from there on holds from here on
    pub go_on : (s'' : List ℕ) (b : Bool) → ChainGone g t (free_from m (tracks g) at) slot s' s'' b → ChainGone g t f k s s'' b
    go_on s'' b behind =
        let c = subst (λ (f : List Run). ChainGone g t f slot s' s'' b) on.rest behind in
        record {
          long = c.long ∙ h.long;
          good = λ x. rw is (five_ok (Next slot at) h.told ks hd, c.good x);
          inside = λ x. rw is (u, c.inside x);
          empty = λ x us w. rw is (shows_same s'' N (units ks ++ (run k 1 ∷ us)) (run k 1 ∷ (units ks ++ us)) (λ j v. moved ks us j) (c.empty x (run k 1 ∷ us) (h.told.took us w)));
          no = λ x us w a i n.
              c.no x (run k 1 ∷ us) (h.told.took us w) (rw is at a).1 (rw is at i).1
              (λ j v. let z = (rw is at n) j v in let y = moved ks us j in omega arith);
        }

-- ---- the tests make a member

-- what the next run tells, where the number n of tracks was computed
module _ (m : List ℕ) (n n' at from to : ℕ) (w : n ≡ n') (x : NextRun m n at from to) where
  pub none_left : n ≤ from → free_from m n' at ≡ []
  none_left u = subst (λ (z : ℕ). free_from m z at ≡ []) w (x.done u)

  pub some_left : from < n → free_from m n' at ≡ run from (to - from) ∷ free_from m n' to
  some_left u = subst (λ (z : ℕ). free_from m z at ≡ run from (to - from) ∷ free_from m z to) w (x.more u).1

module _ (g : Geometry) (limit : Limits g) (t m : List ℕ) (at k : ℕ) (s s' : List ℕ) (x : Taken s s' k (k + 1) true) where
  abbrev f5 : List Run
  f5 = free_from m (tracks g) at

  abbrev record5 : List ℕ
  record5 = slot_bytes t k

  abbrev linked : List ℕ
  linked = part 135 5 record5

  -- the entries are not those of the free extents
  pub held_bad : HoldsRuns g m (tracks g) at record5 None → Held g t m f5 k s s' None
  held_bad y = record { long = x.long; told = λ us w c i h. y (next_of g (drop 26 f5) record5) h }

  module _ (bytes : Bytes t) (long : length record5 ≡ 140) (behind : ℕ) (y : RunsOf g m (tracks g) at record5 behind) where
    long_link : length linked ≡ 5
    long_link = length_part 135 5 record5 (omega arith)

    -- there are no more free extents
    pub held_last : free_from m (tracks g) behind ≡ [] → (ok : Bool) → ok ≡ all_are 0 linked → Held g t m f5 k s s' (then_some ok Last)
    held_last none ok o = record { long = x.long; told = told ok o }
      where
        d : drop 26 f5 ≡ []
        d = sym y.rest ∙ none

        n : next_of g (drop 26 f5) record5 ≡ 0
        n = ap (λ (x : List Run). next_of g x record5) d

        told : (ok : Bool) → ok ≡ all_are 0 linked → MatchOption (then_some ok Last) (HoldsNone g t f5 k s) (λ r. Holds g t m f5 k s s' r)
        told true o =
            record {
              took = λ us w. took_yes (slots g) k 1 s s' true x refl us w;
              here = ap (format5 g (take 26 f5)) n ∙ y.bytes 0 (none_is g linked long_link (true_is (sym o)));
              behind = ap is_none d;
            }
        told false o = λ us w c i h.
            clash (ap (all_are 0) (sym (ap (part 135 5) (sym (ap (format5 g (take 26 f5)) n) ∙ h)) ∙ five_link g (take 26 f5) 0) ∙ is_true (none_passes g)) (sym o)

    -- there are more: the record names the slot that holds them
    pub held_more : (v : Run) (vs : List Run) → free_from m (tracks g) behind ≡ v ∷ vs → (slot : ℕ) → slot ≡ linked_slot g record5 → (ok : Bool) → ok ≡ link_ok slot linked
        → Held g t m f5 k s s' (then_some ok (Next slot behind))
    held_more v vs some slot z ok o = record { long = x.long; told = told ok o }
      where
        d : drop 26 f5 ≡ v ∷ vs
        d = sym y.rest ∙ some

        n : next_of g (drop 26 f5) record5 ≡ slot_at g record5 135
        n = ap (λ (x : List Run). next_of g x record5) d

        is_link : true ≡ link_ok slot linked → link g slot ≡ linked
        is_link q = go slot (sym z) (sym q)
          where
            go : (j : ℕ) → linked_slot g record5 ≡ j → link_ok j linked ≡ true → link g j ≡ linked
            go zero p f = none_is g linked long_link (true_is f)
            go (suc j) p f = (slot_named_lem g (slots g) linked (suc j) long_link (bytes_part 135 5 record5 (bytes_part (140 * k) 140 t bytes)) (omega arith) p).0

        named : true ≡ link_ok slot linked → slot ≡ next_of g (drop 26 f5) record5
        named q = sym (n ∙ place_read g slot record5 135 (is_link q))

        unlinked : (j : ℕ) → j ≡ next_of g (drop 26 f5) record5 → link_ok j linked ≡ false → link g (next_of g (drop 26 f5) record5) ≡ linked → ⊥
        unlinked zero p f q = clash (ap (all_are 0) (sym q ∙ sym (ap (link g) p)) ∙ is_true (none_passes g)) f
        unlinked (suc j) p f q = let z : eqb (suc j) 0 ≡ false = ne_eqb (suc j) 0 (λ w. absurd (omega arith)) in clash {b = true} refl (rw z at f)

        found : next_of g (drop 26 f5) record5 < slots g → format5 g (take 26 f5) (next_of g (drop 26 f5) record5) ≡ record5
            → linked_slot g record5 ≡ next_of g (drop 26 f5) record5
        found i h = go (next_of g (drop 26 f5) record5) i (sym (five_link g (take 26 f5) (next_of g (drop 26 f5) record5)) ∙ ap (part 135 5) h)
          where
            go : (j : ℕ) → j < slots g → link g j ≡ linked → linked_slot g record5 ≡ j
            go zero i p = ap (slot_named g.heads g.records g.vtoc_start (slots g)) (sym p) ∙ slot_none g.heads g.records g.vtoc_start (slots g)
            go (suc j) i p = slot_found g (slots g) linked limit.heads limit.records (suc j) (omega arith) i p

        told : (ok : Bool) → ok ≡ link_ok slot linked → MatchOption (then_some ok (Next slot behind)) (HoldsNone g t f5 k s) (λ r. Holds g t m f5 k s s' r)
        told true q =
            record {
              took = λ us w. took_yes (slots g) k 1 s s' true x refl us w;
              here = ap (format5 g (take 26 f5)) (sym (named q)) ∙ y.bytes slot (is_link q);
              behind = record {
                more = ap is_none d;
                next = named q;
                inside = rw z (linked_below g record5 limit);
                rest = y.rest;
                up_to = y.up_to;
              };
            }
        told false q = λ us w2 c i h. unlinked slot (z ∙ found i h) (sym q) (sym (five_link g (take 26 f5) (next_of g (drop 26 f5) record5)) ∙ ap (part 135 5) h)
