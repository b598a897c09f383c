-- The chain of format 5s: where it goes on, and what it holds. Assumes nothing.
use mathlib.Core.Path.{◌≡◌, refl, sym, ap, ◌∙◌}
use mathlib.Core.List.{List, [], ◌∷◌}
use Prim.Native.Nat.{ℕ, zero, suc, ◌+◌, ◌*◌, ◌≤◌, ◌<◌}
use native.Mathlib.Omega.{arith}
use borrow.Author.Tests.{eq-eqb}
use lib.Dec.{eqb}
use lib.ListN.{drop, drop_of_length-le, get_or, length, length-drop, length-take, take}
use Rattle.model.specs.Basics.{bit, get2, part}
use Rattle.model.specs.Model.{Geometry, Run, Separate, Volume, fives_for, free, run, slots, tally, tracks, used}
use Rattle.model.proofs.Lists.{All_both, All_drop, All_left, All_take}
use Rattle.model.specs.Predicates.{All}
use Rattle.rules.specs.Layout.{fives, format5, head_or0, link}
use Rattle.rules.specs.Reading.{chop, entry_place, read_entry, record_at}
use Rattle.rules.proofs.FreeBack.{entry_at, five_link, pigeonhole}
use Rattle.rules.proofs.Placed.{tally_nonzero}
use Rattle.rules.proofs.Settle.{used_tally}
use Rattle.rules.proofs.Test.{→in}
use Rattle.rules.proofs.Valid.{free_apart}
use Rattle.rules.specs.Predicates.{Limits}
use Rattle.rules.specs.Sound.{FiveOk, Sound}
use Rattle.dscb.specs.Records.{slot_bytes}
use Rattle.dscb.specs.Tests.{slot_named}
use Rattle.dscb.proofs.Links.{slot_found, slot_none}
use Rattle.dscb.proofs.Records.{chop_slot}
use Rattle.dscb.specs.Forms.{linked_slot}
use Rattle.free_extents.specs.FreeList.{Entries, Listed, Lists}

-- ---- the next member

-- the slot that the record in slot k names as the next
abbrev pub link_named : Geometry → List ℕ → ℕ → ℕ
link_named g t k = linked_slot g (slot_bytes t k)

module _ (g : Geometry) (limit : Limits g) (t : List ℕ) where
  named_is : (k j : ℕ) → j < slots g → link g j ≡ part 135 5 (slot_bytes t k) → link_named g t k ≡ j
  named_is k zero u p = ap (slot_named g.heads g.records g.vtoc_start (slots g)) (sym p) ∙ slot_none g.heads g.records g.vtoc_start (slots g)
  named_is k (suc j) u p = slot_found g (slots g) (part 135 5 (slot_bytes t k)) limit.heads limit.records (suc j) (omega arith) u p

  -- behind a member that holds its free extents comes the one that it names
  pub named_next : (k j : ℕ) (f : List Run) → k < slots g → j < slots g → format5 g f j ≡ slot_bytes t k → link_named g t k ≡ j
  named_next k j f u w e = named_is k j w (sym (five_link g f j) ∙ ap (part 135 5) e)

-- the code's answer is that slot
pub next_named : (g : Geometry) (t r : List ℕ) (k j : ℕ) → r ≡ slot_bytes t k → j ≡ linked_slot g r → j ≡ link_named g t k
next_named g t r k j f h = h ∙ ap (λ (y : List ℕ). linked_slot g y) f

-- ---- the chain of a sound table

pub chain_below : (v : Volume) → ((k : ℕ) → slots v.geometry ≤ k → tally k (used v.labels v.chain) ≡ 0) → All (λ k. k < slots v.geometry) v.chain
unfolding used
chain_below v h = All_left (λ k. k < slots v.geometry) v.chain _ (→in (slots v.geometry) (used v.labels v.chain) h).1

module _ (rs : List (List ℕ)) (v : Volume) (x : Sound rs v) where
  chain_tally : (k : ℕ) → bit (eqb 0 k) + tally k v.chain ≤ 1
  chain_tally k = let a = x.slot_once k in let b = used_tally v.labels v.chain k in omega arith

  chain_positive : All (λ k. 1 ≤ k) v.chain
  chain_positive = tally_nonzero v.chain (let a = chain_tally 0 in let b = ap bit (eq-eqb 0 0 refl) in omega arith)

  pub chain_inside : All (λ k. (1 ≤ k) × (k < slots v.geometry)) v.chain
  chain_inside = All_both (λ k. 1 ≤ k) (λ k. k < slots v.geometry) v.chain chain_positive (chain_below v x.slot_in)

  -- it has room in a list as long as the slots
  pub chain_short : length v.chain ≤ slots v.geometry
  chain_short =
      pigeonhole (slots v.geometry) v.chain (λ k. let a = chain_tally k in omega arith)
      (λ k u. let a = x.slot_in k u in let b = used_tally v.labels v.chain k in omega arith)

-- ---- what it holds

separate_full : (lo hi : ℕ) (f : List Run) → Separate lo hi f → All (λ e. 1 ≤ e.count) f
separate_full lo hi [] s = tt
separate_full lo hi (r ∷ f) s = (s.1, separate_full (suc (r.start + r.count)) hi f s.3)

room : (f n : ℕ) → n ≡ fives_for f → f ≤ 26 * n
room zero n e = omega arith
room (suc f) n e = omega arith

-- all members, from slot 1 on
pub lists_all : (t : List ℕ) (v : Volume) → Sound (chop (slots v.geometry) t) v → Lists v.geometry t (length v.chain) 1 (free v.geometry v.labels)
lists_all t v x = record {
  members = v.chain;
  many = refl;
  head = x.head;
  enough = room (length (free v.geometry v.labels)) (length v.chain) x.members;
  full = separate_full 0 (tracks v.geometry) (free v.geometry v.labels) (free_apart v);
  inside = chain_inside (chop (slots v.geometry) t) v x;
  hold = x.fives;
}

pub runs_listed : (t : List ℕ) (v : Volume) → Sound (chop (slots v.geometry) t) v → Listed v.geometry t (free v.geometry v.labels)
runs_listed t v x = record { members = length v.chain; few = chain_short (chop (slots v.geometry) t) v x; lists = lists_all t v x; apart = free_apart v }

-- no member is left
pub lists_none : (g : Geometry) (t : List ℕ) (n : ℕ) (f : List Run) → Lists g t n 0 f → f ≡ []
lists_none g t n f x = go x.members x.many x.head x.inside f x.enough
  where
    go : (ks : List ℕ) → length ks ≡ n → head_or0 ks ≡ 0 → All (λ j. (1 ≤ j) × (j < slots g)) ks → (f : List Run) → length f ≤ 26 * n → f ≡ []
    go [] m h i [] e = refl
    go [] m h i (r ∷ f) e = absurd (omega arith)
    go (k ∷ ks) m h i f e = absurd (omega (arith, i.0.0))

pub lists_end : (g : Geometry) (t : List ℕ) (k : ℕ) (f : List Run) → Lists g t 0 k f → f ≡ []
lists_end g t k f x = go f x.enough
  where
    go : (f : List Run) → length f ≤ 26 * 0 → f ≡ []
    go [] e = refl
    go (r ∷ f) e = absurd (omega arith)

module _ (g : Geometry) (t : List ℕ) (k : ℕ) (f : List Run) where
  entries_of_lem : (next : ℕ) → format5 g (take 26 f) next ≡ slot_bytes t k → All (λ e. 1 ≤ e.count) f → Entries g.heads (slot_bytes t k) (take 26 f)
  unfolding format5
  entries_of_lem next e a = record {
    few = let l = length-take 26 f in omega arith;
    full = All_take (λ e. 1 ≤ e.count) 26 f a;
    at = λ j u. ap (λ (r : List ℕ). read_entry g.heads r (entry_place j)) (sym e) ∙ entry_at g (take 26 f) next j u;
  }

  -- the member in slot k has the first 26
  pub lists_here : (n : ℕ) → 1 ≤ k → Lists g t n k f → (k < slots g) × Entries g.heads (slot_bytes t k) (take 26 f) × ((m : ℕ) × (n ≡ suc m))
  lists_here n p x = go x.members x.many x.head x.inside x.hold
    where
      go : (ks : List ℕ) → length ks ≡ n → head_or0 ks ≡ k → All (λ j. (1 ≤ j) × (j < slots g)) ks → All (FiveOk g (chop (slots g) t)) (fives ks f)
          → (k < slots g) × Entries g.heads (slot_bytes t k) (take 26 f) × ((m : ℕ) × (n ≡ suc m))
      go [] m h i a = absurd (omega arith)
      go (j ∷ ks) m h i a =
          let u : k < slots g = omega (arith, i.0.1) in
          (u, entries_of_lem (head_or0 ks) (a.0 ∙ ap (record_at (chop (slots g) t)) h ∙ chop_slot (slots g) t k u) x.full, (length ks, sym m))

  pub named_head : Limits g → (ks : List ℕ) → All (λ j. (1 ≤ j) × (j < slots g)) ks → (j : ℕ) → j < slots g → format5 g (take 26 f) (head_or0 ks) ≡ slot_bytes t j → link_named g t j ≡ head_or0 ks
  named_head limit [] i j u e = named_next g limit t j 0 (take 26 f) u (omega arith) e
  named_head limit (q ∷ ks) i j u e = named_next g limit t j q (take 26 f) u i.0.1 e

  -- and the others go on behind it
  pub lists_next : (n : ℕ) → Limits g → Lists g t (suc n) k f → Lists g t n (link_named g t k) (drop 26 f)
  lists_next n limit x = go x.members x.many x.head x.inside x.hold
    where
      go : (ks : List ℕ) → length ks ≡ suc n → head_or0 ks ≡ k → All (λ j. (1 ≤ j) × (j < slots g)) ks → All (FiveOk g (chop (slots g) t)) (fives ks f) → Lists g t n (link_named g t k) (drop 26 f)
      go [] m h i a = absurd (omega arith)
      go (j ∷ ks) m h i a =
          let u : j < slots g = i.0.1 in
          let l = length-drop 26 f in
          let e = x.enough in
          record {
            members = ks;
            many = omega arith;
            head = sym (ap (link_named g t) (sym h) ∙ named_head limit ks i.1 j u (a.0 ∙ chop_slot (slots g) t j u));
            enough = omega arith;
            full = All_drop (λ e. 1 ≤ e.count) 26 f x.full;
            inside = i.1;
            hold = a.1;
          }

-- ---- an entry, as the code reads it

module _ {h : ℕ} {r : List ℕ} {f : List Run} (x : Entries h r f) (j s c : ℕ) (u : j < 26) (e : run s c ≡ read_entry h r (entry_place j)) where
  at_entry : run s c ≡ get_or f j (run 0 0)
  at_entry = e ∙ x.at j u

  -- one without tracks: no free extent is left in the record
  pub entry_none : c ≡ 0 → drop j f ≡ []
  entry_none z = go f j x.full at_entry
    where
      go : (f : List Run) (j : ℕ) → All (λ e. 1 ≤ e.count) f → run s c ≡ get_or f j (run 0 0) → drop j f ≡ []
      go [] zero a q = refl
      go [] (suc j) a q = refl
      go (y ∷ f) zero a q = let w : c ≡ y.count = ap (λ (k : Run). k.count) q in absurd (omega (arith, a.0))
      go (y ∷ f) (suc j) a q = go f j a.1 q

  -- one with tracks is the next free extent
  pub entry_next : (c ≡ 0 → ⊥) → drop j f ≡ run s c ∷ drop (j + 1) f
  entry_next z = go f j at_entry ∙ ap (λ (i : ℕ). run s c ∷ drop i f) (let q : suc j ≡ j + 1 = omega arith in q)
    where
      go : (f : List Run) (j : ℕ) → run s c ≡ get_or f j (run 0 0) → drop j f ≡ run s c ∷ drop (suc j) f
      go [] zero q = absurd (z (ap (λ (k : Run). k.count) q))
      go [] (suc j) q = absurd (z (ap (λ (k : Run). k.count) q))
      go (y ∷ f) zero q = ap (λ (k : Run). k ∷ f) (sym q)
      go (y ∷ f) (suc j) q = go f j q

-- behind the last entry there is none
pub entry_end : {h : ℕ} {r : List ℕ} {f : List Run} → Entries h r f → drop 26 f ≡ []
entry_end {f = f} x = drop_of_length-le f {i = 26} x.few

pub entry_is : (h : ℕ) (r : List ℕ) (p j a b d : ℕ) → p ≡ entry_place j → a ≡ get2 r p → b ≡ get2 r (p + 2) → d ≡ get_or r (p + 4) 0 → run a (b * h + d) ≡ read_entry h r (entry_place j)
entry_is h r p j a b d q ea eb ed =
    let e : run a (b * h + d) ≡ read_entry h r p = λ i. run (ea i) (eb i * h + ed i) in
    e ∙ ap (λ (x : ℕ). read_entry h r x) q
