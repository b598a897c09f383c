-- A walk along the chain of format 5s, member by member. Assumes nothing.
use mathlib.Core.Path.{◌≡◌, subst}
use mathlib.Core.List.{List, []}
use Prim.Native.Nat.{ℕ, suc, ◌≤◌}
use native.Mathlib.Omega.{arith}
use lib.ListN.{drop, take}
use Rattle.model.specs.Model.{Geometry, Run, slots}
use Rattle.dscb.specs.Records.{slot_bytes}
use Rattle.free_extents.specs.FreeList.{Entries, Listed, Lists}
use Rattle.free_extents.proofs.Chain.{lists_end, lists_here, lists_none}

-- The members from slot k on are still to be looked at, `left` of them at most. P says what is known, by the free extents in
-- them.
pub record Going (g : Geometry) (t : List ℕ) (left k : ℕ) (P : List Run → Type 0) : Type 0 where
  pub members : ℕ
  pub rest : List Run
  pub few : members ≤ left
  pub lists : Lists g t members k rest
  pub known : P rest

-- a member as it was read: r are its bytes, and h are the heads
pub entries_read : (h h' : ℕ) (r r' : List ℕ) (f : List Run) → h' ≡ h → r' ≡ r → Entries h r f → Entries h' r' f
entries_read h h' r r' f e q x = rw (e, q) x

module _ (g : Geometry) (t : List ℕ) (P : List Run → Type 0) where
  pub going_all : (n : ℕ) → n ≡ slots g → (f : List Run) → Listed g t f → P f → Going g t n 1 P
  going_all n e f x p = record { members = x.members; rest = f; few = omega (arith, e, x.few); lists = x.lists; known = p }

  module _ (left k : ℕ) (x : Going g t left k P) where
    -- one member, and the slot r of the next; one fewer is left
    pub going_next : 1 ≤ k → (less : ℕ) → left ≤ suc less → (r : ℕ) (Q : List Run → Type 0) → ((f : List Run) → Entries g.heads (slot_bytes t k) (take 26 f) → P f → Q (drop 26 f))
        → ((m : ℕ) (f : List Run) → Lists g t (suc m) k f → Lists g t m r (drop 26 f)) → Going g t less r Q
    going_next p less u r Q here next =
        let y = lists_here g t k x.rest x.members p x.lists in
        let m = y.2.0 in
        let e : x.members ≡ suc m = y.2.1 in
        let w = x.few in
        record {
          members = m;
          rest = drop 26 x.rest;
          few = omega arith;
          lists = next m x.rest (subst (λ (i : ℕ). Lists g t i k x.rest) e x.lists);
          known = here x.rest y.1 x.known;
        }

    -- no member is left
    pub going_none : k ≡ 0 → P []
    going_none e = subst P (lists_none g t x.members x.rest (subst (λ (i : ℕ). Lists g t x.members i x.rest) e x.lists)) x.known

    pub going_end : left ≤ 0 → P []
    going_end h =
        let w = x.few in
        let e : x.members ≡ 0 = omega arith in
        subst P (lists_end g t k x.rest (subst (λ (i : ℕ). Lists g t i k x.rest) e x.lists)) x.known
