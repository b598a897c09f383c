-- What holds of a table that is taken. Assumes nothing.
use mathlib.Core.Path.{◌≡◌, refl, sym, ap, ◌∙◌, subst}
use mathlib.Core.Option.{some}
use mathlib.Core.List.{List}
use Prim.Native.Nat.{ℕ, zero, suc, ◌*◌, ◌<◌}
use native.Mathlib.Omega.{arith}
use lib.Dec.{T}
use lib.ListN.{length}
use Rattle.model.specs.Model.{Geometry, Label, Volume, slots}
use Rattle.model.proofs.Lists.{find_All, same→eq, true_is}
use Rattle.rules.specs.Layout.{link}
use Rattle.rules.specs.Reading.{chop, read}
use Rattle.rules.specs.Slots.{found}
use Rattle.rules.specs.Table.{named, taken}
use Rattle.rules.proofs.Keyed.{find_pass}
use Rattle.rules.proofs.LabelBack.{length_1}
use Rattle.rules.proofs.Taken.{taken_is}
use Rattle.rules.specs.Predicates.{Limits}
use Rattle.rules.specs.Sound.{LabelOk, Sound}
use Rattle.rules.proofs.Meaning.{taken_sound}
use Rattle.dscb.specs.Records.{slot_bytes}
use Rattle.dscb.specs.Tests.{slot_named}
use Rattle.dscb.proofs.Links.{slot_found, slot_none}
use Rattle.dscb.proofs.Records.{chop_slot, length_chop}
use Rattle.dscb.proofs.Written.{link1_back}
use Rattle.dscb.specs.Forms.{linked_slot}
use Rattle.check_table.proofs.Pieces.{in_table, third_below}
use Rattle.check_table.proofs.Read.{records_are}
use Rattle.check_table.proofs.Whole.{geometry_read, taken_long}
use Rattle.open_table.specs.Opening.{LabelIn, Ready}

pub ready : (t : List ℕ) → T (taken t) → Ready t (read t)
ready t x =
    let p = taken_is t x in
    let y = taken_sound t x in
    let least = y.limits.least in
    let l = taken_long t x in
    let n : length t ≡ 140 * slots (read t).geometry = omega arith in
    record {
      valid = p.0;
      bytes = sym p.1;
      sound = subst (λ (rs : List (List ℕ)). Sound rs (read t)) (records_are (read t).geometry t n) y;
      limits = y.limits;
      long = n;
      slot0 = sym (geometry_read t (omega arith));
    }

-- ---- a data set that is found

pub found_label : (t : List ℕ) (v : Volume) → Ready t v → (name : List ℕ) (l : Label) → found v name ≡ some l → LabelIn t v.geometry name l
found_label t v h name l e =
    let g = v.geometry in
    let rs = chop (slots g) t in
    let x = find_All (LabelOk g rs) (named name) v.labels l h.sound.labels e in
    let many = length_chop (slots g) t in
    let least = h.limits.least in
    let a : l.slot < slots g = let w = in_table rs l.slot (ap length (sym x.one) ∙ length_1 g l x.good) in omega arith in
    let b : l.slot3 < slots g = let w = third_below g rs l (omega arith) x in omega arith in
    record {
      good = x.good;
      name = same→eq l.name name (true_is (find_pass (named name) v.labels l e));
      inside = a;
      inside3 = b;
      one = sym (x.one ∙ chop_slot (slots g) t l.slot a);
      three = λ p. sym (x.three p ∙ chop_slot (slots g) t l.slot3 b);
    }

-- the slot of its format 3, as the format 1 names it
pub third_is : (t : List ℕ) (g : Geometry) (n : List ℕ) (l : Label) → Limits g → LabelIn t g n l → linked_slot g (slot_bytes t l.slot) ≡ l.slot3
third_is t g n l lim x =
    ap (λ (r : List ℕ). linked_slot g r) x.one
    ∙ ap (λ (y : List ℕ). slot_named g.heads g.records g.vtoc_start (slots g) y) (link1_back g l x.good)
    ∙ named l.slot3 x.inside3
  where
    named : (k : ℕ) → k < slots g → slot_named g.heads g.records g.vtoc_start (slots g) (link g k) ≡ k
    named zero u = slot_none g.heads g.records g.vtoc_start (slots g)
    named (suc k) u = slot_found g (slots g) (link g (suc k)) lim.heads lim.records (suc k) (omega arith) u refl
