-- Slots written one after the other: when none is left, the table is the volume's. Assumes nothing.
use mathlib.Core.Path.{◌≡◌, refl, sym, ap, ◌∙◌, subst}
use mathlib.Core.List.{List, [], ◌∷◌}
use Prim.Native.Nat.{ℕ, ◌+◌, ◌*◌, ◌/◌, ◌≤◌, ◌<◌}
use native.Mathlib.Omega.{arith}
use native.Mathlib.Decide.{ℕ_discrete}
use lib.ListN.{length}
use lib.Seq.{ext_get_or}
use lib.Dec.{ltb}
use borrow.Author.Tests.{ne_eqb}
use Rattle.model.specs.Basics.{bit, zeros}
use Rattle.model.specs.Model.{Label, Volume, free, slots, tally, used}
use Rattle.model.proofs.Lists.{All_at, by}
use Rattle.model.specs.Predicates.{All}
use Rattle.rules.specs.Layout.{encode, fives, records, whole}
use Rattle.rules.specs.Reading.{chop, record_at}
use Rattle.rules.specs.Slots.{insert_label}
use Rattle.rules.proofs.TableBack.{chop_encode, length_records, lengths_all}
use Rattle.rules.proofs.Taken.{length_encode}
use Rattle.rules.specs.Predicates.{Valid}
use Rattle.rules.specs.Sound.{FiveOk, LabelOk}
use Rattle.rules.proofs.Meaning.{is_sound, whole_chop}
use Rattle.dscb.specs.Records.{put_record, slot_bytes}
use Rattle.dscb.proofs.Records.{chop_slot, length_chop, put_length, put_other, put_same}
use Rattle.update.specs.Pending.{Pending, record_of}

-- a slot is written: with what it is to hold, or with anything where it is to be written once more
pub put_slot : (w : Volume) (ps t : List ℕ) (p : ℕ) (r : List ℕ) → Pending w (p ∷ ps) t → p < slots w.geometry → length r ≡ 140
    → (tally p ps ≡ 0 → r ≡ record_of w p) → Pending w ps (put_record t p r)
put_slot w ps t p r h u len e =
    let n = h.long in
    let fits : 140 * p + 140 ≤ length t = omega arith in
    record {
      long = put_length t p r len fits ∙ h.long;
      right = λ k b z.
          elim (ℕ_discrete k p) [
            | yes q ↦ ap (slot_bytes (put_record t p r)) q ∙ put_same t p r len fits ∙ e (subst (λ (x : ℕ). tally x ps ≡ 0) q z) ∙ ap (record_of w) (sym q)
            | no q ↦ put_other t p r len fits k q ∙ h.right k b (let o = ap bit (ne_eqb p k (λ x. q (sym x))) in omega arith)
          ];
    }

encode_records : (v : Volume) → encode v ≡ whole (records v)
unfolding encode
encode_records v = refl

pub put_all : (w : Volume) (t : List ℕ) → Valid w → Pending w [] t → t ≡ encode w
put_all w t v h =
    let n = slots w.geometry in
    let l = length_records w v in
    let c = length_chop n t in
    sym (whole_chop n t h.long)
    ∙ ap whole (ext_get_or [] (chop n t) (records w) (c ∙ sym l) (λ k u. chop_slot n t k (omega arith) ∙ h.right k (omega arith) refl))
    ∙ sym (encode_records w)

-- ---- what a volume has in its slots

pub slot_of : (w : Volume) → Valid w → (k : ℕ) → k < slots w.geometry → slot_bytes (encode w) k ≡ record_of w k
slot_of w v k u =
    let n = slots w.geometry in
    let l = length_encode w v in
    let d : n ≡ length (encode w) / 140 = omega arith in
    sym (chop_slot n (encode w) k u) ∙ ap (λ (j : ℕ). record_at (chop j (encode w)) k) d ∙ ap (λ (rs : List (List ℕ)). record_at rs k) (chop_encode w v)

pub length_of : (w : Volume) → Valid w → (k : ℕ) → k < slots w.geometry → length (record_of w k) ≡ 140
length_of w v k u = let l = length_records w v in All_at (λ r. length r ≡ 140) [] (records w) (lengths_all w v) k (omega arith)

pub zeros_of : (w : Volume) → Valid w → (k : ℕ) → k < slots w.geometry → tally k (used w.labels w.chain) ≡ 0 → zeros 140 ≡ record_of w k
zeros_of w v k u z = sym ((is_sound w v).rest k u z)

pub fives_of : (w : Volume) → Valid w → All (FiveOk w.geometry (records w)) (fives w.chain (free w.geometry w.labels))
fives_of w v = (is_sound w v).fives

All_insert : (P : Label → Type 0) (l : Label) (ls : List Label) → All P (insert_label l ls) → P l
All_insert P l [] a = a.0
All_insert P l (m ∷ ms) a =
    by (ltb l.slot m.slot) (λ h. let b : All P (l ∷ m ∷ ms) = rw h at a in b.0) (λ h. let b : All P (m ∷ insert_label l ms) = rw h at a in All_insert P l ms b.1)

pub label_of : (w : Volume) → Valid w → (l : Label) (others : List Label) → w.labels ≡ insert_label l others → LabelOk w.geometry (records w) l
label_of w v l others e =
    All_insert (LabelOk w.geometry (records w)) l others
    (subst (λ (ls : List Label). All (LabelOk w.geometry (records w)) ls) e (is_sound w v).labels)
