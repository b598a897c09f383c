-- Rename as a whole: its refusals in their order, and the table after it. Assumes nothing.
use mathlib.Core.Path.{◌≡◌, refl, sym, ap, ap₂, ◌∙◌}
use mathlib.Core.Bool.{Bool, true, false, not, ◌&&◌}
use mathlib.Core.List.{List, []}
use Prim.Native.Nat.{ℕ}
use lib.Dec.{T, eqb, eqb→eq}
use lib.ListN.{length}
use Rattle.check_table.specs.declared.Verdict.{Verdict}
use Rattle.model.specs.Basics.{any, zeros}
use Rattle.model.specs.Model.{Geometry, Label, slots}
use Rattle.model.proofs.Lists.{and_r, true_is}
use Rattle.rules.specs.Calls.{accept, nothing, refuse, rename, rename_set, rule}
use Rattle.rules.specs.Entries.{lent, perform, result_of, written}
use Rattle.rules.specs.Layout.{format1}
use Rattle.rules.specs.Reading.{read}
use Rattle.rules.specs.Slots.{replaced, with_name}
use Rattle.rules.specs.Table.{good_name, named}
use Rattle.rules.proofs.Labels.{unlike_any}
use Rattle.rules.specs.Predicates.{Unlike}
use Rattle.dscb.specs.Records.{put_record, slot_bytes}
use Rattle.names.specs.Find.{find_slot, in_slot, is_nothing}
use Rattle.dscb.specs.Forms.{geometry_of}
use Rattle.dscb_write.specs.Labels.{Format1}
use Rattle.dscb_write.proofs.Following.{good_is}
use Rattle.open_table.specs.Opening.{FoundAt, OpenedAs}
use Rattle.open_table.proofs.Calls.{AsksSet, arguments_long, asks, done, found_at}
use Rattle.open_table.proofs.Lookup.{on_volume_is}
use Rattle.open_table.proofs.Numbers.{known}
use Rattle.call_rename.proofs.Renamed.{renamed}

module _ (t old new a : List ℕ) (ok : Bool) (long : ok ≡ (eqb (length a) 24 && (eqb (length old) 44 && eqb (length new) 44))) where
  pub renames : AsksSet (lent t a []) (rename old new) ok (good_name old && good_name new) old (λ v. rename_set v old new)
  unfolding rule
  renames = record { lengths = long; rules = λ v. refl }

  module _ {o : Verdict} (x : OpenedAs t ok (good_name old && good_name new) o) where
    pub new_long : length new ≡ 44
    new_long = eqb→eq (length new) 44 (and_r (eqb (length old) 44) _ (arguments_long (asks renames) x))

    module _ (k : ℕ) (e : in_slot k ≡ find_slot t old (slots (geometry_of o.geometry))) where
      it : FoundAt t (read t) old k
      it = found_at renames x k e

      module _ (there : Bool) (d : there ≡ not (is_nothing (find_slot t new (slots (geometry_of o.geometry))))) where
        any_so : any (named new) (read t).labels ≡ there
        any_so = let w = known x in on_volume_is t w.is_taken _ w.geometry_is new there d

        rule_6 : there ≡ true → rename_set (read t) old new it.label ≡ refuse 6
        rule_6 p = rw (any_so, p)

        rule_0 : there ≡ false → rename_set (read t) old new it.label ≡ accept nothing (replaced (read t) old (with_name new it.label))
        rule_0 p = rw (any_so, p)

        pub duplicate : there ≡ true → result_of 6 (lent t a []) ≡ perform (lent t a []) (rename old new)
        duplicate p = done renames x it 6 (lent t a []) (sym (ap (written (lent t a [])) (rule_6 p)))

        pub name_put : there ≡ false → (t' a' : List ℕ) → ((g : Geometry) (l : Label) → Format1 g l (slot_bytes t k) → t' ≡ put_record t k (format1 g (with_name new l))) → a' ≡ zeros 24
            → result_of 0 (lent t' a' []) ≡ perform (lent t a []) (rename old new)
        name_put p t' a' put ea =
            let v = read t in
            let G = v.geometry in
            let l = it.label in
            let w = known x in
            let f : Format1 G l (slot_bytes t k) = good_is G l (slot_bytes t k) it.records.good (sym it.records.one ∙ ap (slot_bytes t) it.slot) in
            let u : Unlike new v.labels = unlike_any new v.labels (any_so ∙ p) in
            let n : T (good_name new) = and_r (good_name old) _ (true_is w.names_good) in
            let q = renamed v w.ready.valid old l it.same new new_long n u it.records.inside in
            let y = put G l f ∙ ap₂ (λ (b : List ℕ) (i : ℕ). put_record b i (format1 G (with_name new l))) w.ready.bytes (sym it.slot) ∙ q in
            done renames x it 0 (lent t' a' []) (ap₂ (λ (b c : List ℕ). result_of 0 (lent b c [])) y ea ∙ sym (ap (written (lent t a [])) (rule_0 p)))
