-- A piece joins the last extent: how the code tells, and what it writes then. Assumes nothing.
use mathlib.Core.Path.{◌≡◌, refl, sym, ap, ap₂, ◌∙◌, subst}
use mathlib.Core.Bool.{Bool, true, false, cond}
use mathlib.Core.List.{List, [], ◌∷◌, ◌++◌, map}
use Prim.Native.Nat.{ℕ, zero, suc, ◌+◌, ◌-◌, ◌≤◌, ◌<◌}
use native.Mathlib.Omega.{arith}
use borrow.Author.Tests.{eqb-true}
use lib.Dec.{eqb}
use lib.ListN.{length, take, drop, get_or}
use Rattle.std.proofs.lemmas.List.{take_rest}
use lib.Seq.{take_all, take-suc}
use Rattle.model.specs.Basics.{bit}
use Rattle.model.specs.Model.{Extent, Geometry, Label, Run, extent, run}
use Rattle.model.proofs.Lists.{clash}
use Rattle.rules.specs.Calls.{joined, lengthened, longer, track_after}
use Rattle.rules.specs.Joining.{touches}
use Rattle.rules.specs.Layout.{extent_part}
use Rattle.rules.specs.Reading.{read_extent}
use Rattle.rules.specs.Slots.{with_extents}
use Rattle.rules.proofs.Joined.{as_before, count_after_joining, last_lengthened}
use Rattle.choose_pieces.specs.Grant.{row}
use Rattle.dscb.proofs.Blocks.{no_extent}
use Rattle.dscb.proofs.Written.{read_at, read_length}
use Rattle.set_extents.specs.Change.{InRecords, SetIn, extents_in, granted, part_of, shortened}
use Rattle.set_extents.proofs.Cutting.{good_read}
use Rattle.set_extents.proofs.Pieces.{run_is, runs_length}

-- ---- the last extent

touches_none : (es : List Extent) (s : ℕ) → length es ≡ 0 → touches es s ≡ false
touches_none [] s h = refl
touches_none (e ∷ es) s h = absurd (omega arith)

touches_some : (es : List Extent) (s : ℕ) → touches es s ≡ true → 1 ≤ length es
touches_some [] s h = clash h refl
touches_some (e ∷ es) s h = omega arith

touches_last : (es : List Extent) (n s : ℕ) → length es ≡ suc n → touches es s ≡ eqb s (track_after (get_or es n no_extent))
touches_last [] n s h = absurd (omega arith)
touches_last (e ∷ []) zero s h = refl
touches_last (e ∷ []) (suc n) s h = absurd (omega arith)
touches_last (e ∷ f ∷ es) zero s h = absurd (omega arith)
touches_last (e ∷ f ∷ es) (suc n) s h = touches_last (f ∷ es) n s (omega arith)

-- what was told of track t, of the same extents and the same track
pub told : (es fs : List Extent) (s t : ℕ) (joins b : Bool) → es ≡ fs → s ≡ t → joins ≡ touches es t → joins ≡ b → touches fs s ≡ b
told es fs s t joins b own e f g = ap₂ touches (sym own) e ∙ sym f ∙ g

part_some : (b s c : ℕ) → 1 ≤ c → part_of b s c ≡ extent b (run s c) ∷ []
part_some b s zero h = absurd (omega arith)
part_some b s (suc c) h = refl

module _ (g : Geometry) (f1 f3 : List ℕ) (n : ℕ) (d : SetIn g f1 f3 n) where
  abbrev es : List Extent
  es = extents_in g f1 f3 n

  abbrev last : Extent
  last = read_extent g.heads (extent_part f1 f3 (n - 1))

  pub no_extent_lem : n ≡ 0 → (s : ℕ) → false ≡ touches es s
  no_extent_lem z s = sym (touches_none es s (let l = read_length g f1 f3 n in omega arith))

  -- what `extent_at` asks of the last extent
  pub last_in : 1 ≤ n → (n - 1 < 16) × (1 ≤ last.over.count) × (last.over.start + last.over.count ≤ 65535)
  last_in h =
      let x = good_read g f1 f3 n (n - 1) d.good (omega arith) in
      (omega (arith, d.most), x.full, omega (arith, x.ends, d.limits.tracks_most))

  last_read : 1 ≤ n → get_or es (n - 1) no_extent ≡ last
  last_read h = read_at g f1 f3 n (n - 1) (omega arith)

  pub some_extent : (start : ℕ) → touches es start ≡ true → 1 ≤ n
  some_extent start t = let a = touches_some es start t in let l = read_length g f1 f3 n in omega arith

  pub fewer : (l : Label) → es ≡ l.extents → n - 1 ≤ length l.extents
  fewer l own = let a = ap length own in let b = read_length g f1 f3 n in omega arith

  module _ (s c : ℕ) (q : run s c ≡ last.over) where
    pub last_full : 1 ≤ n → 1 ≤ c
    last_full h = let a = ap (λ (r : Run). r.count) q in omega (arith, (last_in h).1)

    pub touches_is : 1 ≤ n → (a b : ℕ) → a ≡ b → eqb a (s + c) ≡ touches es b
    touches_is h a b e =
        ap₂ eqb e (ap (λ (r : Run). r.start + r.count) q ∙ ap track_after (sym (last_read h)))
        ∙ sym (touches_last es (n - 1) b (let l = read_length g f1 f3 n in omega arith))

    module _ (start : ℕ) (t : touches es start ≡ true) where
      -- the piece begins where it ends
      pub begins : start ≡ s + c
      begins = eqb-true start (s + c) (touches_is (some_extent start t) start start refl ∙ t)

      split : es ≡ take (n - 1) es ++ get_or es (n - 1) no_extent ∷ []
      split =
          let h = some_extent start t in
          let l = read_length g f1 f3 n in
          let e : suc (n - 1) ≡ n = omega arith in
          sym (take_all n es (omega arith)) ∙ ap (λ (k : ℕ). take k es) (sym e) ∙ take-suc es (n - 1) no_extent (omega arith)

      -- what `cut_records` writes: the first extents, and the last one up to the end of the piece
      is_longer : (kind count b : ℕ) → b ≡ cond (eqb kind 0x81) last.type_byte 0x01 → 1 ≤ c → (l : Label) → es ≡ l.extents
          → shortened (n - 1) b s (start + count - s) l ≡ longer (extent kind (run start count) ∷ []) l
      is_longer kind count b e full l own =
          let p : Extent = extent kind (run start count) in
          let z : Extent = get_or es (n - 1) no_extent in
          let front : List Extent = take (n - 1) es in
          let same : z ≡ last = last_read (some_extent start t) in
          let over : z.over ≡ run s c = ap (λ (y : Extent). y.over) same ∙ sym q in
          let long : start + count - s ≡ c + count = let w = begins in omega arith in
          let one : extent b (run s (start + count - s)) ≡ lengthened z p
          = λ i. extent ((e ∙ ap (λ (y : Extent). cond (eqb kind 0x81) y.type_byte 0x01) (sym same)) i)
          (run (sym (ap (λ (r : Run). r.start) over) i) ((long ∙ ap (λ (r : Run). r.count + count) (sym over)) i)) in
          let new : take (n - 1) es ++ part_of b s (start + count - s) ≡ joined es (p ∷ [])
          = ap (λ (y : List Extent). front ++ y) (part_some b s (start + count - s) (omega arith) ∙ ap (λ (y : Extent). y ∷ []) one)
          ∙ sym (last_lengthened front z p [] (begins ∙ ap (λ (r : Run). r.start + r.count) (sym over)))
          ∙ ap (λ (y : List Extent). joined y (p ∷ [])) (sym split) in
          ap (λ (y : List Extent). with_extents (take (n - 1) y ++ part_of b s (start + count - s)) l.ttr l) (sym own)
          ∙ ap (λ (y : List Extent). with_extents y l.ttr l) new
          ∙ ap (λ (y : List Extent). with_extents (joined y (p ∷ [])) l.ttr l) own

      pub written_longer : {r1 r3 : List ℕ} (kind count b : ℕ) → b ≡ cond (eqb kind 0x81) last.type_byte 0x01 → 1 ≤ c → (l : Label) → es ≡ l.extents
          → InRecords g (shortened (n - 1) b s (start + count - s) l) r1 r3 → InRecords g (longer (extent kind (run start count) ∷ []) l) r1 r3
      written_longer {r1} {r3} kind count b e full l own x = subst (λ (m : Label). InRecords g m r1 r3) (is_longer kind count b e full l own) x

-- ---- the pieces behind the first

joined_rest : (es : List Extent) (p : Extent) (ps : List Extent) → joined es (p ∷ ps) ≡ joined es (p ∷ []) ++ ps
joined_rest [] p ps = refl
joined_rest (e ∷ []) p ps = go (eqb p.over.start (track_after e))
  where
    go : (b : Bool) → cond b (lengthened e p ∷ ps) (e ∷ p ∷ ps) ≡ cond b (lengthened e p ∷ []) (e ∷ p ∷ []) ++ ps
    go true = refl
    go false = refl
joined_rest (e ∷ f ∷ es) p ps = ap (λ (y : List Extent). e ∷ y) (joined_rest (f ∷ es) p ps)

module _ (rows : List (List ℕ)) (some : 1 ≤ length rows) where
  module _ (g : Geometry) (kind n : ℕ) (l : Label) (many : length l.extents ≡ n) (s c : ℕ) (first : s ≡ get_or (get_or rows 0 []) 0 0) (size : c ≡ get_or (get_or rows 0 []) 1 0) where
    -- the first piece is in the records q1 and q3, the others are then in r1 and r3
    pub rest_joined : (q1 q3 r1 r3 : List ℕ) → touches l.extents s ≡ true
        → InRecords g (longer (extent kind (run s c) ∷ []) l) q1 q3
        → ((m : Label) (ps : List Run) → length m.extents ≡ n → take (length rows - 1) (drop 1 rows) ≡ map row ps → InRecords g m q1 q3 → InRecords g (granted kind ps m) r1 r3)
        → (ps : List Run) → rows ≡ map row ps → InRecords g (longer (map (extent kind) ps) l) r1 r3
    rest_joined q1 q3 r1 r3 t x step [] own = absurd (let k = runs_length rows [] own in omega arith)
    rest_joined q1 q3 r1 r3 t x step (p ∷ ps) own =
        let one : Extent = extent kind (run s c) in
        let m : Label = longer (one ∷ []) l in
        let same : run s c ≡ p = run_is rows (p ∷ ps) own 0 s c (omega arith) first size in
        let long : length m.extents ≡ n = let k = count_after_joining l.extents one [] in let b = ap bit t in omega arith in
        subst (λ (y : Label). InRecords g y r1 r3)
        (ap (λ (y : List Extent). with_extents y l.ttr l) (sym (joined_rest l.extents one (map (extent kind) ps)))
        ∙ ap (λ (y : Run). longer (extent kind y ∷ map (extent kind) ps) l) same)
        (step m ps long (take_rest rows 1 ∙ ap (drop 1) own) x)

  -- the first piece does not touch: all follow
  pub all_follow : (g : Geometry) (kind : ℕ) (l : Label) (ps : List Run) → rows ≡ map row ps → touches l.extents (get_or (get_or rows 0 []) 0 0) ≡ false → (r1 r3 : List ℕ)
      → InRecords g (granted kind ps l) r1 r3 → InRecords g (longer (map (extent kind) ps) l) r1 r3
  all_follow g kind l [] own t r1 r3 x = absurd (let k = runs_length rows [] own in omega arith)
  all_follow g kind l (p ∷ ps) own t r1 r3 x =
      let same : run (get_or (get_or rows 0 []) 0 0) (get_or (get_or rows 0 []) 1 0) ≡ p = run_is rows (p ∷ ps) own 0 _ _ (omega arith) refl refl in
      let u : touches l.extents p.start ≡ false = sym (ap (λ (r : Run). touches l.extents r.start) same) ∙ t in
      subst (λ (es : List Extent). InRecords g (with_extents es l.ttr l) r1 r3) (sym (as_before l.extents (extent kind p) (map (extent kind) ps) u)) x
