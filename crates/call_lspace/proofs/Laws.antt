-- The sums over the free extents, run by run, and the space inquiry as a whole. Assumes nothing.
use mathlib.Core.Path.{◌≡◌, refl, sym, ap, ap₂, ◌∙◌, subst}
use mathlib.Core.Bool.{Bool, true, false, ◌&&◌}
use mathlib.Core.List.{List, [], ◌∷◌, ◌++◌}
use Prim.Native.Nat.{ℕ, suc, ◌+◌, ◌*◌, ◌/◌, ◌%◌, ◌≤◌, ◌<◌, max}
use native.Mathlib.Nat.{div-le_self, mod-le}
use mathlib.Core.Logic.{⊎_elim}
use native.Mathlib.Omega.{arith}
use lib.Dec.{eqb}
use lib.ListN.{drop, length, length-append, take, take-append-drop}
use Rattle.call_lspace.specs.declared.Sums.{Sums}
use Rattle.check_table.specs.declared.Verdict.{Verdict}
use Rattle.model.specs.Basics.{sum_of}
use Rattle.model.specs.Model.{Geometry, Run, Separate, format0s, free, tracks}
use Rattle.model.specs.Predicates.{All}
use Rattle.rules.specs.Calls.{answer, inquire, longest, lspace, numbers, rule, space_numbers}
use Rattle.rules.specs.Entries.{lent, perform, result_of}
use Rattle.rules.specs.Predicates.{Limits}
use Rattle.rules.specs.Reading.{read}
use Rattle.bitmap.proofs.Bits.{le_or_lt}
use Rattle.dscb.specs.Forms.{geometry_of}
use Rattle.free_extents.specs.FreeList.{Listed}
use Rattle.free_extents.proofs.Chain.{runs_listed}
use Rattle.open_table.specs.Opening.{OpenedAs}
use Rattle.open_table.proofs.Calls.{AsksTable, passed}
use Rattle.open_table.proofs.Numbers.{known}
use Rattle.call_lspace.specs.Totals.{Below, Summed, none}

-- ---- the sums

pub summed_empty : (h : ℕ) (f : List Run) (s : Sums) → f ≡ [] → Summed h f s s
summed_empty h f s e =
    let a : sum_of (λ x. x.count / h) f ≡ 0 = ap (λ (y : List Run). sum_of (λ x. x.count / h) y) e in
    let b : sum_of (λ x. x.count % h) f ≡ 0 = ap (λ (y : List Run). sum_of (λ x. x.count % h) y) e in
    let c : length f ≡ 0 = ap length e in
    let d : longest f ≡ 0 = ap (λ (y : List Run). longest y) e in
    record { cylinders = omega arith; odd = omega arith; many = omega arith; long = omega arith }

-- the free extents f, of which x is the first
pub summed_next : (h : ℕ) (x : Run) (f rest : List Run) (s u r : Sums) → f ≡ x ∷ rest → u.cylinders ≡ s.cylinders + x.count / h → u.odd ≡ s.odd + x.count % h → u.many ≡ s.many + 1
    → u.long ≡ max s.long x.count → Summed h rest u r → Summed h f s r
summed_next h x f rest s u r e ec eo em el y =
    let a : sum_of (λ x. x.count / h) f ≡ x.count / h + sum_of (λ x. x.count / h) rest = ap (λ (y : List Run). sum_of (λ x. x.count / h) y) e in
    let b : sum_of (λ x. x.count % h) f ≡ x.count % h + sum_of (λ x. x.count % h) rest = ap (λ (y : List Run). sum_of (λ x. x.count % h) y) e in
    let c : length f ≡ suc (length rest) = ap length e in
    let d : longest f ≡ max x.count (longest rest) = ap (λ (y : List Run). longest y) e in
    record {
      cylinders = let z = y.cylinders in omega arith;
      odd = let z = y.odd in omega arith;
      many = let z = y.many in omega arith;
      long = let z = y.long in omega arith;
    }

long_append : (f g : List Run) → longest (f ++ g) ≡ max (longest f) (longest g)
long_append [] g = omega arith
long_append (x ∷ f) g = let i = long_append f g in omega arith

sum_append : (F : Run → ℕ) (f g : List Run) → sum_of F (f ++ g) ≡ sum_of F f + sum_of F g
sum_append F [] g = omega arith
sum_append F (x ∷ f) g = let i = sum_append F f g in omega arith

-- the first k of f, and the others
pub summed_more : (h k : ℕ) (f : List Run) (s u r : Sums) → Summed h (take k f) s u → Summed h (drop k f) u r → Summed h f s r
summed_more h k f s u r x y =
    let e = take-append-drop k f in
    let a : sum_of (λ x. x.count / h) f ≡ sum_of (λ x. x.count / h) (take k f) + sum_of (λ x. x.count / h) (drop k f)
    = ap (λ (y : List Run). sum_of (λ x. x.count / h) y) (sym e) ∙ sum_append (λ x. x.count / h) (take k f) (drop k f) in
    let b : sum_of (λ x. x.count % h) f ≡ sum_of (λ x. x.count % h) (take k f) + sum_of (λ x. x.count % h) (drop k f)
    = ap (λ (y : List Run). sum_of (λ x. x.count % h) y) (sym e) ∙ sum_append (λ x. x.count % h) (take k f) (drop k f) in
    let c : length f ≡ length (take k f) + length (drop k f) = ap length (sym e) ∙ length-append (take k f) (drop k f) in
    let d : longest f ≡ max (longest (take k f)) (longest (drop k f)) = ap (λ (y : List Run). longest y) (sym e) ∙ long_append (take k f) (drop k f) in
    record {
      cylinders = let z = x.cylinders in let w = y.cylinders in omega arith;
      odd = let z = x.odd in let w = y.odd in omega arith;
      many = let z = x.many in let w = y.many in omega arith;
      long = let z = x.long in let w = y.long in omega arith;
    }

-- what is known on the way through f: what the rest adds, all of f adds from the start
abbrev pub SumsOnwards : ℕ → List Run → Sums → List Run → Type 0
SumsOnwards h f s rest = (r : Sums) → Summed h rest s r → Summed h f none r

-- ---- how large the sums get

pub below_more : (m n : ℕ) (s : Sums) → m ≤ n → Below m s → Below n s
below_more m n s h b = record {
  cylinders = let z = b.cylinders in omega arith;
  odd = let z = b.odd in omega arith;
  many = let z = b.many in omega arith;
  long = let z = b.long in omega arith;
}

-- one entry more, of c tracks
pub sums_below : (n j c h : ℕ) (s u : Sums) → c ≤ 16711680 → 16711680 ≤ n → u.cylinders ≡ s.cylinders + c / h → u.odd ≡ s.odd + c % h → u.many ≡ s.many + 1 → u.long ≡ max s.long c
    → Below (n + j * 16711680) s → Below (n + (j + 1) * 16711680) u
sums_below n j c h s u k l ec eo em el b =
    let q = div-le_self c h in
    let w = mod-le c h in
    record {
      cylinders = let z = b.cylinders in omega arith;
      odd = let z = b.odd in omega arith;
      many = let z = b.many in omega arith;
      long = let z = b.long in omega arith;
    }

-- ---- the six numbers

-- the sums of free extents are no more than their tracks
module _ (h : ℕ) where
  pub bounded : (lo hi : ℕ) (f : List Run) → Separate lo hi f → lo ≤ hi
      → (sum_of (λ x. x.count / h) f + lo ≤ hi) × (sum_of (λ x. x.count % h) f + lo ≤ hi) × (length f + lo ≤ hi) × (longest f + lo ≤ hi)
  bounded lo hi [] s l = (omega arith, omega arith, omega arith, omega arith)
  bounded lo hi (x ∷ f) s l =
      let q = div-le_self x.count h in
      let w = mod-le x.count h in
      let a = s.0 in
      let b = s.1 in
      let c = s.2 in
      ⊎_elim
      (λ k. let i = bounded (suc (x.start + x.count)) hi f s.3 k in let i0 = i.0 in let i1 = i.1 in let i2 = i.2 in let i3 = i.3 in (omega arith, omega arith, omega arith, omega arith))
      (λ k. let e : f ≡ [] = last f s.3 k in
      let z0 : sum_of (λ x. x.count / h) f ≡ 0 = ap (λ (y : List Run). sum_of (λ x. x.count / h) y) e in
      let z1 : sum_of (λ x. x.count % h) f ≡ 0 = ap (λ (y : List Run). sum_of (λ x. x.count % h) y) e in
      let z2 : length f ≡ 0 = ap length e in
      let z3 : longest f ≡ 0 = ap (λ (y : List Run). longest y) e in
      (omega arith, omega arith, omega arith, omega arith))
      (le_or_lt (suc (x.start + x.count)) hi)
    where
      last : (f : List Run) → Separate (suc (x.start + x.count)) hi f → hi < suc (x.start + x.count) → f ≡ []
      last [] s k = refl
      last (y ∷ f) s k = absurd (let a = s.0 in let b = s.1 in let c = s.2 in omega arith)

module _ (h : ℕ) (f : List Run) (s : Sums) (x : Summed h f none s) where
  pub six_numbers : (e : ℕ) → (s.cylinders ∷ s.odd ∷ s.many ∷ s.long / h ∷ s.long % h ∷ e ∷ []) ≡ space_numbers h f e
  six_numbers e =
      let ec : s.cylinders ≡ sum_of (λ r. r.count / h) f = let y = x.cylinders in omega arith in
      let eo : s.odd ≡ sum_of (λ r. r.count % h) f = let y = x.odd in omega arith in
      let ek : s.many ≡ length f = let y = x.many in omega arith in
      let el : s.long ≡ longest f = let y = x.long in omega arith in
      λ i. ec i ∷ eo i ∷ ek i ∷ el i / h ∷ el i % h ∷ e ∷ []

  -- each fits two bytes
  pub six_small : (n : ℕ) → Separate 0 n f → n ≤ 65535 → Below 65535 s
  six_small n a u =
      let b = bounded h 0 n f a (omega arith) in
      let b0 = b.0 in
      let b1 = b.1 in
      let b2 = b.2 in
      let b3 = b.3 in
      record {
        cylinders = let y = x.cylinders in omega arith;
        odd = let y = x.odd in omega arith;
        many = let y = x.many in omega arith;
        long = let y = x.long in omega arith;
      }

-- and so do those of what a table lists
pub sums_small : (g : Geometry) (t : List ℕ) → Limits g → ((f : List Run) × Listed g t f) → (s : Sums) → ((f : List Run) → Listed g t f → Summed g.heads f none s) → Below 65535 s
sums_small g t limit w s h = six_small g.heads w.0 s (h w.0 w.1) (tracks g) w.1.apart limit.tracks_most

pub all_small : (h e : ℕ) (s : Sums) → Below 65535 s → e < 65536 → All (λ x. x < 65536) (s.cylinders ∷ s.odd ∷ s.many ∷ s.long / h ∷ s.long % h ∷ e ∷ [])
all_small h e s x w =
    let a = x.cylinders in
    let b = x.odd in
    let d = x.many in
    let f = x.long in
    let i = div-le_self s.long h in
    let j = mod-le s.long h in
    (omega arith, (omega arith, (omega arith, (omega arith, (omega arith, (w, tt))))))

-- ---- the call

and_true : (b : Bool) → b ≡ (b && true)
and_true true = refl
and_true false = refl

module _ (t a : List ℕ) (ok : Bool) (long : ok ≡ eqb (length a) 24) where
  pub inquires : AsksTable (lent t a []) lspace ok true inquire
  unfolding rule
  inquires = record { lengths = long ∙ and_true (eqb (length a) 24); rules = λ v. refl }

  module _ {o : Verdict} (x : OpenedAs t ok true o) where
    pub lists : Listed (geometry_of o.geometry) t (free (read t).geometry (read t).labels)
    lists =
        let w = known x in
        subst (λ (y : Geometry). Listed y t (free (read t).geometry (read t).labels)) (sym w.geometry_is) (runs_listed t (read t) w.ready.sound)

    pub inquired : (six a' : List ℕ) → ((f : List Run) → Listed (geometry_of o.geometry) t f → six ≡ space_numbers (geometry_of o.geometry).heads f o.format0s) → a' ≡ answer (numbers six)
        → result_of 0 (lent t a' []) ≡ perform (lent t a []) lspace
    inquired six a' es ea =
        let w = known x in
        let f = free (read t).geometry (read t).labels in
        let q : six ≡ space_numbers (read t).geometry.heads f (length (format0s (read t)))
        = es f lists ∙ ap₂ (λ (y : Geometry) (n : ℕ). space_numbers y.heads f n) w.geometry_is w.count_is in
        passed inquires x 0 (lent t a' []) (ap₂ (λ (y : List ℕ) (ns : List ℕ). result_of 0 (lent y ns [])) w.ready.bytes (ea ∙ ap (λ (ns : List ℕ). answer (numbers ns)) q))
