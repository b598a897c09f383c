-- From the calls' equations, on lent bytes, to the buffers whole. Assumes nothing.
use mathlib.Core.Path.{◌≡◌, refl, sym, ap, ap₂, ◌∙◌}
use mathlib.Core.List.{List, [], ◌++◌}
use Prim.Native.Nat.{ℕ, ◌+◌, ◌≤◌}
use native.Mathlib.Omega.{arith}
use borrow.Author.Tests.{le-leb, ne_eqb}
use lib.Dec.{eqb, leb, leb→le}
use mathlib.Core.Bool.{Bool, true, false, ◌&&◌, true≢false}
use Rattle.model.proofs.Lists.{and_l, and_r, by, true_is}
use lib.ListN.{length, take, drop, get_or, take-append-drop}
use lib.Seq.{length-take-le}
use Rattle.rules.specs.Calls.{Call, DateCall, allocate, obtain, request, scratch}
use Rattle.rules.specs.Promises.{ConvertsDate, geometry}
use Rattle.rules.specs.Entries.{Lent, Result, convert_date, initialise, lent, perform, result_of}
use Rattle.rules.proofs.DateCalls.{beside_any_table}
use Rattle.replay_record.specs.Asked.{answer_lent, bytes_of, get4, labels_lent, name_asked, over_at, table_lent}
use Rattle.replay_record.specs.Line.{digest, line_of}
use Rattle.replay_step.specs.declared.Operation.{Operation}
use Rattle.replay_step.specs.Operations.{Unused, number_of}
use Rattle.model.specs.Basics.{within}
use Rattle.replay_step.specs.Play.{Does, Loads, Tells, both_lent, called, play_done, fresh_answer, fresh_labels, initialised, is_date, later_op, lent_of, line_for, loaded, obtained, operated, played, preview_op, reading_op, told, whole_table}

-- whatever call was made with the first n bytes of the table and k of the answer
put_back : {r : ℕ} {t' a' : List ℕ} {p : Result} (asked t a l : List ℕ) (n k : ℕ) → n ≡ table_lent asked → k ≡ answer_lent asked
    → result_of r (lent t' a' []) ≡ p → result_of r (lent (t' ++ drop n t) (a' ++ drop k a) l) ≡ whole_table asked (lent t a l) p l
put_back {r} {t'} {a'} {p} asked t a l n k e f h =
    rw (e, f) (ap (λ (q : Result). whole_table asked (lent t a l) q l) h)

pub does_call : {c : Call} {r : ℕ} {t' a' : List ℕ} (c' : Call) (asked t a : List ℕ) (n k : ℕ) → c ≡ c' → n ≡ table_lent asked → k ≡ answer_lent asked
    → result_of r (lent t' a' []) ≡ perform (lent (take n t) (take k a) []) c → Does (λ b. called asked b c') t a r (t' ++ drop n t) (a' ++ drop k a)
unfolding called
does_call {c} {r} {t'} {a'} c' asked t a n k d e f h = λ l.
    put_back asked t a l n k e f
    (h
    ∙ ap (λ (x : Call). perform (lent (take n t) (take k a) []) x) d
    ∙ ap₂ (λ (i j : ℕ). perform (lent (take i t) (take j a) []) c') e f)

-- the table is only read
pub reads_call : {c : Call} {r : ℕ} {a' : List ℕ} (c' : Call) (asked t a : List ℕ) (n k : ℕ) → c ≡ c' → n ≡ table_lent asked → k ≡ answer_lent asked
    → result_of r (lent (take n t) a' []) ≡ perform (lent (take n t) (take k a) []) c → Does (λ b. called asked b c') t a r t (a' ++ drop k a)
reads_call {c} {r} {a'} c' asked t a n k d e f h = λ l.
    ap (λ (u : List ℕ). result_of r (lent u (a' ++ drop k a) l)) (sym (take-append-drop n t)) ∙ does_call c' asked t a n k d e f h l

-- a date is converted beside whatever table there is
pub tells_date : {c : DateCall} {r : ℕ} {a' : List ℕ} (c' : DateCall) (asked a : List ℕ) (k : ℕ) → c ≡ c' → k ≡ answer_lent asked
    → ConvertsDate c [] (take k a) [] r [] a' [] → Tells asked c' a r (a' ++ drop k a)
unfolding told
tells_date {c} {r} {a'} c' asked a k d f h = λ t l.
    ap (λ (u : List ℕ). result_of r (lent u (a' ++ drop k a) l)) (sym (take-append-drop (table_lent asked) t))
    ∙ put_back asked t a l (table_lent asked) k refl f
    (beside_any_table c (take k a) r a' h (take (table_lent asked) t) []
    ∙ ap₂ (λ (x : DateCall) (j : ℕ). convert_date x (lent (take (table_lent asked) t) (take j a) [])) d f)

pub obtains : {r : ℕ} {a' l' : List ℕ} (name asked t a l : List ℕ) (n k m : ℕ) → n ≡ table_lent asked → k ≡ answer_lent asked → m ≡ labels_lent asked
    → name ≡ name_asked asked → result_of r (lent (take n t) a' l') ≡ perform (lent (take n t) (take k a) (take m l)) (obtain name)
    → result_of r (lent t (a' ++ drop k a) (l' ++ drop m l)) ≡ obtained asked (lent t a l)
unfolding obtained
obtains {r} {a'} {l'} name asked t a l n k m e f g s h =
    ap (λ (u : List ℕ). result_of r (lent u (a' ++ drop k a) (l' ++ drop m l))) (sym (take-append-drop n t))
    ∙ ap (λ (q : Result). result_of q.number (lent (q.after.table ++ drop n t) (q.after.answer ++ drop k a) (q.after.extra ++ drop m l))) h
    ∙ rw (e, f, g, s)

pub initialises : {r : ℕ} {t' a' : List ℕ} (asked t a : List ℕ) (n k c h d s v : ℕ) → n ≡ table_lent asked → k ≡ answer_lent asked
    → c ≡ get4 asked 8 → h ≡ get4 asked 12 → d ≡ get4 asked 16 → s ≡ get4 asked 20 → v ≡ get4 asked 24
    → result_of r (lent t' a' []) ≡ initialise (geometry c h d s v) (lent (take n t) (take k a) [])
    → Does (initialised asked) t a r (t' ++ drop n t) (a' ++ drop k a)
unfolding initialised
initialises {r} {t'} {a'} asked t a n k c h d s v e f g₁ g₂ g₃ g₄ g₅ w = λ l.
    put_back asked t a l n k e f
    (w
    ∙ ap₂ (λ (i j : ℕ). initialise (geometry c h d s v) (lent (take i t) (take j a) [])) e f
    ∙ ap₂ (λ (i j : ℕ). initialise (geometry i j d s v) (lent_of asked (lent t a l) [])) g₁ g₂
    ∙ ap₂ (λ (i j : ℕ). initialise (geometry (get4 asked 8) (get4 asked 12) i j v) (lent_of asked (lent t a l) [])) g₃ g₄
    ∙ ap (λ (i : ℕ). initialise (geometry (get4 asked 8) (get4 asked 12) (get4 asked 16) (get4 asked 20) i) (lent_of asked (lent t a l) [])) g₅)

-- ---- by the operation

-- past a number that it is not
pub beyond : (k n : ℕ) → k ≤ n → (n ≡ k → ⊥) → k + 1 ≤ n
beyond k n h e = omega (arith, e)

-- a number outside a range is none of those in it
outside : (lo hi n k : ℕ) → within lo hi n ≡ false → lo ≤ k → k ≤ hi → eqb n k ≡ false
outside lo hi n k h a b =
    ne_eqb n k
    (λ q.
    let l : leb lo n ≡ true = le-leb lo n (let x : lo ≤ n = omega arith in x) in
    let m : leb n hi ≡ true = le-leb n hi (let x : n ≤ hi = omega arith in x) in
    true≢false (sym (ap₂ (λ (x y : Bool). x && y) l m) ∙ h))

-- no date and no preview
no_date : (n : ℕ) → within 1 11 n ≡ false → is_date n ≡ false
no_date n h =
    by (is_date n)
    (λ k.
    let l : 10 ≤ n = leb→le 10 n (and_l (leb 10 n) (leb n 11) (true_is k)) in
    let m : n ≤ 11 = leb→le n 11 (and_r (leb 10 n) (leb n 11) (true_is k)) in
    absurd (true≢false (sym (ap₂ (λ (x y : Bool). x && y) (le-leb 1 n (let x : 1 ≤ n = omega arith in x)) (le-leb n 11 m)) ∙ h)))
    (λ k. k)

module _ (r : List ℕ) (b : Lent) {x : Result} where
  -- what is done for operation k is done for its number
  pub numbered : {op : Operation} {n : ℕ} (k : Operation) → number_of op ≡ n → op ≡ k → x ≡ operated (number_of k) r b → x ≡ operated n r b
  numbered k e d h = h ∙ ap (λ (o : Operation). operated (number_of o) r b) (sym d) ∙ ap (λ (i : ℕ). operated i r b) e

  pub unused : (n : ℕ) → Unused n → x ≡ result_of 99 b → x ≡ operated n r b
  unfolding operated later_op reading_op preview_op
  unused n u h =
      let none : (k : ℕ) → 1 ≤ k → k ≤ 11 → eqb n k ≡ false = λ k. outside 1 11 n k u.0 in
      rw (none 1 (omega arith) (omega arith), none 2 (omega arith) (omega arith), none 3 (omega arith) (omega arith), none 4 (omega arith) (omega arith), none 5 (omega arith) (omega arith), none 6 (omega arith) (omega arith), none 7 (omega arith) (omega arith), none 8 (omega arith) (omega arith), none 9 (omega arith) (omega arith), no_date n u.0, u.1) h

-- ---- put, and the line

pub loads : {t' bs : List ℕ} (asked t : List ℕ) (p : ℕ) → p ≡ get4 asked 8 → bs ≡ bytes_of asked → t' ≡ over_at p bs t → Loads asked t 0 t'
unfolding loaded
loads {t'} {bs} asked t p e f h = λ a l.
    ap (λ (u : List ℕ). result_of 0 (lent u a l)) (h ∙ ap₂ (λ (i : ℕ) (s : List ℕ). over_at i s t) e f)

pub reported : {line : List ℕ} (asked t a l : List ℕ) (r n m x y : ℕ) → n ≡ table_lent asked → m ≡ labels_lent asked → x ≡ digest (take n t)
    → y ≡ digest (take m l) → line ≡ line_of (get_or asked 0 0) r (take 24 a) x y → line ≡ line_for asked (result_of r (lent t a l))
unfolding line_for
reported {line} asked t a l r n m x y e f g h k =
    k ∙ ap₂ (λ (i j : ℕ). line_of (get_or asked 0 0) r (take 24 a) i j) (g ∙ ap (λ (i : ℕ). digest (take i t)) e) (h ∙ ap (λ (i : ℕ). digest (take i l)) f)

pub step_done : {line t' a' l' : List ℕ} {r : ℕ} (asked t a l : List ℕ) → a ≡ fresh_answer → l ≡ fresh_labels
    → result_of r (lent t' a' l') ≡ operated (get_or asked 0 0) asked (lent t a l) → line ≡ line_for asked (result_of r (lent t' a' l')) → both_lent line t' ≡ played asked t
unfolding played play_done
step_done {line} {t'} {a'} {l'} {r} asked t a l e f h k =
    let d : result_of r (lent t' a' l') ≡ play_done asked t = h ∙ ap₂ (λ (i j : List ℕ). operated (get_or asked 0 0) asked (lent t i j)) e f in
    ap₂ both_lent (k ∙ ap (λ (q : Result). line_for asked q) d) (ap (λ (q : Result). q.after.table) d)

-- so many bytes are lent
pub lent_long : (n m : ℕ) (t : List ℕ) → length t ≡ m → n ≤ m → n ≡ length (take n t)
lent_long n m t h k = sym (length-take-le n t (omega arith))

pub same_request : {n n' at at' : List ℕ} {k k' s s' a a' v v' o o' : ℕ} {d d' : List ℕ} → n ≡ n' → at ≡ at' → k ≡ k' → s ≡ s' → a ≡ a' → v ≡ v' → o ≡ o' → d ≡ d'
    → allocate (request n at k s a v o d) ≡ allocate (request n' at' k' s' a' v' o' d')
same_request {n} {n'} {at} {at'} {k} {k'} {s} {s'} {a} {a'} {v} {v'} {o} {o'} {d} {d'} e₁ e₂ e₃ e₄ e₅ e₆ e₇ e₈ =
    ap₂ (λ (x y : List ℕ). allocate (request x y k s a v o d)) e₁ e₂
    ∙ ap₂ (λ (x y : ℕ). allocate (request n' at' x y a v o d)) e₃ e₄
    ∙ ap₂ (λ (x y : ℕ). allocate (request n' at' k' s' x y o d)) e₅ e₆
    ∙ ap₂ (λ (x : ℕ) (y : List ℕ). allocate (request n' at' k' s' a' v' x y)) e₇ e₈

pub same_scratch : {n n' d d' : List ℕ} {k k' : ℕ} → n ≡ n' → d ≡ d' → k ≡ k' → scratch n d k ≡ scratch n' d' k'
same_scratch {n} {n'} {d} {d'} {k} {k'} e f g = ap₂ (λ (x y : List ℕ). scratch x y k) e f ∙ ap (scratch n' d') g
