-- Which refusals each call may answer, written in the order in which the papers check them. The law (proofs/Refusals) is
-- that a call answers no other; the order is the nesting in Calls and Entries. Assumes nothing.
use Rattle.std.specs.Prelude.{◌≡◌, ℕ, true, List, [], ◌∷◌, eqb}
use Rattle.model.specs.Basics.{any}
use Rattle.rules.specs.Calls.{Call, allocate, extend, lspace, obtain, preview, release, rename, scratch}

-- "Checked in order: initialise 1, 2"
abbrev pub refusals_of_initialise : List ℕ
refusals_of_initialise = 1 ∷ 2 ∷ []

-- "allocate 2, 3, 4, 7, 6, 9, 11; extend 2, 3, 4, 5, 8, 9, 10, 11; release 2, 3, 4, 5, 12, 11; scratch and obtain 2, 3, 4, 5;
-- rename 2, 3, 4 (either name), 5, 6; LSPACE 2, 3"; document 02, [5]: "13 .., scratch only, right after 5; 14 .., right after 4"; a
-- preview as its call
abbrev pub refusals : Call → List ℕ
refusals (allocate q) = 2 ∷ 3 ∷ 4 ∷ 14 ∷ 7 ∷ 6 ∷ 9 ∷ 11 ∷ []
refusals (extend n) = 2 ∷ 3 ∷ 4 ∷ 5 ∷ 8 ∷ 9 ∷ 10 ∷ 11 ∷ []
refusals (release n ttr) = 2 ∷ 3 ∷ 4 ∷ 5 ∷ 12 ∷ 11 ∷ []
refusals (scratch n today override) = 2 ∷ 3 ∷ 4 ∷ 14 ∷ 5 ∷ 13 ∷ []
refusals (rename old new) = 2 ∷ 3 ∷ 4 ∷ 5 ∷ 6 ∷ []
refusals (obtain n) = 2 ∷ 3 ∷ 4 ∷ 5 ∷ []
refusals lspace = 2 ∷ 3 ∷ []
refusals (preview c) = refusals c

-- dates converted: 2, 14. "Numbers added here and later join the twelve of demand 1"
abbrev pub refusals_of_date_call : List ℕ
refusals_of_date_call = 2 ∷ 14 ∷ []

abbrev pub OneOf : List ℕ → ℕ → Type 0
OneOf ns n = any (eqb n) ns ≡ true

-- "the result is 0 or the refusal"
abbrev pub ZeroOr : List ℕ → ℕ → Type 0
ZeroOr ns n = OneOf (0 ∷ ns) n
