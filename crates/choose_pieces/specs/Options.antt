-- The options of a request as the code holds them, and how they use the pass over the free extents. Assumes nothing.
use Rattle.std.specs.Prelude.{ℕ, ◌≡◌, cond, List, [], ◌∷◌, leb, Result, MatchResult}
use Rattle.std.proofs.Math.Option.{none, some}
use Rattle.model.specs.Model.{Run}
use Rattle.model.specs.Choice.{SpaceOption, alx, contig, mxig, no_option}
use Rattle.choose_pieces.specs.declared.SpaceOption.{SpaceOption as Asked}
use Rattle.choose_pieces.specs.declared.SpaceOption.TheVariants.{NoOption, Contig, Mxig, Alx}
use Rattle.choose_pieces.specs.declared.UnknownOption.{UnknownOption}
use Rattle.rules.specs.Calls.{option_of}

-- the rules' option. Its number, "CONTIG (1; 0 is no option)", "MXIG (2)", "ALX (3)", is the rules' too (`option_of`)
abbrev pub to_option : Asked → SpaceOption
to_option NoOption = no_option
to_option Contig = contig
to_option Mxig = mxig
to_option Alx = alx

-- the result is the option with this number, or says that no option has it
abbrev pub Numbered : ℕ → Result Asked UnknownOption → Type 0
Numbered n r = MatchResult r (λ o. some (to_option o) ≡ option_of n) (λ e. (option_of n ≡ none) × (e.0 ≡ n))

-- the amount that the pass looks for: where the longest are wanted, more than any candidate has
abbrev pub sought : SpaceOption → ℕ → ℕ
sought no_option n = n
sought contig n = n
sought mxig n = 65536
sought alx n = 65536

-- the first of ds, up to one that is shorter than n
abbrev pub serve_first : ℕ → List Run → List Run
serve_first n [] = []
serve_first n (d ∷ ds) = cond (leb n d.count) (d ∷ serve_first n ds) []
