-- The operations and their numbers. Assumes nothing.
use Rattle.std.specs.Prelude.{◌≡◌, ℕ, false, Result, MatchResult}
use Rattle.replay_step.specs.declared.Operation.{Operation}
use Rattle.replay_step.specs.declared.Operation.TheVariants.{Initialise, Allocate, Extend, Release, Scratch, Rename, Obtain, Lspace, Put, DateToStored, DateToPacked, PreviewAllocate, PreviewExtend, PreviewRelease, PreviewScratch}
use Rattle.replay_step.specs.declared.NoOperation.{NoOperation}
use Rattle.model.specs.Basics.{within}

abbrev pub number_of : Operation → ℕ
number_of Initialise = 1
number_of Allocate = 2
number_of Extend = 3
number_of Release = 4
number_of Scratch = 5
number_of Rename = 6
number_of Obtain = 7
number_of Lspace = 8
number_of Put = 9
number_of DateToStored = 10
number_of DateToPacked = 11
number_of PreviewAllocate = 130
number_of PreviewExtend = 131
number_of PreviewRelease = 132
number_of PreviewScratch = 133

-- no operation has this number
abbrev pub Unused : ℕ → Type 0
Unused n = (within 1 11 n ≡ false) × (within 130 133 n ≡ false)

-- the operation that has this number, or none has it
abbrev pub Decodes : ℕ → Result Operation NoOperation → Type 0
Decodes n r = MatchResult r (λ operation. number_of operation ≡ n) (λ _. Unused n)
