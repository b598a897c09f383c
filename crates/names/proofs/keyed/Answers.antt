use native.Mathlib.Omega.{arith}
use lib.Bits.{xor_lt}
use Rattle.names.proofs.Laws.{halves_fit}
use Rattle.names.proofs.keyed.Goals as goal

pub overflow_mul-result : goal.overflow_mul-result
overflow_mul-result c = record { fits = halves_fit _ (xor_lt 64 c.word8.result c.args.key (omega arith) (omega arith)) }
