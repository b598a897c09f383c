use native.Mathlib.Omega.{arith}
use Rattle.replay_record.proofs.Laws.{four_hexes}
use Rattle.replay_record.proofs.put_four.Goals as goal

pub returns : goal.returns
returns c = four_hexes c.args.v (omega arith) c.put_byte-p.ensures c.to_be_bytes.ensures c.put_hexes.ensures
