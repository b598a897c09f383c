use Rattle.replay_record.proofs.Laws.{line_done}
use Rattle.replay_record.proofs.put_line.Goals as goal

pub returns : goal.returns
returns c =
    line_done c.args.op c.args.res c.args.answer.now c.args.table c.args.labels c.requires.0 c.requires.1 c.put_hex-a.ensures c.put_result-b.ensures c.put_byte-c.ensures c.put_hexes-d.ensures c.put_four-e.ensures c.put_four-f.ensures c.put_byte.ensures
