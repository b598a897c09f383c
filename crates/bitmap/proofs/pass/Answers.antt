use Rattle.bitmap.proofs.Words.{unlike_on}
use Rattle.bitmap.proofs.pass.Goals as goal

pub returns : goal.returns
returns c =
    let a = c.args in
    let p = c.pass_fours-r.ensures in
    unlike_on a.map.now a.plain a.w a.e c.pass_fours-r.result c.pass_ones.result p.0 p.2 c.pass_ones.ensures
